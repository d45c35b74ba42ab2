-- What is true of all kept blocks, on which each answer rests.
use Rattle.std.specs.Prelude.{◌≡◌, ◌≤◌, ℕ, true, List, map, sum_by, Ok, Contains, IsTrue, IsFalse}
use Rattle.std.specs.List.{flat_map}
use Rattle.sp_form.specs.Bytes.{IsBytes}
use Rattle.sp_block.specs.Block.{ReadBlock}
use Rattle.sp_model.specs.Graph.{AreDistinct}
use Rattle.sp_model.specs.declared.profile.Profile.{Profile}
use Rattle.sp_pool.specs.Kept.{present}
use Rattle.sp_carry.specs.Payment.{conflicts, paid_amount, Payment, payment_of, Spent}
use Rattle.sp_carry.specs.Ledger.{accepted_carriers, is_accepted, IsPlain}
use Rattle.sp_engine.specs.Arrivals.{kept_by_all}
use Rattle.sp_engine.specs.Blocks.{block_in}
use Rattle.sp_engine.specs.Transactions.{balance_by_id, ledger_by_id, ledger_of}
use Rattle.sp_feed.specs.Kinds.{Said}
use Rattle.sp_node.specs.Answers.{arrivals_of}

-- the bytes that arrive with these messages
abbrev pub arrived : List Said → List (List ℕ)
arrived messages = flat_map arrivals_of messages

-- What is true of all accepted transactions of the present blocks. The first and the last are so where no two
-- different transactions of these blocks have one id: no two accepted ones conflict; each accepted one has accepted
-- inputs; and the balances of any different locks are together at most what genesis grants
pub record Agrees (profile : Profile) (genesis : ReadBlock) (kept : List ReadBlock) : Type 0 where
  pub no_conflict : IsPlain (ledger_of profile kept) (present kept) → (t u : Payment) →
      Contains (accepted_carriers (ledger_by_id profile kept) (present kept)) t → Contains (accepted_carriers (ledger_by_id profile kept) (present kept)) u →
      IsFalse (conflicts t u)
  pub sources : (t : Payment) (i : Spent) →
      Contains (accepted_carriers (ledger_by_id profile kept) (present kept)) t → Contains t.inputs i →
      IsTrue (is_accepted (ledger_by_id profile kept) (present kept) i.from.tx)
  pub granted : IsPlain (ledger_of profile kept) (present kept) → (locks : List ℕ) → AreDistinct locks →
      sum_by (balance_by_id profile kept) locks ≤ sum_by paid_amount (map payment_of genesis.txs)

-- Whatever bytes arrive behind whatever genesis block, it is true of the blocks that are kept of them. Each answer to a feed
-- or a scenario, each report and each summary is defined over such blocks, those of a journal among the arrivals
abbrev pub KeptAgree : Type 0
KeptAgree =
    (profile : Profile) (bits : ℕ) (genesis : ReadBlock) (arrivals : List (List ℕ)) → IsBytes genesis.bytes → block_in true genesis.bytes ≡ Ok genesis →
    ((bytes : List ℕ) → Contains arrivals bytes → IsBytes bytes) → Agrees profile genesis (kept_by_all bits genesis arrivals)
