-- What `spend` writes for a feed.
use Rattle.std.specs.Prelude.{◌≡◌, ℕ, true, List, [], ◌∷◌, ◌++◌, codes, flat_map, Option, Some, None, Result, Ok, Err}
use Rattle.std.specs.Fmt.{decimal}
use Rattle.sp_tx.specs.Parts.{Transaction}
use Rattle.sp_tx.specs.Spelling.{spelling}
use Rattle.sp_block.specs.Block.{ReadBlock}
use Rattle.sp_block.specs.declared.fault.BlockFault.{BlockFault}
use Rattle.sp_model.specs.declared.profile.Profile.{Profile}
use Rattle.sp_pool.specs.Kept.{present}
use Rattle.sp_engine.specs.Arrivals.{kept_by_all}
use Rattle.sp_engine.specs.Blocks.{block_in}
use Rattle.sp_engine.specs.Transactions.{ledger_by_id}
use Rattle.sp_feed.specs.Feed.{Feed}
use Rattle.sp_feed.specs.Format.{Head}
use Rattle.sp_feed.specs.Kinds.{Said}
use Rattle.sp_node.specs.Answers.{arrivals_of}
use Rattle.sp_wallet.specs.Keys.{keys_of}
use Rattle.sp_wallet.specs.Spend.{spend_of}
use Rattle.sp_wallet.specs.declared.fault.SpendFault.{SpendFault}
use Rattle.sp_wallet.specs.declared.fault.SpendFault.TheVariants.{Poor, Large, Memory}
use Rattle.spectre.specs.Replay.{fed}

-- `fault poor N`
unfoldable pub poor_text : ℕ → List ℕ
poor_text reach = codes "fault poor " ++ decimal reach ++ 10 ∷ []

-- `fault large N`
unfoldable pub large_text : ℕ → List ℕ
large_text total = codes "fault large " ++ decimal total ++ 10 ∷ []

-- a transaction, or why there is none
abbrev pub Spent : Type 0
Spent = Result Transaction SpendFault

-- the transaction's bytes, or the line of why there is none
abbrev pub spend_text : Spent → List ℕ
spend_text (Ok t) = spelling t
spend_text (Err (Poor reach)) = poor_text reach
spend_text (Err (Large total)) = large_text total
spend_text (Err Memory) = []

-- the spend over these kept blocks
unfoldable pub spend_over : List (List ℕ) → ℕ → ℕ → Profile → List ReadBlock → Spent
spend_over words amount to profile kept = spend_of (ledger_by_id profile kept) (present kept) (keys_of words) amount to

-- over those that are kept of a feed's messages, if the genesis block is spelled
abbrev pub spend_with : List (List ℕ) → ℕ → ℕ → Result ReadBlock BlockFault → Head → List Said → Option Spent
spend_with words amount to (Ok genesis) head messages =
    Some (spend_over words amount to head.profile (kept_by_all head.bits genesis (flat_map arrivals_of messages)))
spend_with words amount to (Err fault) head messages = None

abbrev pub spend_under : List (List ℕ) → ℕ → ℕ → Option Head → List Said → Option Spent
spend_under words amount to None messages = None
spend_under words amount to (Some head) messages = spend_with words amount to (block_in true head.genesis) head messages

abbrev pub spend_by : List (List ℕ) → ℕ → ℕ → Feed → Option Spent
spend_by words amount to f = spend_under words amount to f.head f.messages

-- the spend over the blocks that are kept of a feed
unfoldable pub spend_fed : List (List ℕ) → ℕ → ℕ → List ℕ → Option Spent
spend_fed words amount to input = spend_by words amount to (fed input)

-- ---- how a spend ends

-- there is a transaction
abbrev pub IsSpend : Option Spent → Type 0
IsSpend None = ⊥
IsSpend (Some (Ok t)) = Unit {0}
IsSpend (Some (Err fault)) = ⊥

-- the amount isn't reached: what is left under the locks comes to this, or the 16 largest of it
abbrev pub IsPoorBy : Option Spent → Type 0
IsPoorBy s = (reach : ℕ) × (s ≡ Some (Err (Poor reach)))

-- what is chosen comes to 2^63 or more
abbrev pub IsLargeBy : Option Spent → Type 0
IsLargeBy s = (total : ℕ) × (s ≡ Some (Err (Large total)))
