-- The transactions of the kept blocks: the ledger that they make, and the order in which they became present.
use Rattle.std.specs.Prelude.{ℕ, ◌==◌, List, [], map, find, flat_map, Option, Some, None}
use Rattle.sp_ids.specs.declared.outpoint.Outpoint.{Outpoint}
use Rattle.sp_tx.specs.declared.parts.Output.{Output}
use Rattle.sp_tx.specs.Parts.{Transaction}
use Rattle.sp_tx.specs.Spending.{id_of}
use Rattle.sp_block.specs.Block.{ReadBlock}
use Rattle.sp_model.specs.declared.profile.Profile.{Profile}
use Rattle.sp_pool.specs.Kept.{graph_in, present}
use Rattle.sp_carry.specs.declared.state.TxState.{TxState}
use Rattle.sp_carry.specs.Carried.{first_like}
use Rattle.sp_carry.specs.Ledger.{Ledger, state}
use Rattle.sp_carry.specs.Money.{accepted_txs, balance, Coin, coins}
use Rattle.sp_carry.specs.Payment.{output_at, payment_of, Payment}
use Rattle.sp_money.specs.Locks.{each_once}
use Rattle.sp_money.specs.Names.{names_under}
use Rattle.sp_engine.specs.Presence.{order_of}

abbrev pub txs_or_none : Option ReadBlock → List Transaction
txs_or_none None = []
txs_or_none (Some block) = block.txs

-- the transactions of the kept block of an id, in their order
abbrev pub txs_of : List ReadBlock → ℕ → List Transaction
txs_of kept id = txs_or_none (find (λ (block : ReadBlock). block.id == id) kept)

-- the graph of the kept blocks in a profile, and the transactions of each
abbrev pub ledger_of : Profile → List ReadBlock → Ledger
ledger_of profile kept = record { graph = graph_in profile kept; txs = λ id. map payment_of (txs_of kept id) }

-- the transactions of these blocks, in their order, and then in that of the places in a block
abbrev pub txs_in : List ReadBlock → List ℕ → List Transaction
txs_in kept blocks = flat_map (txs_of kept) blocks

-- The transactions of the kept block of an id, where each stands for the first one of its id: in order of presence, and
-- then of place. They differ from its own only where two transactions of the present blocks have one id
abbrev pub firsts_of : List ReadBlock → ℕ → List Payment
firsts_of kept id = map (λ t. payment_of (first_like (txs_in kept (order_of kept)) t)) (txs_of kept id)

-- the graph of the kept blocks in a profile, and these transactions of each
abbrev pub ledger_by_id : Profile → List ReadBlock → Ledger
ledger_by_id profile kept = record { graph = graph_in profile kept; txs = firsts_of kept }

-- what the present blocks say of the transaction of an id
unfoldable pub state_of : Profile → List ReadBlock → ℕ → TxState
state_of profile kept id = state (ledger_by_id profile kept) (present kept) id

-- the ids of the transactions of these blocks, in their order, and then in that of the places in a block
abbrev pub tx_ids_in : List ReadBlock → List ℕ → List ℕ
tx_ids_in kept blocks = flat_map (λ id. map id_of (txs_of kept id)) blocks

-- the ids of the transactions of the present blocks in order of presence, and then of place, each once
abbrev pub tx_ids : List ReadBlock → List ℕ
tx_ids kept = each_once (tx_ids_in kept (order_of kept))

-- what is left under a lock of the transactions that the present blocks accept
unfoldable pub balance_by_id : Profile → List ReadBlock → ℕ → ℕ
balance_by_id profile kept lock = balance (ledger_by_id profile kept) (present kept) lock

-- the locks of the outputs of these transactions, in order of presence, then of place, then of output, each once
abbrev pub locks : List ReadBlock → List ℕ
locks kept = each_once (map (λ (c : Coin). c.lock) (flat_map coins (flat_map (firsts_of kept) (order_of kept))))

-- the output that an outpoint names among those of the transactions that the present blocks carry
unfoldable pub output_by_id : List ReadBlock → Outpoint → Option Output
output_by_id kept from = output_at (flat_map (firsts_of kept) (present kept)) from

-- the names of what is left under a lock of the transactions that the present blocks accept
abbrev pub names_by_id : Profile → List ReadBlock → ℕ → List Outpoint
names_by_id profile kept lock = names_under (accepted_txs (ledger_by_id profile kept) (present kept)) lock
