-- What a table of transactions and carriers keeps.
use Rattle.std.specs.Prelude.{ℕ, ◌≡◌, [], length, map, slice_index_or}
use Rattle.sp_ids.specs.declared.outpoint.Outpoint.{Outpoint}
use Rattle.sp_tx.specs.Spending.{id_of}
use Rattle.sp_carry.specs.declared.table.Table.{Table}
use Rattle.sp_carry.specs.Lookups.{kept_at, spenders_in}
use Rattle.sp_carry.specs.Carried.{Carried, carriers_in}

-- the table has these blocks, transactions and carriers, and what is looked up of them
pub record Keeps (t : Table) (k : Carried) : Type 0 where
  pub blocks : t.blocks ≡ k.blocks
  pub txs : t.txs.items ≡ k.txs
  pub ids : t.ids ≡ map id_of k.txs
  pub rows : t.rows.items ≡ k.rows
  pub long : length t.by_tx.items ≡ length k.txs
  pub lists : (tx : ℕ) → slice_index_or t.by_tx.items tx [] ≡ carriers_in k.rows tx
  pub spenders : (from : Outpoint) → kept_at t.spenders.lists from ≡ spenders_in k.txs from

-- the blocks, transactions and carriers of a table
abbrev pub carried_of : Table → Carried
carried_of t = record { blocks = t.blocks; txs = t.txs.items; rows = t.rows.items }

-- what is looked up of them is right
abbrev pub IsKept : Table → Type 0
IsKept t = Keeps t (carried_of t)
