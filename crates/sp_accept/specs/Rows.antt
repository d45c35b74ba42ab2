-- Carriers by their numbers, and the graph of their blocks.
use Rattle.std.specs.Prelude.{ℕ, ◌≡◌, false, List, length, slice_index_or}
use Rattle.sp_dag.specs.Numbered.{Numbered, AreInOrder}
use Rattle.sp_carry.specs.declared.carrier.Carrier.{Carrier}
use Rattle.sp_carry.specs.Payment.{Payment, payment_of}
use Rattle.sp_carry.specs.Carried.{AreSound, Carried, tx_at}

abbrev pub no_row : Carrier
no_row = record { block = 0; tx = 0; sound = false }

-- the carrier of a number
abbrev pub row_at : List Carrier → ℕ → Carrier
row_at rows c = slice_index_or rows c no_row

-- the payment of a transaction's number
abbrev pub payment_at : Carried → ℕ → Payment
payment_at k tx = payment_of (tx_at k tx)

-- The blocks of these carriers are those of the graph with these parents: as many, each parent before its block, and
-- what the carriers say of soundness is so in that graph
pub record AreOf (table : Numbered) (k : Carried) : Type 0 where
  pub long : length table.parents ≡ k.blocks
  pub order : AreInOrder table.parents
  pub sound : AreSound table k
