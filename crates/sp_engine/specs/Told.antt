-- The ids of the transactions of a kept block, told beside it.
use Rattle.std.specs.Prelude.{◌≡◌, ◌==◌, ℕ, List, map, find, Some}
use Rattle.sp_block.specs.Block.{ReadBlock}
use Rattle.sp_tx.specs.Spending.{id_of}

-- these are the ids of the transactions of the kept block that has this id
abbrev pub AreTold : List ReadBlock → ℕ → List ℕ → Type 0
AreTold kept id ids = (b : ReadBlock) → find (λ (x : ReadBlock). x.id == id) kept ≡ Some b → ids ≡ map id_of b.txs
