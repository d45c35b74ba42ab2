-- A block in which rivals stand in the way of carriers of another one from beside, and what rows then decide.
use Rattle.std.specs.Prelude.{ℕ, ◌⊎◌, Bool, false, List, Option, Some, None, IsFalse, IsTrue}
use Rattle.sp_model.specs.Graph.{has}
use Rattle.sp_dag.specs.Numbered.{Numbered}
use Rattle.sp_accept.specs.Around.{is_unbeaten, IsAround}

-- the row has the block, where there is one
abbrev pub holds : Option ℕ → List ℕ → Bool
holds None row = false
holds (Some w) row = has row w

-- of the blocks with rivals of a carrier in z, w is one in which they stand in the way from beside, and isn't taken for another
pub record IsWitness (table : Numbered) (z : ℕ) (rivals beaten : List ℕ) (w : ℕ) : Type 0 where
  pub there : IsTrue (has rivals w)
  pub unbeaten : IsTrue (is_unbeaten table z w)
  pub out : IsFalse (has beaten w)

-- the rows decide on a carrier in z with rivals in these blocks: they tell of each of these, or one of these is a witness
abbrev pub Decide : Numbered → ℕ → List ℕ → List ℕ → List ℕ → Type 0
Decide table z rivals beaten safe = IsAround table z rivals beaten safe ⊎ ((w : ℕ) × IsWitness table z rivals beaten w)
