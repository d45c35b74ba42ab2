-- Sums of votes that are kept beside a view, by the numbers of the pairs.
use Rattle.std.specs.Prelude.{ℕ, true, ◌≡◌, ◌≢◌, ◌<◌, List, length, ℤ, Option, Some, slice_get, IfSome}
use Rattle.sp_model.specs.Graph.{Graph}
use Rattle.sp_model.specs.Votes.{sgn}
use Rattle.sp_dag.specs.Numbered.{Numbered, graph_of, pairs_of}
use Rattle.sp_view.specs.Changed.{is_inside}
use Rattle.sp_view.specs.Sums.{sum_of}

-- the sum of a pair, where there is one, is that of a set's votes, if both blocks are in the set
abbrev pub IsSum : Graph → List ℕ → ℕ → ℕ → Option ℤ → Type 0
IsSum g set x y sum = IfSome sum (λ sum. is_inside set (x, y) ≡ true → sum ≡ sum_of g set x y)

-- so is each of some sums
abbrev pub AreRight : Numbered → List ℕ → List ℤ → Type 0
AreRight table set sums = (i x y : ℕ) → slice_get (pairs_of table) i ≡ Some (x, y) → IsSum (graph_of table) set x y (slice_get sums i)

-- there is one for each pair inside a set
abbrev pub AreForAll : Numbered → List ℕ → List ℤ → Type 0
AreForAll table set sums = (i x y : ℕ) → slice_get (pairs_of table) i ≡ Some (x, y) → is_inside set (x, y) ≡ true → i < length sums

-- the sums of a set's votes on all pairs inside it
pub record AreSums (table : Numbered) (set : List ℕ) (sums : List ℤ) : Type 0 where
  pub right : AreRight table set sums
  pub long : AreForAll table set sums

-- there is a sum before and one after, of other signs
abbrev pub HasTurned : Option ℤ → Option ℤ → Type 0
HasTurned old new = (a b : ℤ) × (old ≡ Some a) × (new ≡ Some b) × (sgn a ≢ sgn b)
