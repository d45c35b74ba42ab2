-- Sums of votes, in a set and in an older one that it has the members of.
use Rattle.std.specs.Prelude.{ℕ, true, ◌≡◌, ◌<◌, ◌==◌, List, ℤ}
use Rattle.sp_bits.specs.Places.{difference}
use Rattle.sp_model.specs.Graph.{Graph, has}
use Rattle.sp_model.specs.Votes.{total, vote}

-- the sum of the votes of a set on two blocks
abbrev pub sum_of : Graph → List ℕ → ℕ → ℕ → ℤ
sum_of g set x y = total (λ z. vote g set z x y) set

-- the members of a set that an older one doesn't have, where it has all members of that one
pub record AreJoined (older set joined : List ℕ) : Type 0 where
  pub into : (z : ℕ) → has older z ≡ true → has set z ≡ true
  pub joined_is : joined ≡ difference set older

-- a row that has one place alone
pub record IsLone (row : List ℕ) (place : ℕ) : Type 0 where
  pub small : place < 512
  pub only : (z : ℕ) → has row z ≡ (z == place)
