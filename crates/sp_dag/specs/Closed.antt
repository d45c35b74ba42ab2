-- A block with its future.
use Rattle.std.specs.Prelude.{ℕ, List}
use Rattle.sp_model.specs.Graph.{Graph}
use Rattle.sp_model.specs.Loose.{in_bar}
use Rattle.sp_bits.specs.Places.{places_where}

-- the numbers of a block and of those that have it in their past
abbrev pub closed : Graph → ℕ → List ℕ
closed graph z = places_where (λ w. in_bar graph z w)
