-- Matrices of virtual votes.
use Rattle.std.specs.Prelude.{ℕ, ◌+◌, ◌*◌, ◌≡◌, ◌<◌, List, map, slice_index_or, ℤ, pos}
use Rattle.std.specs.List.{flat_map, range_with_len}
use Rattle.sp_model.specs.Graph.{Graph, past}
use Rattle.sp_model.specs.Votes.{virt}

-- votes on each two of so many first blocks, by the left one and then by the right one
pub record Virts : Type 0 where
  pub width : ℕ
  pub votes : List ℤ

abbrev pub entry : Virts → ℕ → ℕ → ℤ
entry virts x y = slice_index_or virts.votes (x * virts.width + y) (pos 0)

-- the virtual votes of a set on each two blocks below n
abbrev pub virts_in : Graph → List ℕ → ℕ → Virts
virts_in graph set n = record { width = n; votes = flat_map (λ x. map (virt graph set x) (range_with_len 0 n)) (range_with_len 0 n) }

-- the virtual votes of a block's past on each two blocks before it
abbrev pub past_virts : Graph → ℕ → Virts
past_virts graph z = virts_in graph (past graph z) z

-- Each entry is the virtual vote of the set.
pub record HasVirts (graph : Graph) (set : List ℕ) (n : ℕ) (virts : Virts) : Type 0 where
  pub width : virts.width ≡ n
  pub each : (x y : ℕ) → x < n → y < n → entry virts x y ≡ virt graph set x y
