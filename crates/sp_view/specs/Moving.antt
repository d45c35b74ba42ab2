-- How many rows change, or are new, when a set of blocks grows.
use Rattle.std.specs.Prelude.{ℕ, ◌+◌, Bool, ◌&&◌, List, [], ◌∷◌, if◌then◌else◌}
use Rattle.std.specs.List.{list_all}
use Rattle.sp_model.specs.Graph.{Graph, has}
use Rattle.sp_model.specs.Loose.{plus, minus}
use Rattle.sp_view.specs.Changed.{is_inside}

-- whether two sets have the same places
unfoldable pub is_same : List ℕ → List ℕ → Bool
is_same one other = list_all (has other) one && list_all (has one) other

-- how many of the two rows of a pair change when the set becomes a larger one
unfoldable pub changes_of : Graph → List ℕ → List ℕ → ℕ → ℕ → ℕ
changes_of g set more x y =
    (if is_same (plus g set x y) (plus g more x y) then 0 else 1) + (if is_same (minus g set x y) (minus g more x y) then 0 else 1)

-- how many rows of the pairs inside the set change
abbrev pub changed_rows : Graph → List ℕ → List ℕ → List (ℕ × ℕ) → ℕ
changed_rows g set more [] = 0
changed_rows g set more (pair ∷ pairs) =
    (if is_inside set pair then changes_of g set more pair.0 pair.1 else 0) + changed_rows g set more pairs

-- how many rows of a pair are new or change: both of a pair that the larger set brings
abbrev pub moves_of : Graph → List ℕ → List ℕ → ℕ → ℕ → ℕ
moves_of g set more x y = if has set x && has set y then changes_of g set more x y else (if has more x && has more y then 2 else 0)

-- how many of all pairs
abbrev pub moved_rows : Graph → List ℕ → List ℕ → List (ℕ × ℕ) → ℕ
moved_rows g set more [] = 0
moved_rows g set more (pair ∷ pairs) = moves_of g set more pair.0 pair.1 + moved_rows g set more pairs
