-- Voters that are bound on two blocks by what is in their past, and voters that follow the votes above them.
use Rattle.std.specs.Prelude.{ℕ, zero, suc, Bool, true, false, ◌==◌, ◌||◌, ◌&&◌, not, List, filter, ℤ, pos, negsuc}
use Rattle.sp_model.specs.Graph.{Graph, in_past}
use Rattle.sp_model.specs.Votes.{vote}

-- whether a block is the voter z or in its past
abbrev pub in_bar : Graph → ℕ → ℕ → Bool
in_bar graph a z = (z == a) || in_past graph a z

-- Whether neither x nor y is z or in its past. Such a voter is loose for x and y, each other one frozen.
abbrev pub is_loose : Graph → ℕ → ℕ → ℕ → Bool
is_loose graph z x y = not (in_bar graph x z || in_bar graph y z)

-- whether a vote is +1
abbrev pub is_plus : ℤ → Bool
is_plus (pos (suc zero)) = true
is_plus _ = false

-- whether a vote is -1
abbrev pub is_minus : ℤ → Bool
is_minus (negsuc zero) = true
is_minus _ = false

-- the loose voters of the set that vote +1
abbrev pub plus : Graph → List ℕ → ℕ → ℕ → List ℕ
plus graph set x y = filter (λ z. is_loose graph z x y && is_plus (vote graph set z x y)) set

-- the loose voters of the set that vote -1
abbrev pub minus : Graph → List ℕ → ℕ → ℕ → List ℕ
minus graph set x y = filter (λ z. is_loose graph z x y && is_minus (vote graph set z x y)) set
