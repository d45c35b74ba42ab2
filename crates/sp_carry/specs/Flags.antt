-- A flag for each number, and how flips set them.
use Rattle.std.specs.Prelude.{ℕ, Bool, false, List, [], ◌∷◌, slice_set, slice_index_or}
use Rattle.sp_carry.specs.declared.carrier.Flip.{Flip}

-- whether the flag of a number is there and set
abbrev pub is_set : List Bool → ℕ → Bool
is_set flags n = slice_index_or flags n false

-- the flags, where one after another is set to what a flip says
abbrev pub with_flips : List Bool → List Flip → List Bool
with_flips flags [] = flags
with_flips flags (flip ∷ flips) = with_flips (slice_set flags flip.tx flip.now) flips
