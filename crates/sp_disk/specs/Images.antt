-- What a write does to a list of bytes, and what a crash may make of it.
use Rattle.std.specs.Prelude.{◌≡◌, ◌⊎◌, ℕ, ◌+◌, ◌<◌, ◌≤◌, max, List, ◌++◌, length, get_or, take, drop}

-- the list with these bytes at this place
abbrev pub written : List ℕ → ℕ → List ℕ → List ℕ
written old at bytes = take at old ++ (bytes ++ drop (at + length bytes) old)

-- What a crash may make of a list while a write of n bytes at a place is pending: a length between the old one
-- and the one that the write reaches, any bytes in the range and behind the old end, and the old ones elsewhere.
pub record PartlyWritten (at n : ℕ) (old new : List ℕ) : Type 0 where
  pub no_shorter : length old ≤ length new
  pub no_longer : length new ≤ max (length old) (at + n)
  pub same : (place : ℕ) → place < length old → (place < at) ⊎ (at + n ≤ place) → get_or new place 0 ≡ get_or old place 0

-- each of the new images comes by the step of one of the old ones
abbrev pub EachComesBy : (List ℕ → List ℕ → Type 0) → (List ℕ → Type 0) → (List ℕ → Type 0) → Type 0
EachComesBy step old new = (image : List ℕ) → new image → (before : List ℕ) × old before × step before image

-- each of these images is one of those
abbrev pub Among : (List ℕ → Type 0) → (List ℕ → Type 0) → Type 0
Among those these = (image : List ℕ) → these image → those image

-- these images are those
abbrev pub Same : (List ℕ → Type 0) → (List ℕ → Type 0) → Type 0
Same those these = Among those these × Among these those

-- each of the images is these bytes
abbrev pub EachIs : List ℕ → (List ℕ → Type 0) → Type 0
EachIs bytes images = (image : List ℕ) → images image → image ≡ bytes
