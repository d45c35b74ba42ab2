-- The entries of a view that were saved before they changed, by which it is put back.
use Rattle.std.specs.Prelude.{ℕ, ◌≡◌, ◌<◌, ◌≤◌, ◌+◌, List, [], ◌∷◌, length, Option, Some, None, IsSome}
use Rattle.sp_rows.specs.Pool.{Pool}
use Rattle.sp_view.specs.Stored.{count_of}
use Rattle.sp_view.specs.Views.{entry_at, held}

-- the saved entry, or where none is saved the one that stands there
abbrev pub either : Option (ℕ × ℕ) → Option (ℕ × ℕ) → Option (ℕ × ℕ)
either None entry = entry
either (Some saved) entry = Some saved

-- the entries that a view had, so many as may be saved
abbrev pub patched : List (Option (ℕ × ℕ)) → List (Option (ℕ × ℕ)) → List (Option (ℕ × ℕ))
patched [] entries = []
patched (saved ∷ rest) [] = saved ∷ patched rest []
patched (saved ∷ rest) (entry ∷ entries) = either saved entry ∷ patched rest entries

-- no more entries may be saved than a view has, and each of these had rows
pub record IsSaving (saved entries : List (Option (ℕ × ℕ))) : Type 0 where
  pub long : length saved ≤ length entries
  pub there : (i : ℕ) → i < length saved → IsSome (entry_at (patched saved entries) i)

-- each row is counted as before, but for what a view's entries and the saved ones hold of it
abbrev pub AreCountedWith : Pool → Pool → List (Option (ℕ × ℕ)) → List (Option (ℕ × ℕ)) → List (Option (ℕ × ℕ)) → List (Option (ℕ × ℕ)) → Type 0
AreCountedWith before after entries saved entries' saved' =
    (r : ℕ) → count_of after r + (held entries r + held saved r) ≡ count_of before r + (held entries' r + held saved' r)
