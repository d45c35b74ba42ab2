-- What becomes of the saved entries when a block joins a set. For the contracts of private functions alone.
use Rattle.std.specs.Prelude.{ℕ, ◌≡◌, ◌+◌, ◌⊎◌, List, Option, set}
use Rattle.sp_rows.specs.Pool.{Pool}
use Rattle.sp_view.specs.Saved.{either}
use Rattle.sp_view.specs.Steps.{IsStep}
use Rattle.sp_view.specs.Stored.{count_of, live, row_of, spare}
use Rattle.sp_view.specs.Views.{entry_at, held}

-- an entry is saved, if it may be and isn't yet: its rows have one holder more
pub record IsSave (before after : Pool) (place : ℕ) (entry : Option (ℕ × ℕ)) (saved saved' : List (Option (ℕ × ℕ))) : Type 0 where
  pub is : saved' ≡ set saved place (either (entry_at saved place) entry)
  pub counts : (r : ℕ) → count_of after r + held saved r ≡ count_of before r + held saved' r
  pub rows : (r : ℕ) → row_of after r ≡ row_of before r
  pub spare : spare after ≡ spare before
  pub live : live after ≡ live before

-- an entry stands in the place of another one, which is saved before, or nothing changes
abbrev pub IsSavingStep : Pool → Pool → ℕ → Option (ℕ × ℕ) → Option (ℕ × ℕ) → List (Option (ℕ × ℕ)) → List (Option (ℕ × ℕ)) → Type 0
IsSavingStep before after place entry entry' saved saved' =
    ((mid : Pool) × IsSave before mid place entry saved saved' × IsStep mid after entry entry')
    ⊎ ((saved' ≡ saved) × (after ≡ before) × (entry' ≡ entry))
