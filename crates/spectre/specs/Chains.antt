-- How a run ends where it finds the journal of another chain than that of the feed: the feed's head decides it, whatever
-- follows.
use Rattle.std.specs.Prelude.{◌≡◌, ◌<◌, ℕ, List, [], ◌∷◌, ◌++◌, length, Option, None}
use Rattle.std.specs.Io.KnownBytes.{Consumes}
use Rattle.spectre.specs.Replay.{fed}
use Rattle.spectre.specs.OneOf.{IsOneOf}
use Rattle.spectre.specs.declared.status.Status.{Status}
use Rattle.spectre.specs.declared.status.Status.TheVariants as status

-- the statuses that it can end with: that fault's, or one of the outside or of memory
abbrev pub EndsByChain : Status → Type 0
EndsByChain s = IsOneOf s (status.ReadFault ∷ status.WriteFault ∷ status.DiskFault ∷ status.OtherChain ∷ status.Memory ∷ [])

-- no front of these bytes but all of them has a whole head: not a byte behind the head was taken
abbrev pub EndAtHead : List ℕ → Type 0
EndAtHead given = (front rest : List ℕ) → given ≡ front ++ rest → 0 < length rest → (fed front).head ≡ None

-- Of the feed the head was taken at most; and nothing where the disk failed, since it is opened before.
pub record TakesHead (before after : Option (List ℕ)) (s : Status) : Type 0 where
  pub given : List ℕ
  pub consumed : Consumes before after given
  pub needed : EndAtHead given
  pub opened : s ≡ status.DiskFault → given ≡ []

abbrev pub EndsAtHead : Option (List ℕ) → Option (List ℕ) → Status → Type 0
EndsAtHead before after s = EndsByChain s × TakesHead before after s
