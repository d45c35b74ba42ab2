-- What a run takes of a feed, and what it has written by then.
use Rattle.std.specs.Prelude.{◌≡◌, ◌<◌, ◌≤◌, ℕ, List, ◌++◌, length, Option}
use Rattle.std.specs.Io.KnownBytes.{Consumes}
use Rattle.sp_io.specs.Whole.{AppendsAtLeast}
use Rattle.sp_feed.specs.Feed.{Truncated}
use Rattle.spectre.specs.Replay.{fed, feed_limit, replied}

-- no front of these bytes but all of them is a whole feed, or at fault but for its early end: not a
-- byte more was taken than is needed
abbrev pub AreNeeded : List ℕ → Type 0
AreNeeded given =
    (front rest : List ℕ) → given ≡ front ++ rest → 0 < length rest → (fed front).end ≡ Truncated (length front)

-- what is due for each such front was written
abbrev pub AreTold : (List ℕ → List ℕ) → Option (List ℕ) → Option (List ℕ) → List ℕ → Type 0
AreTold due old new given =
    (front rest : List ℕ) → given ≡ front ++ rest → 0 < length rest → AppendsAtLeast old new (due front)

-- so much was taken of a source, while a sink's known bytes went from old to new
pub record TakesFeedFor (due : List ℕ → List ℕ) (before after old new : Option (List ℕ)) : Type 0 where
  pub given : List ℕ
  pub consumed : Consumes before after given
  pub within : length given ≤ feed_limit
  pub needed : AreNeeded given
  pub answered : AreTold due old new given

-- the same where the lines of the messages are due, behind the blocks of a journal

abbrev pub AreAnswered : List (List ℕ) → Option (List ℕ) → Option (List ℕ) → List ℕ → Type 0
AreAnswered arrived old new given = AreTold (replied arrived) old new given

abbrev pub TakesFeed : List (List ℕ) → Option (List ℕ) → Option (List ℕ) → Option (List ℕ) → Option (List ℕ) → Type 0
TakesFeed arrived before after old new = TakesFeedFor (replied arrived) before after old new
