-- How the disk of a node stands after the answering of a feed's messages.
use Rattle.std.specs.Prelude.{◌≡◌, ℕ, List, length, Option, Result}
use Rattle.sp_block.specs.Block.{ReadBlock}
use Rattle.sp_disk.specs.Moments.{Moment as DiskMoment}
use Rattle.sp_feed.specs.Reads.{Moment}
use Rattle.sp_journal.specs.Records.{Found, records}
use Rattle.sp_journal.specs.Writer.{Writer}
use Rattle.sp_node.specs.Journalled.{HoldsOn, journal_in, LeavesOn}
use Rattle.sp_node.specs.Terms.{Terms}
use Rattle.spectre.specs.Crashes.{all_of, contents_of, HoldsAcknowledged, HoldsAtLeast}
use Rattle.spectre.specs.Replaying.{OnAll, Replies}
use Rattle.spectre.specs.declared.replay.ReplayFault.{ReplayFault}

-- What these bytes of a feed leave on the disk. A crash at any moment since the first one of the disk leaves a front of
-- what is kept of them, with at least what was kept at first; now it leaves all that was acknowledged; and all that is
-- kept, where all messages were answered.
pub record Secures (before : List (List ℕ)) (given : List ℕ) (old new : Option (List ℕ)) (terms : Terms) (kept : List ReadBlock) (w : Option Writer) (first last : DiskMoment) (result : Result (Unit {0}) ReplayFault) : Type 0 where
  -- the journal from before is a front of it
  pub from : (image : List ℕ) → records image ≡ Found (journal_in terms kept) → HoldsAtLeast (length (journal_in terms kept).blocks) before given image
  pub any_moment : LeavesOn w first last (HoldsAtLeast (length (journal_in terms kept).blocks) before given)
  pub acknowledged : HoldsOn w last (HoldsAcknowledged before given old new)
  pub whole : OnAll result (HoldsOn w last (λ image. records image ≡ Found (contents_of before given (all_of given))))

-- what is written and what is left of the disk, both of the same bytes
abbrev pub RestReplies : List (List ℕ) → Moment → Moment → Option (List ℕ) → Option (List ℕ) → Terms → List ReadBlock → Option Writer → DiskMoment → DiskMoment → Result (Unit {0}) ReplayFault → Type 0
RestReplies before start now old new terms kept w first last result =
    (r : Replies before start now old new result) × Secures before r.given old new terms kept w first last result
