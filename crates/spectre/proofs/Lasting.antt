-- Once a crash can leave nothing but a journal, it leaves one at each later moment of the answering of a feed.
use Rattle.std.proofs.Common.{ℕ, List, inl, inr, Option, IfSome, Result, Ok, Err}
use Rattle.sp_disk.specs.Moments.{IsMoment, Lasts, Looks, Moment as DiskMoment}
use Rattle.sp_disk.proofs.Lasting.{looks_last}
use Rattle.sp_feed.specs.Reads.{Moment}
use Rattle.sp_feed.specs.declared.fault.FeedFault.TheVariants as faults
use Rattle.sp_journal.specs.Creation.{HoldsJournal}
use Rattle.sp_node.specs.declared.stored.Stored.{Stored}
use Rattle.sp_node.specs.declared.stored.Stored.TheVariants.{Empty, Found}
use Rattle.spectre.specs.Keeping.{KeepAnswers, TriedBy, Tries, UntriedBy}
use Rattle.spectre.specs.declared.keep.KeepFault.{KeepFault}
use Rattle.spectre.specs.declared.keep.KeepFault.TheVariants.{DiskFault, Feed, Memory, OtherChain, WriteFault}
use Rattle.spectre.specs.declared.replay.ReplayFault.{ReplayFault}
use Rattle.spectre.proofs.KeptRuns.{on_one, told_by}

-- so much is said of a run, where the disk tells its bytes
abbrev pub JournalLasts : DiskMoment → DiskMoment → Type 0
JournalLasts first last = IfSome first.reads (λ disk. Lasts first last HoldsJournal)

-- the disk was only looked at
pub looked_lasts : (first last : DiskMoment) → IsMoment first → IsMoment last → Looks first last → JournalLasts first last
looked_lasts first last law last_law looks = on_one first.reads _ (λ disk r. looks_last first last HoldsJournal law last_law looks)

module _ (stored : Stored) (first last : DiskMoment) (law : IsMoment first) (last_law : IsMoment last) where
  -- a node was started
  started_lasts : {start now : Moment} {old mid : Option (List ℕ)} {result : Result (Unit {0}) ReplayFault} → Tries stored start now old mid first last result → JournalLasts first last
  started_lasts t = on_one first.reads _ (λ disk r. t.1.lasts (told_by first disk r))

  tried_lasts : (start now : Moment) (old mid : Option (List ℕ)) (result : Result (Unit {0}) KeepFault) → TriedBy stored start now old mid first last result → JournalLasts first last
  tried_lasts start now old mid (Ok u) t = started_lasts {start = start} {now = now} {old = old} {mid = mid} t
  tried_lasts start now old mid (Err (Feed fault)) t = started_lasts {start = start} {now = now} {old = old} {mid = mid} t
  tried_lasts start now old mid (Err (OtherChain a b p c d q)) t = absurd t
  tried_lasts start now old mid (Err WriteFault) t = started_lasts {start = start} {now = now} {old = old} {mid = mid} t
  tried_lasts start now old mid (Err DiskFault) t = started_lasts {start = start} {now = now} {old = old} {mid = mid} t
  tried_lasts start now old mid (Err Memory) t = started_lasts {start = start} {now = now} {old = old} {mid = mid} t

  -- none was
  untried_lasts : (start now : Moment) (given : List ℕ) (result : Result (Unit {0}) KeepFault) → UntriedBy stored start now given first last result → JournalLasts first last
  untried_lasts start now given (Ok u) w = absurd w
  untried_lasts start now given (Err (Feed (faults.Malformed at))) w = looked_lasts first last law last_law w.1
  untried_lasts start now given (Err (Feed (faults.Truncated at))) w = looked_lasts first last law last_law w.2
  untried_lasts start now given (Err (Feed faults.ReadFault)) w = looked_lasts first last law last_law w.2
  untried_lasts start now given (Err (Feed (faults.TooLong taken))) w = looked_lasts first last law last_law w.1
  untried_lasts start now given (Err (OtherChain a b p c d q)) w = looked_lasts first last law last_law w.1
  untried_lasts start now given (Err WriteFault) w = absurd w
  untried_lasts start now given (Err DiskFault) w = by stored w
    where
      by : (s : Stored) → UntriedBy s start now given first last (Err DiskFault) → JournalLasts first last
      by (Empty gate) m = on_one first.reads _ (λ disk r. m.lasts (told_by first disk r))
      by (Found o) m = absurd m
  untried_lasts start now given (Err Memory) w = looked_lasts first last law last_law w

  pub answered_lasts : {start now : Moment} {old mid : Option (List ℕ)} {result : Result (Unit {0}) KeepFault} → KeepAnswers stored start now old mid first last result → JournalLasts first last
  answered_lasts {start = start} {now = now} {result = result} (inl u) = untried_lasts start now u.given result u.why
  answered_lasts {start = start} {now = now} {old = old} {mid = mid} {result = result} (inr t) = tried_lasts start now old mid result t
