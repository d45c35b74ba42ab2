-- The lines of all messages of a feed, behind the blocks of a journal, and then the line of its fault.
use Rattle.std.proofs.Common.{◌≡◌, ◌≢◌, ℕ, List, ◌++◌, Option, IfSome, Ok, Err, refl, ap, sym, subst, ◌∙◌}
use Rattle.std.specs.Io.KnownBytes.{Appends}
use Rattle.std.proofs.lemmas.List.{append-nil}
use Rattle.sp_feed.specs.Feed.{End, Whole}
use Rattle.sp_feed.specs.Reads.{Moment}
use Rattle.sp_feed.specs.declared.fault.FeedFault.{FeedFault}
use Rattle.sp_feed.specs.declared.fault.FeedFault.TheVariants as faults
use Rattle.sp_io.specs.Whole.{AppendsFront}
use Rattle.spectre.specs.Faults.{EndsWhole, feed_fault_text, status_of}
use Rattle.spectre.specs.Replay.{end_text, fed, replayed, replied}
use Rattle.spectre.specs.Replaying.{Replies}
use Rattle.spectre.specs.Taken.{TakesFeed}
use Rattle.spectre.specs.declared.replay.ReplayFault.TheVariants.{DiskFault, Feed, WriteFault, Memory}
use Rattle.spectre.specs.declared.status.Status.{Status}
use Rattle.spectre.specs.declared.status.Status.TheVariants as status
use Rattle.spectre.proofs.Due.{Begins, Closes, takes_line}
use Rattle.spectre.proofs.Due as due
pub use Rattle.spectre.proofs.Due.{by_status, done_rest, Ends, is_malformed, is_read_fault, is_too_long, is_truncated, limit_taken, malformed_left, nothing_left, takes, with_input}

-- the lines of the messages, and then the line of the end
pub text_is : (before : List (List ℕ)) (input : List ℕ) (end : End) → (fed input).end ≡ end → replayed before input ≡ replied before input ++ end_text end
unfolding replayed replied
text_is before input end e = ap (λ (x : End). replied before input ++ end_text x) e

closes : (before : List (List ℕ)) → Closes (replied before) (replayed before)
closes before input end e stops = text_is before input end e

begins : (before : List (List ℕ)) → Begins (replied before) (replayed before)
begins before input = (end_text (fed input).end, text_is before input (fed input).end refl)

module _ (before : List (List ℕ)) {start now : Moment} {old new : Option (List ℕ)} where
  -- the end was read
  pub done_text : Replies before start now old new (Ok tt) → IfSome start.left (λ input. Appends old new (replayed before input) × EndsWhole (fed input).end)
  done_text r = with_input (λ input. Appends old new (replayed before input) × EndsWhole (fed input).end) start.left now.left r.given r.took.consumed (λ rest e.
      let s = r.says rest in (
        subst (λ (t : List ℕ). Appends old new t) (sym (text_is before (r.given ++ rest) (Whole rest) s.1 ∙ append-nil (replied before (r.given ++ rest)))) s.0,
        subst EndsWhole (sym s.1) tt,
      ))

  -- a message wasn't answered
  pub write_text : Replies before start now old new (Err WriteFault) → IfSome start.left (λ input. AppendsFront old new (replayed before input))
  write_text r = due.write_front (replayed before) (begins before) r

  pub disk_text : Replies before start now old new (Err DiskFault) → IfSome start.left (λ input. AppendsFront old new (replayed before input))
  disk_text r = due.disk_front (replayed before) (begins before) r

  pub memory_text : Replies before start now old new (Err Memory) → IfSome start.left (λ input. AppendsFront old new (replayed before input))
  memory_text r = due.memory_front (replayed before) (begins before) r

-- and then a line, or a front of it
pub takes_then : (arrived : List (List ℕ)) (before after old mid new : Option (List ℕ)) (line : List ℕ) → TakesFeed arrived before after old mid → AppendsFront mid new line → TakesFeed arrived before after old new
takes_then arrived before after old mid new line t h = takes_line (replied arrived) before after old mid new line t h

module _ (before : List (List ℕ)) {start now : Moment} {old mid : Option (List ℕ)} where
  pub fault_written : (new : Option (List ℕ)) (e : FeedFault) → Replies before start now old mid (Err (Feed e)) → (e ≡ faults.ReadFault → ⊥) → Appends mid new (feed_fault_text e) → IfSome start.left (λ input. Appends old new (replayed before input) × Ends e (fed input).end)
  fault_written new e r other b = due.fault_written (replayed before) (closes before) new e r other b

  -- a read failed
  pub read_text : (new : Option (List ℕ)) (e : FeedFault) → Replies before start now old mid (Err (Feed e)) → e ≡ faults.ReadFault → Appends mid new (feed_fault_text e) → IfSome start.left (λ input. AppendsFront old new (replayed before input))
  read_text new e r is none = due.read_begun (replayed before) (begins before) new e r is none

  pub fault_front : (new : Option (List ℕ)) (e : FeedFault) → Replies before start now old mid (Err (Feed e)) → (e ≡ faults.ReadFault → ⊥) → AppendsFront mid new (feed_fault_text e) → IfSome start.left (λ input. AppendsFront old new (replayed before input))
  fault_front new e r other b = due.fault_front (replayed before) (closes before) new e r other b

  -- the line of a fault was written, which gives this status
  pub fault_line_whole : (new : Option (List ℕ)) (e : FeedFault) (result s : Status) (Q : End → Type 0) → ((end : End) → status_of e ≡ s → Ends e end → Q end) → (s ≡ status.WriteFault → ⊥) → (s ≡ status.ReadFault → ⊥)
      → Replies before start now old mid (Err (Feed e)) → (result ≢ status.WriteFault → result ≡ status_of e) → (result ≢ status.WriteFault → Appends mid new (feed_fault_text e))
      → result ≡ s → IfSome start.left (λ input. Appends old new (replayed before input) × Q (fed input).end)
  fault_line_whole new e result s Q ends no_write no_read r same text is = due.fault_line_whole (replayed before) (closes before) new e result s Q ends no_write no_read r same text is

  -- its line wasn't written whole
  pub fault_line_cut : (new : Option (List ℕ)) (e : FeedFault) (result : Status) → Replies before start now old mid (Err (Feed e)) → AppendsFront mid new (feed_fault_text e) → (e ≡ faults.ReadFault → result ≡ status.ReadFault)
      → result ≡ status.WriteFault → IfSome start.left (λ input. AppendsFront old new (replayed before input))
  fault_line_cut new e result r front other is = due.fault_line_cut (replayed before) (closes before) new e result r front other is
