-- What a watch comes to, by the input of a source that tells its bytes.
use Rattle.std.proofs.Common.{◌≡◌, ◌≢◌, ℕ, List, ◌++◌, Option, Some, Result, Ok, Err, refl, ap, sym, subst, ◌∙◌, arith}
use Rattle.std.specs.Io.KnownBytes.{Appends}
use Rattle.sp_feed.specs.Feed.{End, Malformed, TooLong, Truncated, Whole}
use Rattle.sp_feed.specs.Reads.{Moment}
use Rattle.sp_feed.specs.declared.fault.FeedFault.{FeedFault}
use Rattle.sp_feed.specs.declared.fault.FeedFault.TheVariants as faults
use Rattle.sp_io.specs.Whole.{AppendsFront}
use Rattle.sp_watch.specs.declared.item.Item.{Item}
use Rattle.spectre.specs.Faults.{EndsWhole, feed_fault_text, rest_behind, status_of}
use Rattle.spectre.specs.JobEnds.{WritesBy}
use Rattle.spectre.specs.Replay.{fed}
use Rattle.spectre.specs.Run.{Ended, ran, run_status, run_text}
use Rattle.spectre.specs.RunOf.{feed_fault, watch_run, watched_run}
use Rattle.spectre.specs.Taken.{TakesFeedFor}
use Rattle.spectre.specs.Watches.{watch_replied}
use Rattle.spectre.specs.Watching.{FollowsFor, Watches}
use Rattle.spectre.specs.declared.job.Job.{Job}
use Rattle.spectre.specs.declared.job.Job.TheVariants as jobs
use Rattle.spectre.specs.declared.replay.ReplayFault.{ReplayFault}
use Rattle.spectre.specs.declared.replay.ReplayFault.TheVariants.{Feed, Memory, WriteFault}
use Rattle.spectre.specs.declared.status.Status.{Status}
use Rattle.spectre.specs.declared.status.Status.TheVariants as status
use Rattle.spectre.proofs.Due.{Begins, fault_by, fault_ends, RunCloses, Stops, text_closes, with_input}
use Rattle.spectre.proofs.RunTexts.{watch_text}
use Rattle.spectre.proofs.WatchedFeeds.{watched_begins}

-- ---- the run of a watch

watched_done : (items : List Item) (input : List ℕ) (end : End) → EndsWhole end → status.Done ≡ run_status (watched_run items input end)
watched_done items input (Whole rest) h = refl
watched_done items input other h = absurd h

watch_done : (items : List Item) (input : List ℕ) → EndsWhole (fed input).end → status.Done ≡ run_status (watch_run items input)
unfolding watch_run
watch_done items input h = watched_done items input (fed input).end h

watched_stops : (items : List Item) (input : List ℕ) (end end' : End) → end' ≡ end → Stops end → watched_run items input end' ≡ ran (watch_replied items input) (feed_fault end)
watched_stops items input (Malformed at) end' e stops = ap (watched_run items input) e
watched_stops items input (Truncated at) end' e stops = ap (watched_run items input) e
watched_stops items input (TooLong taken) end' e stops = ap (watched_run items input) e
watched_stops items input (Whole rest) end' e stops = absurd stops

watch_closes : (items : List Item) → RunCloses (watch_replied items) (watch_run items)
unfolding watch_run
watch_closes items input end e stops = watched_stops items input end (fed input).end e stops

module _ (items : List Item) where
  abbrev job : Option Job
  job = Some (jobs.Watch items)

  module _ {start now : Moment} {old new : Option (List ℕ)} where
    -- so much was taken
    pub takes : {r : Result (Unit {0}) ReplayFault} → Watches items start now old new r → TakesFeedFor (watch_replied items) start.left now.left old new
    takes w = record { given = w.given; consumed = w.took.consumed; within = omega (arith, w.took.counted, w.took.within); needed = w.needed; answered = w.answered }

    -- the end was read
    pub by_done : (reads : Option (List ℕ)) → Watches items start now old new (Ok tt) → WritesBy job reads start.left now.left old new status.Done
    by_done reads w = (
      with_input (λ input. Ended (watch_run items input) status.Done old new) start.left now.left w.given w.took.consumed (λ rest e. record {
        status = watch_done items (w.given ++ rest) (subst EndsWhole (sym (w.says rest).1) tt);
        took = subst (λ (t : List ℕ). Appends old new t) (sym (watch_text items (w.given ++ rest))) (w.says rest).0;
      }),
      with_input (λ input. now.left ≡ Some (rest_behind (fed input).end)) start.left now.left w.given w.took.consumed (λ rest e. e ∙ ap (λ (x : End). Some (rest_behind x)) (sym (w.says rest).1)),
    )

    -- a front was written
    pub by_write : (reads : Option (List ℕ)) → Watches items start now old new (Err WriteFault) → WritesBy job reads start.left now.left old new status.WriteFault
    by_write reads w = with_input (λ input. AppendsFront old new (run_text (watch_run items input))) start.left now.left w.given w.took.consumed (λ rest e. subst (λ (t : List ℕ). AppendsFront old new t) (sym (watch_text items (w.given ++ rest))) (w.says rest))

    pub by_memory : (reads : Option (List ℕ)) → Watches items start now old new (Err Memory) → WritesBy job reads start.left now.left old new status.Memory
    by_memory reads w = with_input (λ input. AppendsFront old new (run_text (watch_run items input))) start.left now.left w.given w.took.consumed (λ rest e. subst (λ (t : List ℕ). AppendsFront old new t) (sym (watch_text items (w.given ++ rest))) (w.says rest))

  -- what is due comes first in any case
  watch_begins : Begins (watch_replied items) (λ input. run_text (watch_run items input))
  watch_begins input = let b = watched_begins items input in (b.0, watch_text items input ∙ b.1)

  module _ (reads : Option (List ℕ)) {start now : Moment} {old mid : Option (List ℕ)} (new : Option (List ℕ)) where
    -- the feed is at fault, whatever was held
    as_replies : (e : FeedFault) → Watches items start now old mid (Err (Feed e)) → FollowsFor items start now old mid (Err (Feed e))
    as_replies e w = record { given = w.given; took = w.took; needed = w.needed; answered = w.answered; says = w.says }

    -- and that fault's line was written
    pub by_fault : (e : FeedFault) (result : Status) → Watches items start now old mid (Err (Feed e)) → (result ≢ status.WriteFault → result ≡ status_of e) → (result ≢ status.WriteFault → Appends mid new (feed_fault_text e))
        → AppendsFront mid new (feed_fault_text e) → (e ≡ faults.ReadFault → result ≡ status.ReadFault) → WritesBy job reads start.left now.left old new result
    by_fault e result w same text front read =
        fault_by (watch_replied items) (watch_run items) (watch_closes items) (WritesBy job reads start.left now.left old new) result
        (fault_ends (λ input. run_text (watch_run items input)) (text_closes (watch_replied items) (watch_run items) (watch_closes items)) watch_begins new e result (as_replies e w) same text front read)
        (λ h. h) (λ h. h) (λ h. h) (λ h front. ((λ feed. h), front)) (λ h. h)
