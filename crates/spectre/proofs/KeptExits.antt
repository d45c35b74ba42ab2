-- How a run with a journal ends, by how its feed was answered and by what was written last.
use Rattle.std.proofs.Common.{◌≡◌, ◌≢◌, ◌⊎◌, inl, inr, ⊎_elim, ℕ, Bool, false, List, [], ◌++◌, length, Option, Some, None, IfSome, Result, Ok, Err, refl, sym, ap, subst, ◌∙◌, arith, length-append}
use Rattle.std.specs.Io.KnownBytes.{Appends, Consumes, IsAtEnd}
use Rattle.std.proofs.lemmas.Bool.{eqb-false}
use Rattle.std.proofs.lemmas.List.{append-nil}
use Rattle.std.proofs.Math.Dec.{eqb}
use Rattle.sp_disk.specs.Moments.{IsMoment, Lasts, Leaves, Looks, Moment as DiskMoment}
use Rattle.sp_disk.specs.Images.{EachIs}
use Rattle.sp_disk.proofs.Lasting.{joined_last, looks_last}
use Rattle.sp_disk.proofs.Runs.{ends, joined, weaker}
use Rattle.sp_journal.proofs.Looking.{looks_then}
use Rattle.sp_feed.specs.Feed.{End, Feed as FeedOf, feed}
use Rattle.sp_form.specs.Form.{bind}
use Rattle.sp_form.specs.Places.{placed}
use Rattle.sp_feed.specs.Format.{Head, head_form, head_of}
use Rattle.sp_feed.specs.Kinds.{Said}
use Rattle.sp_feed.specs.Reads.{Moment}
use Rattle.sp_feed.specs.declared.fault.FeedFault.{FeedFault}
use Rattle.sp_feed.specs.declared.fault.FeedFault.TheVariants as faults
use Rattle.sp_io.specs.Whole.{AppendsFront}
use Rattle.sp_io.proofs.Writing.{appends_then, wrote_none}
use Rattle.sp_journal.specs.Creation.{HoldsJournal, HoldsNoneOrNew, IsSynced}
use Rattle.sp_journal.specs.Journal.{Contents, contents}
use Rattle.sp_journal.specs.Records.{Found as found, NoJournal, Records, records}
use Rattle.sp_journal.specs.declared.gate_kind.Gate.{Gate}
use Rattle.sp_node.specs.Answers.{answers}
use Rattle.sp_node.specs.Stored.{Tells}
use Rattle.sp_node.specs.declared.stored.Stored.{Stored}
use Rattle.sp_node.specs.declared.stored.Stored.TheVariants.{Empty, Found}
use Rattle.spectre.specs.Chains.{EndAtHead, EndsAtHead, EndsByChain}
use Rattle.spectre.specs.Codes.{code_of}
use Rattle.spectre.specs.Crashes.{all_of, contents_by, EndsEarly, contents_of, contents_under, HoldsAcknowledged, HoldsAtLeast, HoldsFoundOrMore, HoldsOnward, IsEarly, IsSure, Recovers, Recovery}
use Rattle.spectre.specs.Faults.{EndsWhole, feed_fault_text, status_of}
use Rattle.spectre.specs.JobEnds.{JobEnds, WritesBy}
use Rattle.spectre.specs.Journals.{Fits, FitsHead, found_blocks, HasOtherChain, other_chain_text}
use Rattle.spectre.specs.Keeping.{bytes_of, FitsStored, IsAmiss, IsUntried, KeepAnswers, NamesBothOf, UntriedBy}
use Rattle.spectre.specs.Run.{Ended, last_status, run_status, run_text}
use Rattle.spectre.specs.RunOf.{behind, feed_fault, is_headless, node_run, OnRun}
use Rattle.std.specs.Prelude.{is_none}
use Rattle.spectre.proofs.Due.{behind_is}
use Rattle.spectre.specs.Replay.{but_last, fed, lines_under, replied, replied_but_last}
use Rattle.spectre.specs.Replaying.{Replies, SaysReply}
use Rattle.spectre.specs.Taken.{TakesFeed, TakesFeedFor}
use Rattle.spectre.specs.declared.job.Job.TheVariants as jobs
use Rattle.spectre.specs.declared.keep.KeepFault.{KeepFault}
use Rattle.spectre.specs.declared.keep.KeepFault.TheVariants.{DiskFault, Feed, Memory, OtherChain, WriteFault}
use Rattle.spectre.specs.declared.replay.ReplayFault.TheVariants as replays
use Rattle.spectre.specs.declared.status.Status.{Status}
use Rattle.spectre.specs.declared.status.Status.TheVariants as status
use Rattle.spectre.proofs.KeptRuns.{Accepts, answered_recovery, at_one, early_recovery, feed_taken, fits_here, fits_there, fitting, front_of_text, holds_all, looked_since, node_other, on_both, on_one, OnBoth, other_recovery, same_found, stopped_recovery, sure_synced, told_by, whole_run}
use Rattle.spectre.proofs.FeedRuns.{long_status, malformed_status, truncated_status, whole_status}
use Rattle.spectre.proofs.Keeping.{none_ends}
use Rattle.spectre.proofs.Lasting.{answered_lasts, looked_lasts}
use Rattle.spectre.proofs.Onward.{answered_stays, looked_stays}
use Rattle.spectre.proofs.Replayed.{disk_text, done_rest, done_text, Ends, fault_front, fault_written, is_malformed, is_too_long, is_truncated, limit_taken, malformed_left, memory_text, nothing_left, read_text, takes, takes_then, with_input, write_text}
use Rattle.spectre.proofs.Replies.{appends_none, fault_says, lines_are}
use Rattle.spectre.proofs.RunFirst.{chain_of}
use Rattle.spectre.proofs.Running.{whole_front}
use Rattle.sp_model.specs.declared.profile.Profile.{Profile}

-- a status is that of a failed write, or another
is_write : (s : Status) → (s ≡ status.WriteFault) ⊎ (s ≢ status.WriteFault)
is_write status.WriteFault = inl refl
is_write other = inr (λ e. cc)

-- a run that ends with a line ends by its status, where no write failed
pub line_ends : (P : Status → Type 0) (result ended : Status) → (result ≢ status.WriteFault → result ≡ ended) → P status.WriteFault → P ended
    → P result
line_ends P result ended same write other = elim (is_write result) [
  | inl is ↦ subst P (sym is) write
  | inr no_write ↦ subst P (sym (same no_write)) other
]

-- statuses of different codes are different
pub differ : (s t : Status) → eqb (code_of s) (code_of t) ≡ false → s ≡ t → ⊥
differ s t apart e = eqb-false (code_of s) (code_of t) apart (ap code_of e)

-- and by no other: a code tells each of the two from it
pub line_not : {X : Type 0} (t result ended : Status) → (result ≢ status.WriteFault → result ≡ ended)
    → eqb (code_of status.WriteFault) (code_of t) ≡ false → eqb (code_of ended) (code_of t) ≡ false → result ≡ t → X
line_not t result ended same write other e =
    absurd (line_ends (λ s. s ≡ t → ⊥) result ended same (differ status.WriteFault t write) (differ ended t other) e)

pub on_map : (left reads : Option (List ℕ)) (P Q : List ℕ → List ℕ → Type 0)
    → ((disk input : List ℕ) → left ≡ Some input → reads ≡ Some disk → P disk input → Q disk input) → OnBoth left reads P → OnBoth left reads Q
on_map None reads P Q f h = tt
on_map (Some input) None P Q f h = tt
on_map (Some input) (Some disk) P Q f h = f disk input refl refl h

appends_same : (old new : Option (List ℕ)) → new ≡ old → Appends old new []
appends_same old new e = subst (λ (o : Option (List ℕ)). Appends old o []) (sym e) (appends_none old)

-- no text was written, which is a front of any
front_none : (left reads : Option (List ℕ)) (old new : Option (List ℕ)) (text : List ℕ → List ℕ → List ℕ) → new ≡ old
    → OnBoth left reads (λ disk input. AppendsFront old new (text disk input))
front_none left reads old new text e = on_both left reads _ (λ disk input l r.
    subst (λ (o : Option (List ℕ)). AppendsFront old o (text disk input)) (sym e) (text disk input, wrote_none old (text disk input)))

-- what was told of the disk, where it tells its bytes
told_at : (fresh : Bool) (stored : Stored) {reads : Option (List ℕ)} {disk : List ℕ} → IfSome reads (λ disk. Tells fresh disk (Ok stored))
    → reads ≡ Some disk → Tells fresh disk (Ok stored)
told_at fresh stored tells r = at_one (λ (d : List ℕ). Tells fresh d (Ok stored)) r tells

-- the disk fits the feed, where what was found fits its head
fits_at : (fresh : Bool) (stored : Stored) {left reads : Option (List ℕ)} {disk input : List ℕ} → IfSome reads (λ disk. Tells fresh disk (Ok stored))
    → IfSome left (λ input. FitsStored stored (fed input).head) → left ≡ Some input → reads ≡ Some disk → Fits fresh disk input
fits_at fresh stored {disk = disk} {input = input} tells fits l r =
    fits_there fresh disk stored input (told_at fresh stored tells r) (at_one (λ (i : List ℕ). FitsStored stored (fed i).head) l fits)

-- ---- the feed is of another chain

-- the disk of another chain doesn't fit the feed
pub other_misfits : (fresh : Bool) (disk input : List ℕ) → HasOtherChain disk input → Fits fresh disk input → ⊥
other_misfits fresh disk input h fits =
    h.other (subst (λ (r : Records). FitsHead fresh disk r (Some h.head)) h.found
    (subst (λ (o : Option Head). FitsHead fresh disk (records disk) o) h.begins fits))

-- so the chain of a node that was started is that of the feed
pub fitting_chain : (fresh : Bool) (stored : Stored) (left reads after : Option (List ℕ)) (s : Status)
    → IfSome reads (λ disk. Tells fresh disk (Ok stored)) → IfSome left (λ input. FitsStored stored (fed input).head)
    → OnBoth left reads (λ disk input. HasOtherChain disk input → EndsAtHead left after s)
fitting_chain fresh stored left reads after s tells fits = on_both left reads _ (λ disk input l r other.
    absurd (other_misfits fresh disk input other (fits_at fresh stored tells fits l r)))

-- a feed without a head is of no chain
headless_chain : (left reads after : Option (List ℕ)) (s : Status) → IfSome left (λ input. (fed input).head ≡ None)
    → OnBoth left reads (λ disk input. HasOtherChain disk input → EndsAtHead left after s)
headless_chain left reads after s none = on_both left reads _ (λ disk input l r other. (
    let no : None ≡ Some other.head = sym (at_one (λ (i : List ℕ). (fed i).head ≡ None) l none) ∙ other.begins in absurd cc))

-- where none was started, the head was taken at most
pub untried_chain : (stored : Stored) {start now : Moment} {old new : Option (List ℕ)} {first last : DiskMoment}
    {result : Result (Unit {0}) KeepFault} (reads : Option (List ℕ)) (s : Status)
    → IsUntried stored start now old new first last result → EndsByChain s → (s ≡ status.DiskFault → ⊥)
    → OnBoth start.left reads (λ disk input. HasOtherChain disk input → EndsAtHead start.left now.left s)
untried_chain stored {start = start} reads s u ends not_disk = on_both start.left reads _ (λ disk input l r other. (
  ends,
  record { given = u.given; consumed = u.took.consumed; needed = u.headed; opened = λ e. absurd (not_disk e) },
))

module _ (path : List ℕ) (fresh : Bool) (stored : Stored) {start now : Moment} (old : Option (List ℕ)) (first last : DiskMoment)
    (law : IsMoment first) (last_law : IsMoment last)
    (tells : IfSome first.reads (λ disk. Tells fresh disk (Ok stored))) where
  untried_takes : {new : Option (List ℕ)} {result : Result (Unit {0}) KeepFault} → IsUntried stored start now old new first last result
      → TakesFeed (bytes_of stored) start.left now.left old old
  untried_takes u = record {
    given = u.given;
    consumed = u.took.consumed;
    within = omega (arith, u.took.counted, u.took.within);
    needed = u.needed;
    answered = u.answered;
  }

  -- the end was read
  pub exit_done : {new : Option (List ℕ)} → KeepAnswers stored start now old new first last (Ok tt)
      → JobEnds (Some (jobs.Keep path fresh)) first.reads start.left now.left old new first last status.Done
  exit_done (inl u) = absurd u.why
  exit_done {new = new} (inr t) = record {
    by = (
      whole_run fresh stored start.left first.reads tells old new status.Done EndsWhole whole_status (fitting fresh stored start.left first.reads tells t.1.fits) (done_text (bytes_of stored) t.0),
      done_rest t.0,
    );
    taken = λ takes. absurd takes;
    taken_fed = λ _. feed_taken fresh stored start.left first.reads tells now.left old new (takes t.0);
    onward = answered_stays fresh stored first last law tells {result = Ok tt} (inr t);
    lasting = answered_lasts stored first last law last_law {result = Ok tt} (inr t);
    chain = chain_of (jobs.Keep path fresh) start.left first.reads _ (fitting_chain fresh stored start.left first.reads now.left status.Done tells t.1.fits);
    certified = λ s. tt;
    crash = on_both start.left first.reads _ (λ disk input l r.
        answered_recovery fresh disk input stored (told_at fresh stored tells r) new first last law r l t
        (t.1.whole (told_by first disk r)) status.Done);
  }

  -- the sink failed at an answer
  pub exit_write : {new : Option (List ℕ)} → KeepAnswers stored start now old new first last (Err WriteFault)
      → JobEnds (Some (jobs.Keep path fresh)) first.reads start.left now.left old new first last status.WriteFault
  exit_write (inl u) = absurd u.why
  exit_write {new = new} (inr t) = record {
    by = front_of_text fresh stored start.left first.reads tells old new (fitting fresh stored start.left first.reads tells t.1.fits)
        (write_text (bytes_of stored) t.0);
    taken = λ takes. absurd takes;
    taken_fed = λ _. feed_taken fresh stored start.left first.reads tells now.left old new (takes t.0);
    onward = answered_stays fresh stored first last law tells {result = Err WriteFault} (inr t);
    lasting = answered_lasts stored first last law last_law {result = Err WriteFault} (inr t);
    chain = chain_of (jobs.Keep path fresh) start.left first.reads _ (fitting_chain fresh stored start.left first.reads now.left status.WriteFault tells t.1.fits);
    certified = λ s. tt;
    crash = on_both start.left first.reads _ (λ disk input l r.
        stopped_recovery fresh disk input stored (told_at fresh stored tells r) first last law r l t status.WriteFault (λ e. cc));
  }

  -- memory was refused
  pub exit_memory : {new : Option (List ℕ)} → KeepAnswers stored start now old new first last (Err Memory)
      → JobEnds (Some (jobs.Keep path fresh)) first.reads start.left now.left old new first last status.Memory
  exit_memory {new = new} (inl u) = record {
    by = front_none start.left first.reads old new (λ disk input. run_text (node_run fresh disk input)) u.silent;
    taken = λ takes. absurd takes;
    taken_fed = λ _.
        subst (λ (o : Option (List ℕ)). IfSome first.reads (λ disk. TakesFeed (found_blocks disk) start.left now.left old o)) (sym u.silent)
        (feed_taken fresh stored start.left first.reads tells now.left old old (untried_takes u));
    onward = answered_stays fresh stored first last law tells {result = Err Memory} (inl u);
    lasting = answered_lasts stored first last law last_law {result = Err Memory} (inl u);
    chain = chain_of (jobs.Keep path fresh) start.left first.reads _ (untried_chain stored first.reads status.Memory u tt (λ e. cc));
    certified = λ s. tt;
    crash = on_both start.left first.reads _ (λ disk input l r.
        early_recovery fresh disk input now.left old new first last status.Memory law last_law r u.given
        (subst (λ (o : Option (List ℕ)). Consumes o now.left u.given) l u.took.consumed)
        u.why (appends_same old new u.silent) tt u.headed (λ e. cc));
  }
  exit_memory {new = new} (inr t) = record {
    by = front_of_text fresh stored start.left first.reads tells old new (fitting fresh stored start.left first.reads tells t.1.fits)
        (memory_text (bytes_of stored) t.0);
    taken = λ takes. absurd takes;
    taken_fed = λ _. feed_taken fresh stored start.left first.reads tells now.left old new (takes t.0);
    onward = answered_stays fresh stored first last law tells {result = Err Memory} (inr t);
    lasting = answered_lasts stored first last law last_law {result = Err Memory} (inr t);
    chain = chain_of (jobs.Keep path fresh) start.left first.reads _ (fitting_chain fresh stored start.left first.reads now.left status.Memory tells t.1.fits);
    certified = λ s. tt;
    crash = on_both start.left first.reads _ (λ disk input l r.
        stopped_recovery fresh disk input stored (told_at fresh stored tells r) first last law r l t status.Memory (λ e. cc));
  }

-- ---- the disk failed

module _ (fresh : Bool) (first last : DiskMoment) (law : IsMoment first) (last_law : IsMoment last) (old : Option (List ℕ)) (given : List ℕ)
    (headed : EndAtHead given) (m : IsAmiss given first last) where
  amiss_head : (fed given).head ≡ Some (head_of m.terms.profile m.terms.bits m.genesis.bytes)
  amiss_head = ap (λ (l : List ℕ). (fed l).head) (sym (append-nil given)) ∙ m.whole []

  amiss_silent : replied_but_last [] given ≡ []
  unfolding answers
  amiss_silent =
      ap (λ (h : Option Head). lines_under [] h (but_last (all_of given))) amiss_head
      ∙ ap (λ (l : List Said). lines_under [] (Some (head_of m.terms.profile m.terms.bits m.genesis.bytes)) (but_last l)) m.unread
      ∙ lines_are [] m.genesis m.terms [] m.spelled

  amiss_contents : contents_of [] given (all_of given) ≡ contents m.terms.profile m.terms.bits m.genesis.bytes []
  amiss_contents =
      ap (λ (h : Option Head). contents_under [] h (all_of given)) amiss_head
      ∙ ap (contents_under [] (Some (head_of m.terms.profile m.terms.bits m.genesis.bytes))) m.unread
      ∙ ap (λ r. contents_by [] r m.terms []) m.spelled

  amiss_holds : (new : Option (List ℕ)) (image : List ℕ) → records image ≡ found (contents m.terms.profile m.terms.bits m.genesis.bytes [])
      → HoldsAtLeast 0 [] given image × HoldsAcknowledged [] given old new image
  amiss_holds new image is =
      let here : records image ≡ found (contents_of [] given (all_of given)) = is ∙ ap found (sym amiss_contents) in
      (whole_front 0 (contents_of [] given (all_of given)) image (omega arith) here, holds_all [] given old new image here)

  amiss_recovery : (gate : Gate) (disk input : List ℕ) (after new : Option (List ℕ)) → first.reads ≡ Some disk → Tells fresh disk (Ok (Empty gate))
      → Consumes (Some input) after given → new ≡ old
      → Recovery fresh disk input after old new first last status.DiskFault
  amiss_recovery gate disk input after new r t consumed silent =
      let none : records disk ≡ NoJournal = t.0.none in
      let early : IsEarly given old new status.DiskFault = record { ends = tt; silent = appends_same old new silent; headed = headed; unstarted = λ e. cc } in
      let run : IsSynced first → Leaves first last (HoldsNoneOrNew (contents m.terms.profile m.terms.bits m.genesis.bytes [])) =
      λ synced. m.leaves (told_by first disk r) synced in
      let fits : FitsStored (Empty gate) (fed input).head = with_input (λ i. FitsStored (Empty gate) (fed i).head) (Some input) after given consumed
      (λ rest e. subst (FitsStored (Empty gate)) (sym (m.whole rest)) tt) in
      record {
        given = given;
        consumed = consumed;
        now = λ fit sure image l.
            let synced = sure_synced first old new status.DiskFault (appends_same old new silent) (λ e. cc) sure in
            subst (λ (x : Records). Recovers x given old new status.DiskFault image) (sym none)
            (⊎_elim (λ (no_one : records image ≡ NoJournal). inl (no_one, early)) (λ one. inr (amiss_holds new image one))
            (ends first last (HoldsNoneOrNew (contents m.terms.profile m.terms.bits m.genesis.bytes [])) last_law (run synced) image l));
        whole = λ fit done. absurd (let no : status.DiskFault ≡ status.Done = done in cc);
        any_moment = λ fit synced. subst (λ (x : Records). Leaves first last (HoldsFoundOrMore x given)) (sym none)
            (weaker first last (HoldsNoneOrNew (contents m.terms.profile m.terms.bits m.genesis.bytes [])) (HoldsFoundOrMore NoJournal given) (run synced)
            (λ image h. ⊎_elim (λ no_one. inl no_one) (λ one. inr (amiss_holds new image one).0) h));
        other = λ misfit. absurd (misfit (fits_there fresh disk (Empty gate) input t fits));
      }

exit_amiss : (path : List ℕ) (fresh : Bool) (gate : Gate) {start now : Moment} (old : Option (List ℕ)) (first last : DiskMoment) → IsMoment first
    → IsMoment last
    → IfSome first.reads (λ disk. Tells fresh disk (Ok (Empty gate))) → {new : Option (List ℕ)}
    → IsUntried (Empty gate) start now old new first last (Err DiskFault)
    → JobEnds (Some (jobs.Keep path fresh)) first.reads start.left now.left old new first last status.DiskFault
exit_amiss path fresh gate {start = start} {now = now} old first last law last_law tells {new = new} u = record {
  by = (
    (λ _. same_found fresh (Empty gate) start.left first.reads tells
        (λ (l : List (List ℕ)). (given : List ℕ) × Consumes start.left now.left given × Appends old new (replied_but_last l given)) (
          u.given,
          u.took.consumed,
          subst (λ (x : List ℕ). Appends old new x) (sym (amiss_silent fresh first last law last_law old u.given u.headed u.why))
              (appends_same old new u.silent),
        )),
    front_none start.left first.reads old new (λ disk input. run_text (node_run fresh disk input)) u.silent,
  );
  taken = λ takes. absurd takes;
  taken_fed = λ _.
      subst (λ (o : Option (List ℕ)). IfSome first.reads (λ disk. TakesFeed (found_blocks disk) start.left now.left old o)) (sym u.silent)
      (feed_taken fresh (Empty gate) start.left first.reads tells now.left old old
      (untried_takes path fresh (Empty gate) old first last law last_law tells u));
  onward = answered_stays fresh (Empty gate) first last law tells {result = Err DiskFault} (inl u);
  lasting = answered_lasts (Empty gate) first last law last_law {result = Err DiskFault} (inl u);
  chain = chain_of (jobs.Keep path fresh) start.left first.reads _ (on_both start.left first.reads _ (λ disk input l r other.
      (let no : NoJournal ≡ found other.contents = sym (told_at fresh (Empty gate) tells r).0.none ∙ other.found in absurd cc)));
  certified = λ s. tt;
  crash = on_both start.left first.reads _ (λ disk input l r.
      amiss_recovery fresh first last law last_law old u.given u.headed u.why gate disk input now.left new r (told_at fresh (Empty gate) tells r)
      (subst (λ (o : Option (List ℕ)). Consumes o now.left u.given) l u.took.consumed) u.silent);
}

pub exit_disk : (path : List ℕ) (fresh : Bool) (stored : Stored) {start now : Moment} (old : Option (List ℕ)) (first last : DiskMoment)
    → IsMoment first → IsMoment last
    → IfSome first.reads (λ disk. Tells fresh disk (Ok stored)) → {new : Option (List ℕ)}
    → KeepAnswers stored start now old new first last (Err DiskFault)
    → JobEnds (Some (jobs.Keep path fresh)) first.reads start.left now.left old new first last status.DiskFault
exit_disk path fresh stored {start = start} {now = now} old first last law last_law tells {new = new} (inr t) = record {
  by = (
    (λ _. same_found fresh stored start.left first.reads tells
        (λ (l : List (List ℕ)). (given : List ℕ) × Consumes start.left now.left given × Appends old new (replied_but_last l given))
        (t.0.given, t.0.took.consumed, t.0.says.0)),
    front_of_text fresh stored start.left first.reads tells old new (fitting fresh stored start.left first.reads tells t.1.fits) (disk_text (bytes_of stored) t.0),
  );
  taken = λ takes. absurd takes;
  taken_fed = λ _. feed_taken fresh stored start.left first.reads tells now.left old new (takes t.0);
  onward = answered_stays fresh stored first last law tells {result = Err DiskFault} (inr t);
  lasting = answered_lasts stored first last law last_law {result = Err DiskFault} (inr t);
  chain = chain_of (jobs.Keep path fresh) start.left first.reads _ (fitting_chain fresh stored start.left first.reads now.left status.DiskFault tells t.1.fits);
  certified = λ s. tt;
  crash = on_both start.left first.reads _ (λ disk input l r.
      stopped_recovery fresh disk input stored (told_at fresh stored tells r) first last law r l t status.DiskFault (λ e. cc));
}
exit_disk path fresh (Empty gate) old first last law last_law tells (inl u) = exit_amiss path fresh gate old first last law last_law tells u
exit_disk path fresh (Found o) old first last law last_law tells (inl u) = absurd u.why

-- ---- the feed is at fault, or its source

-- the messages were answered; or none was read
feed_replies : (stored : Stored) {start now : Moment} {old mid : Option (List ℕ)} {first last : DiskMoment} (e : FeedFault)
    → KeepAnswers stored start now old mid first last (Err (Feed e)) → Replies (bytes_of stored) start now old mid (Err (replays.Feed e))
feed_replies stored e (inr t) = t.0
feed_replies stored {start = start} {now = now} {old = old} {mid = mid} {first = first} {last = last} e (inl u) =
    subst (λ (o : Option (List ℕ)). Replies (bytes_of stored) start now old o (Err (replays.Feed e))) (sym u.silent) (record {
      given = u.given;
      took = u.took;
      needed = u.needed;
      answered = u.answered;
      says = by e u.why;
    })
  where
    nothing_begun : (more : List ℕ) → AppendsFront old old (replied (bytes_of stored) (u.given ++ more))
    nothing_begun more = (replied (bytes_of stored) (u.given ++ more), wrote_none old (replied (bytes_of stored) (u.given ++ more)))

    by : (e : FeedFault) → UntriedBy stored start now u.given first last (Err (Feed e))
        → SaysReply (bytes_of stored) start now old old u.given (Err (replays.Feed e))
    by (faults.Malformed at) w = fault_says (bytes_of stored) start now old old u.given None [] (faults.Malformed at) w.0 (appends_none old) nothing_begun
    by (faults.Truncated at) w = fault_says (bytes_of stored) start now old old u.given None [] (faults.Truncated at) (w.0, w.1) (appends_none old) nothing_begun
    by faults.ReadFault w = fault_says (bytes_of stored) start now old old u.given None [] faults.ReadFault (w.0, w.1) (appends_none old) nothing_begun
    by (faults.TooLong taken) w = fault_says (bytes_of stored) start now old old u.given None [] (faults.TooLong taken) w.0 (appends_none old) nothing_begun

-- the head is none, or that of the chain
headless : (stored : Stored) (start now : Moment) (given : List ℕ) (first last : DiskMoment) (e : FeedFault) → (e ≡ faults.ReadFault → ⊥)
    → Consumes start.left now.left given → UntriedBy stored start now given first last (Err (Feed e))
    → IfSome start.left (λ input. (fed input).head ≡ None)
headless stored start now given first last (faults.Malformed at) other took w =
    with_input (λ i. (fed i).head ≡ None) start.left now.left given took (λ rest x. ap (λ (f : FeedOf). f.head) (w.0 rest))
headless stored start now given first last (faults.Truncated at) other took w = with_input (λ i. (fed i).head ≡ None) start.left now.left given took
    (λ rest x.
    let none : rest ≡ [] = subst IsAtEnd x w.1 in
    ap (λ (l : List ℕ). (fed (given ++ l)).head) none ∙ ap (λ (l : List ℕ). (fed l).head) (append-nil given) ∙ ap (λ (f : FeedOf). f.head) w.0)
headless stored start now given first last faults.ReadFault other took w = absurd (other refl)
headless stored start now given first last (faults.TooLong taken) other took w =
    with_input (λ i. (fed i).head ≡ None) start.left now.left given took (λ rest x. ap (λ (f : FeedOf). f.head) (w.0 rest))

looked : (stored : Stored) (start now : Moment) (given : List ℕ) (first last : DiskMoment) (e : FeedFault)
    → UntriedBy stored start now given first last (Err (Feed e)) → Looks first last
looked stored start now given first last (faults.Malformed at) w = w.1
looked stored start now given first last (faults.Truncated at) w = w.2
looked stored start now given first last faults.ReadFault w = w.2
looked stored start now given first last (faults.TooLong taken) w = w.1

-- where a read failed, no whole head had come
unheaded : (stored : Stored) (start now : Moment) (given : List ℕ) (first last : DiskMoment) (e : FeedFault) → e ≡ faults.ReadFault
    → UntriedBy stored start now given first last (Err (Feed e)) → (fed given).head ≡ None
unheaded stored start now given first last faults.ReadFault is w = ap (λ (f : FeedOf). f.head) w.0
unheaded stored start now given first last other is w = absurd cc

is_read : (e : FeedFault) → (e ≡ faults.ReadFault) ⊎ (e ≡ faults.ReadFault → ⊥)
is_read faults.ReadFault = inl refl
is_read other = inr (λ x. cc)

-- by each status that a feed's fault gives
pub feed_status : (P : Status → Type 0) (e : FeedFault) → P status.Malformed → P status.Truncated → P status.ReadFault → P status.TooLong
    → P (status_of e)
feed_status P (faults.Malformed at) malformed truncated read long = malformed
feed_status P (faults.Truncated at) malformed truncated read long = truncated
feed_status P faults.ReadFault malformed truncated read long = read
feed_status P (faults.TooLong taken) malformed truncated read long = long

module _ (path : List ℕ) (fresh : Bool) (stored : Stored) {start now : Moment} (old : Option (List ℕ)) (first last : DiskMoment)
    (law : IsMoment first) (last_law : IsMoment last) (tells : IfSome first.reads (λ disk. Tells fresh disk (Ok stored)))
    {mid : Option (List ℕ)} (new : Option (List ℕ)) (e : FeedFault) (a : KeepAnswers stored start now old mid first last (Err (Feed e)))
    (result : Status) (same : result ≢ status.WriteFault → result ≡ status_of e)
    (text : result ≢ status.WriteFault → Appends mid new (feed_fault_text e)) (front : AppendsFront mid new (feed_fault_text e))
    (read : e ≡ faults.ReadFault → result ≡ status.ReadFault) where
  r : Replies (bytes_of stored) start now old mid (Err (replays.Feed e))
  r = feed_replies stored e a

  accepted : (e ≡ faults.ReadFault → ⊥) → IfSome start.left (λ input. Accepts stored (fed input).head)
  accepted other = elim a [
    | inr t ↦ fitting fresh stored start.left first.reads tells t.1.fits
    | inl u ↦ on_one start.left _ (λ input l.
        let none = at_one (λ (i : List ℕ). (fed i).head ≡ None) l (headless stored start now u.given first last e other u.took.consumed u.why) in
        subst (Accepts stored) (sym none) tt)
  ]

  -- the line wasn't written whole
  cut : result ≡ status.WriteFault → OnBoth start.left first.reads (λ disk input. AppendsFront old new (run_text (node_run fresh disk input)))
  cut is =
      let other : (e ≡ faults.ReadFault → ⊥) = λ h. (let no : status.WriteFault ≡ status.ReadFault = sym is ∙ read h in cc) in
      front_of_text fresh stored start.left first.reads tells old new (accepted other) (fault_front (bytes_of stored) new e r other front)

  -- it was
  written : (e ≡ faults.ReadFault → ⊥) → Appends mid new (feed_fault_text e) → (s : Status) → ((end : End) → Ends e end → s ≡ last_status (feed_fault end))
      → OnBoth start.left first.reads (λ disk input. Ended (node_run fresh disk input) s old new)
  written other b s is = whole_run fresh stored start.left first.reads tells old new s (Ends e) is (accepted other) (fault_written (bytes_of stored) new e r other b)

  -- a read failed, of which no line is written
  read_front : e ≡ faults.ReadFault → Appends mid new (feed_fault_text e) → OnBoth start.left first.reads (λ disk input. AppendsFront old new (run_text (node_run fresh disk input)))
  read_front is b = elim a [
    | inr t ↦ front_of_text fresh stored start.left first.reads tells old new (fitting fresh stored start.left first.reads tells t.1.fits) (read_text (bytes_of stored) new e r is b)
    | inl u ↦ on_both start.left first.reads _ (λ disk input l x.
        let none : Appends old new [] = subst (λ (o : Option (List ℕ)). Appends o new []) u.silent (subst (λ (f : FeedFault). Appends mid new (feed_fault_text f)) is b) in
        (run_text (node_run fresh disk input), record { front = []; appended = none; split = refl }))
  ]

  -- by the fault
  by_fault : (f : FeedFault) → e ≡ f → Appends mid new (feed_fault_text e)
      → WritesBy (Some (jobs.Keep path fresh)) first.reads start.left now.left old new (status_of f)
  by_fault (faults.Malformed at) is b = (
    written (λ h. let no : faults.Malformed at ≡ faults.ReadFault = sym is ∙ h in cc) b status.Malformed
        (λ end h. malformed_status end (is_malformed e end (ap status_of is) h)),
    malformed_left e r (ap status_of is),
  )
  by_fault (faults.Truncated at) is b = (
    written (λ h. let no : faults.Truncated at ≡ faults.ReadFault = sym is ∙ h in cc) b status.Truncated
        (λ end h. truncated_status end (is_truncated e end (ap status_of is) h)),
    nothing_left e r (ap status_of is),
  )
  by_fault faults.ReadFault is b = (
    (λ _.
        let t = subst (λ (f : FeedFault). Replies (bytes_of stored) start now old mid (Err (replays.Feed f))) is r in
        let none = subst (λ (f : FeedFault). Appends mid new (feed_fault_text f)) is b in
        let lines = replied (bytes_of stored) t.given in
        same_found fresh stored start.left first.reads tells
        (λ (l : List (List ℕ)). (given : List ℕ) × Consumes start.left now.left given × Appends old new (replied l given))
        (t.given, t.took.consumed, subst (λ (x : List ℕ). Appends old new x) (append-nil lines) (appends_then old mid new lines [] t.says.0 none))),
    read_front is b,
  )
  by_fault (faults.TooLong taken) is b = (
    written (λ h. let no : faults.TooLong taken ≡ faults.ReadFault = sym is ∙ h in cc) b status.TooLong
        (λ end h. long_status end (is_too_long e end (ap status_of is) h)),
    limit_taken e r (ap status_of is),
  )

  consumed_of : (u : IsUntried stored start now old mid first last (Err (Feed e))) {input : List ℕ} → start.left ≡ Some input
      → Consumes (Some input) now.left u.given
  consumed_of u l = subst (λ (o : Option (List ℕ)). Consumes o now.left u.given) l u.took.consumed

  -- of a failed read no line is written
  silent : IsUntried stored start now old mid first last (Err (Feed e)) → e ≡ faults.ReadFault → Appends old new []
  silent u is =
      let whole = text (λ h. let no : status.WriteFault ≡ status.ReadFault = sym h ∙ read is in cc) in
      let none = subst (λ (f : FeedFault). Appends mid new (feed_fault_text f)) is whole in
      subst (λ (o : Option (List ℕ)). Appends o new []) u.silent none

  -- what a crash leaves, where no node was started
  untried_recovery : (u : IsUntried stored start now old mid first last (Err (Feed e))) (disk input : List ℕ) → start.left ≡ Some input
      → first.reads ≡ Some disk
      → Recovery fresh disk input now.left old new first last result
  untried_recovery u disk input l x = elim (is_read e) [
    | inl is ↦ subst (Recovery fresh disk input now.left old new first last) (sym (read is))
        (early_recovery fresh disk input now.left old new first last status.ReadFault law last_law x u.given (consumed_of u l)
        (looked stored start now u.given first last e u.why) (silent u is) tt u.headed (λ f. unheaded stored start now u.given first last e is u.why))
    | inr other ↦ other_recovery fresh disk input now.left old new first last result law last_law x u.given (consumed_of u l)
        (looked stored start now u.given first last e u.why) (λ fits.
        let none = at_one (λ (i : List ℕ). (fed i).head ≡ None) l (headless stored start now u.given first last e other u.took.consumed u.why) in
        let no : FitsStored stored None = subst (FitsStored stored) none
        (fits_here fresh disk stored input (told_at fresh stored tells x) fits) in absurd no)
  ]

  chained : OnBoth start.left first.reads (λ disk input. HasOtherChain disk input → EndsAtHead start.left now.left result)
  chained = elim a [
    | inr t ↦ fitting_chain fresh stored start.left first.reads now.left result tells t.1.fits
    | inl u ↦ elim (is_read e) [
      | inl is ↦ untried_chain stored first.reads result u (subst EndsByChain (sym (read is)) tt)
          (λ d. (let no : status.ReadFault ≡ status.DiskFault = sym (read is) ∙ d in cc))
      | inr other ↦ headless_chain start.left first.reads now.left result
          (headless stored start now u.given first last e other u.took.consumed u.why)
    ]
  ]

  pub exit_feed : JobEnds (Some (jobs.Keep path fresh)) first.reads start.left now.left old new first last result
  exit_feed = record {
    by = elim (is_write result) [
      | inl is ↦ subst (WritesBy (Some (jobs.Keep path fresh)) first.reads start.left now.left old new) (sym is) (cut is)
      | inr no_write ↦ subst (WritesBy (Some (jobs.Keep path fresh)) first.reads start.left now.left old new) (sym (same no_write))
          (by_fault e refl (text no_write))
    ];
    taken = λ takes. absurd takes;
    taken_fed = λ _. feed_taken fresh stored start.left first.reads tells now.left old new
        (takes_then (bytes_of stored) start.left now.left old mid new (feed_fault_text e) (takes r) front);
    onward = answered_stays fresh stored first last law tells a;
    lasting = answered_lasts stored first last law last_law a;
    chain = chain_of (jobs.Keep path fresh) start.left first.reads _ chained;
    certified = λ s. tt;
    crash = on_both start.left first.reads _ (λ disk input l x. elim a [
      | inr tried ↦ answered_recovery fresh disk input stored (told_at fresh stored tells x) new first last law x l tried
          (tried.1.whole (told_by first disk x)) result
      | inl u ↦ untried_recovery u disk input l x
    ]);
  }

-- ---- the journal is that of another chain

-- the parts of the fault
other_parts : {a1 a2 b1 b2 c1 c2 d1 d2 : ℕ} {p1 p2 q1 q2 : Profile} → OtherChain a2 b2 p2 c2 d2 q2 ≡ OtherChain a1 b1 p1 c1 d1 q1 → (a2 ≡ a1) × (b2 ≡ b1) × (p2 ≡ p1) × (c2 ≡ c1) × (d2 ≡ d1) × (q2 ≡ q1)
other_parts e = (cc e, cc e, cc e, cc e, cc e, cc e)

pub exit_other : (path : List ℕ) (fresh : Bool) (stored : Stored) {start now : Moment} (old : Option (List ℕ)) (first last : DiskMoment)
    → IsMoment first → IsMoment last
    → (tells : IfSome first.reads (λ disk. Tells fresh disk (Ok stored))) → {mid : Option (List ℕ)} (new : Option (List ℕ)) (b c : ℕ) (p : Profile) (d e : ℕ) (q : Profile)
    → KeepAnswers stored start now old mid first last (Err (OtherChain b c p d e q)) → (result : Status)
    → (result ≢ status.WriteFault → result ≡ status.OtherChain)
    → (result ≢ status.WriteFault → Appends mid new (other_chain_text b c p d e q)) → AppendsFront mid new (other_chain_text b c p d e q)
    → JobEnds (Some (jobs.Keep path fresh)) first.reads start.left now.left old new first last result
exit_other path fresh stored old first last law last_law tells new b c p d e q (inr t) result same text front = absurd t
exit_other path fresh stored {start = start} {now = now} old first last law last_law tells {mid = mid} new b c p d e q
    (inl u) result same text front = record {
      by = elim (is_write result) [
        | inl is ↦ subst (WritesBy (Some (jobs.Keep path fresh)) first.reads start.left now.left old new) (sym is)
            (on_both start.left first.reads _ (λ disk input l x.
            subst (λ (o : List ℕ). AppendsFront old new o) (sym (is_text disk input l x).0)
            (subst (λ (o : Option (List ℕ)). AppendsFront o new (other_chain_text b c p d e q)) u.silent front)))
        | inr no_write ↦ subst (WritesBy (Some (jobs.Keep path fresh)) first.reads start.left now.left old new) (sym (same no_write)) (
          on_both start.left first.reads _ (λ disk input l x. record {
            status = (is_text disk input l x).1;
            took = subst (λ (o : List ℕ). Appends old new o) (sym (is_text disk input l x).0)
                (subst (λ (o : Option (List ℕ)). Appends o new (other_chain_text b c p d e q)) u.silent (text no_write));
          }),
          other_left,
        )
      ];
      taken = λ takes. absurd takes;
      taken_fed = λ _.
          feed_taken fresh stored start.left first.reads tells now.left old new
          (takes_then (bytes_of stored) start.left now.left old mid new (other_chain_text b c p d e q)
          (subst (λ (o : Option (List ℕ)). TakesFeed (bytes_of stored) start.left now.left old o) (sym u.silent)
          (untried_takes path fresh stored old first last law last_law tells u)) front);
      onward = answered_stays fresh stored first last law tells {result = Err (OtherChain b c p d e q)} (inl u);
      lasting = answered_lasts stored first last law last_law {result = Err (OtherChain b c p d e q)} (inl u);
      chain = chain_of (jobs.Keep path fresh) start.left first.reads _ (untried_chain stored first.reads result u (line_ends EndsByChain result status.OtherChain same tt tt)
          (line_ends (λ s. s ≡ status.DiskFault → ⊥) result status.OtherChain same (λ e. cc) (λ e. cc)));
      certified = λ s. tt;
      crash = on_both start.left first.reads _ (λ disk input l x.
          other_recovery fresh disk input now.left old new first last result law last_law x u.given
          (subst (λ (o : Option (List ℕ)). Consumes o now.left u.given) l u.took.consumed) u.why.1
          (λ fits. u.why.0.other
          (subst (FitsStored stored) (head_is disk input l) (fits_here fresh disk stored input (told_at fresh stored tells x) fits))));
    }
  where
    told : is_headless u.given ≡ false
    told = ap is_headless (sym (append-nil u.given)) ∙ ap is_none (u.why.0.whole [])

    other_left : IfSome start.left (λ input. now.left ≡ Some (behind is_headless [] input))
    other_left = with_input (λ input. now.left ≡ Some (behind is_headless [] input)) start.left now.left u.given u.took.consumed (λ rest x.
        x ∙ ap (λ (t : List ℕ). Some t) (sym (behind_is is_headless u.given told [] u.given rest refl (λ first more k l. ap is_none (u.headed first more k l)))))

    head_is : (disk input : List ℕ) → start.left ≡ Some input → (fed input).head ≡ Some u.why.0.head
    head_is disk input l = at_one (λ (i : List ℕ). (fed i).head ≡ Some u.why.0.head) l
        (with_input (λ i. (fed i).head ≡ Some u.why.0.head) start.left now.left u.given u.took.consumed (λ rest x. u.why.0.whole rest))

    named : (s : Stored) (disk input : List ℕ) (h : Head) → Tells fresh disk (Ok s) → (fed input).head ≡ Some h → (FitsStored s (Some h) → ⊥)
        → NamesBothOf s h (OtherChain b c p d e q)
        → (run_text (node_run fresh disk input) ≡ other_chain_text b c p d e q) × (status.OtherChain ≡ run_status (node_run fresh disk input))
    named (Empty gate) disk input h t is other names = absurd names
    named (Found o) disk input h t is other names = (
      ap run_text (node_other fresh disk o input h t is other) ∙ same_text names,
      sym (ap run_status (node_other fresh disk o input h t is other)),
    )
      where
        same_text : {a1 a2 b1 b2 c1 c2 d1 d2 : ℕ} {p1 p2 q1 q2 : Profile} → OtherChain a2 b2 p2 c2 d2 q2 ≡ OtherChain a1 b1 p1 c1 d1 q1
            → other_chain_text a1 b1 p1 c1 d1 q1 ≡ other_chain_text a2 b2 p2 c2 d2 q2
        same_text eq = let e = other_parts eq in (λ i. other_chain_text (sym e.0 i) (sym e.1 i) (sym e.2 i) (sym e.3 i) (sym e.4 i) (sym e.5 i))

    is_text : (disk input : List ℕ) → start.left ≡ Some input → first.reads ≡ Some disk
        → (run_text (node_run fresh disk input) ≡ other_chain_text b c p d e q) × (status.OtherChain ≡ run_status (node_run fresh disk input))
    is_text disk input l x = named stored disk input u.why.0.head (told_at fresh stored tells x) (head_is disk input l) u.why.0.other u.why.0.names

-- ---- the opening of the disk comes first

synced_on : (first mid : DiskMoment) → Looks first mid → IsSynced first → IsSynced mid
synced_on first mid looks synced =
    subst (λ (o : Option (List ℕ)). IfSome o (λ bytes. EachIs bytes mid.images)) (sym looks.reads)
    (on_one first.reads (λ bytes. EachIs bytes mid.images)
    (λ bytes e image left. at_one (λ (b : List ℕ). EachIs b first.images) e synced image (looks.crash image left)))

sure_on : (first mid : DiskMoment) (old new : Option (List ℕ)) (s : Status) → Looks first mid → IsSure first old new s → IsSure mid old new s
sure_on first mid old new s looks (inl synced) = inl (synced_on first mid looks synced)
sure_on first mid old new s looks (inr more) = inr more

recovery_on : (fresh : Bool) (disk input : List ℕ) (after old new : Option (List ℕ)) (first mid last : DiskMoment) (s : Status) → IsMoment first → IsMoment mid
    → first.reads ≡ Some disk → Looks first mid → Recovery fresh disk input after old new mid last s
    → Recovery fresh disk input after old new first last s
recovery_on fresh disk input after old new first mid last s law mid_law reads looks r = record {
  given = r.given;
  consumed = r.consumed;
  now = λ fits sure. r.now fits (sure_on first mid old new s looks sure);
  whole = r.whole;
  any_moment = λ fits synced.
      joined first mid last (λ image. records image ≡ records disk) (HoldsFoundOrMore (records disk) r.given)
      (HoldsFoundOrMore (records disk) r.given)
      (looked_since first mid law disk reads looks synced) (r.any_moment fits (synced_on first mid looks synced)) (λ image h. inl h) (λ image h. h);
  other = λ misfit. looks_then first mid last law mid_law looks (r.other misfit);
}

pub ends_on : (path : List ℕ) (fresh : Bool) (before after old new : Option (List ℕ)) (first mid last : DiskMoment) (s : Status) → IsMoment first
    → IsMoment mid → IsMoment last → Looks first mid
    → JobEnds (Some (jobs.Keep path fresh)) mid.reads before after old new mid last s
    → JobEnds (Some (jobs.Keep path fresh)) first.reads before after old new first last s
ends_on path fresh before after old new first mid last s law mid_law last_law looks k = record {
  by = subst (λ (o : Option (List ℕ)). WritesBy (Some (jobs.Keep path fresh)) o before after old new s) looks.reads k.by;
  taken = λ takes. absurd takes;
  taken_fed = λ _.
      subst (λ (o : Option (List ℕ)). IfSome o (λ disk. TakesFeed (found_blocks disk) before after old new)) looks.reads (k.taken_fed tt);
  onward = on_one first.reads _ (λ disk r synced.
      joined first mid last (λ image. records image ≡ records disk) (HoldsOnward (records disk)) (HoldsOnward (records disk))
      (looked_since first mid law disk r looks synced)
      (at_one (λ (d : List ℕ). IsSynced mid → Leaves mid last (HoldsOnward (records d))) (looks.reads ∙ r) k.onward
      (synced_on first mid looks synced)) (λ image h. inl h) (λ image h. h));
  lasting = on_one first.reads _ (λ disk r.
      joined_last first mid last HoldsJournal mid_law last_law (looks_last first mid HoldsJournal law mid_law looks)
      (at_one (λ (d : List ℕ). Lasts mid last HoldsJournal) (looks.reads ∙ r) k.lasting));
  chain = subst (λ (o : Option (List ℕ)). OnRun (Some (jobs.Keep path fresh)) before o (λ run. run_status run ≡ status.OtherChain → EndsAtHead before after s)) looks.reads k.chain;
  certified = λ s. tt;
  crash = on_map before first.reads _ _ (λ disk input l r h. recovery_on fresh disk input after old new first mid last s law mid_law r looks h)
      (subst (λ (o : Option (List ℕ)). OnBoth before o (λ disk input. Recovery fresh disk input after old new mid last s)) looks.reads k.crash);
}

-- ---- the disk wasn't opened

-- what ends a run early may end it where the feed is of another chain, and nothing of it was taken
early_chain : (s : Status) → EndsEarly s → EndsByChain s
early_chain status.ReadFault early = tt
early_chain status.WriteFault early = tt
early_chain status.DiskFault early = tt
early_chain status.OtherChain early = tt
early_chain status.Memory early = tt
early_chain other early = early

pub nothing_headed : (left : Option (List ℕ)) (s : Status) → EndsByChain s → EndsAtHead left left s
nothing_headed left s ends = (ends, record { given = []; consumed = none left; needed = none_ends; opened = λ e. refl })
  where
    none : (o : Option (List ℕ)) → Consumes o o []
    none None = tt
    none (Some xs) = refl

pub nothing_taken_for : (due : List ℕ → List ℕ) (left old : Option (List ℕ)) → TakesFeedFor due left left old old
nothing_taken_for due left old = record {
  given = [];
  consumed = none left;
  within = omega arith;
  needed = λ front rest e l. absurd (omega (arith, ap length e, length-append front rest, l));
  answered = λ front rest e l. absurd (omega (arith, ap length e, length-append front rest, l));
}
  where
    none : (o : Option (List ℕ)) → Consumes o o []
    none None = tt
    none (Some xs) = refl

pub nothing_taken : (arrived : List (List ℕ)) (left old : Option (List ℕ)) → TakesFeed arrived left left old old
nothing_taken arrived left old = nothing_taken_for (replied arrived) left old

module _ (path : List ℕ) (fresh : Bool) (left old : Option (List ℕ)) (first last : DiskMoment) (law : IsMoment first) (last_law : IsMoment last)
    (looks : Looks first last) where
  none_consumed : (input : List ℕ) → left ≡ Some input → Consumes (Some input) left []
  none_consumed input l = subst (λ (o : Option (List ℕ)). Consumes (Some input) o []) (sym l) refl

  nothing_begun : (fed []).head ≡ None
  unfolding feed placed head_form bind
  nothing_begun = refl

  -- an early end
  pub exit_early : (s : Status) → EndsEarly s → WritesBy (Some (jobs.Keep path fresh)) first.reads left left old old s
      → JobEnds (Some (jobs.Keep path fresh)) first.reads left left old old first last s
  exit_early s early by = record {
    by = by;
    taken = λ takes. absurd takes;
    taken_fed = λ _. on_one first.reads _ (λ disk r. nothing_taken (found_blocks disk) left old);
    onward = looked_stays first last law looks;
    lasting = looked_lasts first last law last_law looks;
    chain = chain_of (jobs.Keep path fresh) left first.reads _ (on_both left first.reads _ (λ disk input l r other. nothing_headed left s (early_chain s early)));
    certified = λ s. tt;
    crash = on_both left first.reads _ (λ disk input l r.
        early_recovery fresh disk input left old old first last s law last_law r [] (none_consumed input l) looks (appends_none old) early none_ends
        (λ e. nothing_begun));
  }

  pub silent_memory : WritesBy (Some (jobs.Keep path fresh)) first.reads left left old old status.Memory
  silent_memory = front_none left first.reads old old (λ disk input. run_text (node_run fresh disk input)) refl

  no_lines : (before : List (List ℕ)) → Appends old old (replied_but_last before [])
  unfolding feed placed head_form bind
  no_lines before = appends_none old

  pub silent_disk : WritesBy (Some (jobs.Keep path fresh)) first.reads left left old old status.DiskFault
  silent_disk = ((λ _. on_one first.reads _ (λ disk r. ([], none left, no_lines (found_blocks disk)))), silent_memory)
    where
      none : (o : Option (List ℕ)) → Consumes o o []
      none None = tt
      none (Some xs) = refl

  -- a line was written of what the disk holds
  pub exit_line : (new : Option (List ℕ)) (text : List ℕ) (status_is result : Status)
      → (result ≢ status.WriteFault → result ≡ status_is) → (result ≢ status.WriteFault → Appends old new text) → AppendsFront old new text
      → ((disk input : List ℕ) → first.reads ≡ Some disk → (run_text (node_run fresh disk input) ≡ text) × (Fits fresh disk input → ⊥))
      → ((disk : List ℕ) (c : Contents) → first.reads ≡ Some disk → records disk ≡ found c → ⊥)
      → (OnBoth left first.reads (λ disk input. Appends old new (run_text (node_run fresh disk input)))
      → WritesBy (Some (jobs.Keep path fresh)) first.reads left left old new status_is)
      → JobEnds (Some (jobs.Keep path fresh)) first.reads left left old new first last result
  exit_line new text status_is result same whole front says unfound ends_by = record {
    by = elim (is_write result) [
      | inl is ↦ subst (WritesBy (Some (jobs.Keep path fresh)) first.reads left left old new) (sym is)
          (on_both left first.reads _ (λ disk input l r. subst (λ (t : List ℕ). AppendsFront old new t) (sym (says disk input r).0) front))
      | inr no_write ↦ subst (WritesBy (Some (jobs.Keep path fresh)) first.reads left left old new) (sym (same no_write))
          (ends_by (on_both left first.reads _ (λ disk input l r.
          subst (λ (t : List ℕ). Appends old new t) (sym (says disk input r).0) (whole no_write))))
    ];
    taken = λ takes. absurd takes;
    taken_fed = λ _.
        on_one first.reads _ (λ disk r. takes_then (found_blocks disk) left left old old new text (nothing_taken (found_blocks disk) left old) front);
    onward = looked_stays first last law looks;
    lasting = looked_lasts first last law last_law looks;
    chain = chain_of (jobs.Keep path fresh) left first.reads _ (on_both left first.reads _ (λ disk input l r other. absurd (unfound disk other.contents r other.found)));
    certified = λ s. tt;
    crash = on_both left first.reads _ (λ disk input l r.
        other_recovery fresh disk input left old new first last result law last_law r [] (none_consumed input l) looks (says disk input r).1);
  }
