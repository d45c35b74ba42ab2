-- What the commands say by their statuses, as the runs that they are.
use Rattle.std.proofs.Common.{◌≡◌, ◌≢◌, ℕ, ◌<◌, ◌≤◌, true, false, cond, List, [], length, Option, Some, None, IfSome, IsNone, IsSome, Err, refl, sym, ap, subst, ◌∙◌}
use Rattle.std.specs.Io.KnownBytes.{Appends}
use Rattle.sp_feed.specs.Feed.{End}
use Rattle.sp_io.specs.Whole.{AppendsFront}
use Rattle.sp_journal.specs.Creation.{HoldsJournal}
use Rattle.sp_journal.specs.Records.{NoJournal, records}
use Rattle.sp_make.specs.Made.{made}
use Rattle.sp_play.specs.Scene.{Scene, scene}
use Rattle.sp_play.specs.Source.{scenario_limit}
use Rattle.sp_play.specs.declared.why.LineFault.{LineFault}
use Rattle.spectre.specs.Fault.{Fault, TooLongAfter}
use Rattle.spectre.specs.Faults.{feed_fault_text, IsFaultyText, IsWholeText, status_of}
use Rattle.spectre.specs.Gossips.{gossip}
use Rattle.spectre.specs.Gossips as gossips
use Rattle.spectre.specs.Journals.{IsDamagedDisk, shown_output}
use Rattle.spectre.specs.Output.{source_output}
use Rattle.spectre.specs.Replay.{fed, replayed, replied}
use Rattle.spectre.specs.Replaying.{Replies}
use Rattle.spectre.specs.JobEnds.{WritesBy}
use Rattle.spectre.specs.declared.job.Job.TheVariants as jobs
use Rattle.spectre.specs.declared.replay.ReplayFault.TheVariants.{Feed}
use Rattle.sp_feed.specs.Reads.{Moment}
use Rattle.sp_feed.specs.declared.fault.FeedFault.{FeedFault}
use Rattle.sp_feed.specs.declared.fault.FeedFault.TheVariants as faults
use Rattle.spectre.proofs.Due.{Begins, fault_by, fault_ends, RunCloses, text_closes}
use Rattle.spectre.specs.Run.{Ended, last_line, last_status, ran, Run, run_status, run_text}
use Rattle.spectre.specs.RunOf.{build_run, drill_run, feed_fault, feed_run, gossip_fault, gossip_run, make_run, play_run, replay_run, scenario_fault, show_run, shown_run, text_run}
use Rattle.spectre.specs.Scenes.{drilled}
use Rattle.spectre.specs.declared.purpose.Purpose.TheVariants.{Build, Play}
use Rattle.spectre.specs.declared.purpose.Task.TheVariants.{Gossip, Scenario}
use Rattle.spectre.specs.declared.shape.Shape.{Shape}
use Rattle.spectre.specs.declared.status.Status.{Status}
use Rattle.spectre.specs.declared.status.Status.TheVariants as status
use Rattle.spectre.proofs.Outputs.{is_long, is_short}
use Rattle.spectre.proofs.RunTexts.{build_text, drill_text, gossip_text, make_text, play_text, replay_text, show_text}

pub if_each : (o : Option (List ℕ)) (P Q : List ℕ → Type 0) → ((x : List ℕ) → P x → Q x) → IfSome o P → IfSome o Q
if_each None P Q f h = tt
if_each (Some x) P Q f h = f x h

-- a text was written that is the run's, and what is said of it gives the run's status
module _ (run : List ℕ → Run) (text : List ℕ → List ℕ) (same : (x : List ℕ) → run_text (run x) ≡ text x) (o old new : Option (List ℕ)) where
  pub ended : (s : Status) (P : List ℕ → Type 0) → ((x : List ℕ) → P x → s ≡ run_status (run x)) → IfSome o (λ x. Appends old new (text x) × P x) → IfSome o (λ x. Ended (run x) s old new)
  ended s P is h = if_each o _ _ (λ x w. record { status = is x w.1; took = subst (λ (t : List ℕ). Appends old new t) (sym (same x)) w.0 }) h

  -- or a front of it
  pub fronts : IfSome o (λ x. AppendsFront old new (text x)) → IfSome o (λ x. AppendsFront old new (run_text (run x)))
  fronts h = if_each o _ _ (λ x w. subst (λ (t : List ℕ). AppendsFront old new t) (sym (same x)) w) h

-- ---- `replay`

module _ (before old new : Option (List ℕ)) where
  replay_status : (s : Status) (Q : End → Type 0) → ((end : End) → Q end → s ≡ last_status (feed_fault end)) → (input : List ℕ) → Q (fed input).end → s ≡ run_status (replay_run input)
  unfolding replay_run
  replay_status s Q is input h = is (fed input).end h

  pub replay_ended : (s : Status) (Q : End → Type 0) → ((end : End) → Q end → s ≡ last_status (feed_fault end)) → IfSome before (λ input. Appends old new (replayed [] input) × Q (fed input).end) → IfSome before (λ input. Ended (replay_run input) s old new)
  replay_ended s Q is h = ended replay_run (replayed []) replay_text before old new s (λ input. Q (fed input).end) (replay_status s Q is) h

  pub replay_front : IfSome before (λ input. AppendsFront old new (replayed [] input)) → IfSome before (λ input. AppendsFront old new (run_text (replay_run input)))
  replay_front h = fronts replay_run (replayed []) replay_text before old new h

replay_closes : RunCloses (replied []) replay_run
unfolding replay_run
replay_closes input end e stops = ap (feed_run (replied [] input)) e

-- what is due comes first in any case
replay_begins : Begins (replied []) (λ input. run_text (replay_run input))
unfolding replay_run
replay_begins input = (last_line (feed_fault (fed input).end), refl)

-- a feed's fault, of which the line was written
pub replay_by_fault : (reads : Option (List ℕ)) {start now : Moment} {old mid : Option (List ℕ)} (new : Option (List ℕ)) (e : FeedFault) (result : Status) → Replies [] start now old mid (Err (Feed e)) → (result ≢ status.WriteFault → result ≡ status_of e) → (result ≢ status.WriteFault → Appends mid new (feed_fault_text e))
    → AppendsFront mid new (feed_fault_text e) → (e ≡ faults.ReadFault → result ≡ status.ReadFault) → WritesBy (Some jobs.Replay) reads start.left now.left old new result
replay_by_fault reads {start = start} {now = now} {old = old} new e result r same text front read =
    fault_by (replied []) replay_run replay_closes (WritesBy (Some jobs.Replay) reads start.left now.left old new) result
    (fault_ends (λ input. run_text (replay_run input)) (text_closes (replied []) replay_run replay_closes) replay_begins new e result r same text front read)
    (λ h. h) (λ h. h) (λ h. h) (λ h front. ((λ feed. h), front)) (λ h. h)

-- ---- a scenario

text_short : (input lines : List ℕ) (fault : Option Fault) → length input < scenario_limit → text_run input lines fault ≡ ran lines fault
text_short input lines fault h = ap (λ b. cond b (ran [] (Some (TooLongAfter scenario_limit))) (ran lines fault)) (is_short (length input) h)

text_long : (input lines : List ℕ) (fault : Option Fault) → scenario_limit ≤ length input → text_run input lines fault ≡ ran [] (Some (TooLongAfter scenario_limit))
text_long input lines fault h = ap (λ b. cond b (ran [] (Some (TooLongAfter scenario_limit))) (ran lines fault)) (is_long (length input) h)

faultless : (o : Option LineFault) → IsNone o → status.Done ≡ last_status (scenario_fault o)
faultless None h = refl
faultless (Some fault) h = absurd (let no : true ≡ false = h in cc)

faulty : (o : Option LineFault) → IsSome o → status.Malformed ≡ last_status (scenario_fault o)
faulty None h = absurd (let no : false ≡ true = h in cc)
faulty (Some fault) h = refl

gossip_faultless : (o : Option gossips.Fault) → IsNone o → status.Done ≡ last_status (gossip_fault o)
gossip_faultless None h = refl
gossip_faultless (Some fault) h = absurd (let no : true ≡ false = h in cc)

gossip_faulty : (o : Option gossips.Fault) → IsSome o → status.Malformed ≡ last_status (gossip_fault o)
gossip_faulty None h = absurd (let no : false ≡ true = h in cc)
gossip_faulty (Some (gossips.InScenario fault)) h = refl
gossip_faulty (Some (gossips.InScript fault)) h = refl

play_done : (input : List ℕ) → IsWholeText (Scenario Play) input → status.Done ≡ run_status (play_run input)
unfolding play_run
play_done input h = faultless (scene input).fault h.right ∙ sym (ap run_status (text_short input _ _ h.short))

play_faulty : (input : List ℕ) → IsFaultyText (Scenario Play) input → status.Malformed ≡ run_status (play_run input)
unfolding play_run
play_faulty input h = faulty (scene input).fault h.wrong ∙ sym (ap run_status (text_short input _ _ h.short))

play_long : (input : List ℕ) → scenario_limit ≤ length input → status.TooLong ≡ run_status (play_run input)
unfolding play_run
play_long input h = sym (ap run_status (text_long input _ _ h))

build_done : (input : List ℕ) → IsWholeText (Scenario Build) input → status.Done ≡ run_status (build_run input)
unfolding build_run
build_done input h = faultless (scene input).fault h.right ∙ sym (ap run_status (text_short input _ _ h.short))

build_faulty : (input : List ℕ) → IsFaultyText (Scenario Build) input → status.Malformed ≡ run_status (build_run input)
unfolding build_run
build_faulty input h = faulty (scene input).fault h.wrong ∙ sym (ap run_status (text_short input _ _ h.short))

build_long : (input : List ℕ) → scenario_limit ≤ length input → status.TooLong ≡ run_status (build_run input)
unfolding build_run
build_long input h = sym (ap run_status (text_long input _ _ h))

gossip_done : (input : List ℕ) → IsWholeText Gossip input → status.Done ≡ run_status (gossip_run input)
unfolding gossip_run
gossip_done input h = gossip_faultless (gossip input).fault h.right ∙ sym (ap run_status (text_short input _ _ h.short))

gossip_wrong : (input : List ℕ) → IsFaultyText Gossip input → status.Malformed ≡ run_status (gossip_run input)
unfolding gossip_run
gossip_wrong input h = gossip_faulty (gossip input).fault h.wrong ∙ sym (ap run_status (text_short input _ _ h.short))

gossip_long : (input : List ℕ) → scenario_limit ≤ length input → status.TooLong ≡ run_status (gossip_run input)
unfolding gossip_run
gossip_long input h = sym (ap run_status (text_long input _ _ h))

-- what is said of a text that was taken from a source: it is whole, faulty or too long, or a front was written
pub record TextRuns (run : List ℕ → Run) (text : List ℕ → List ℕ) (Whole Faulty : List ℕ → Type 0) (before old new : Option (List ℕ)) : Type 0 where
  pub done : IfSome before (λ input. Appends old new (text input) × Whole input) → IfSome before (λ input. Ended (run input) status.Done old new)
  pub malformed : IfSome before (λ input. Appends old new (text input) × Faulty input) → IfSome before (λ input. Ended (run input) status.Malformed old new)
  pub too_long : IfSome before (λ input. Appends old new (text input) × (scenario_limit ≤ length input)) → IfSome before (λ input. Ended (run input) status.TooLong old new)
  pub front : IfSome before (λ input. AppendsFront old new (text input)) → IfSome before (λ input. AppendsFront old new (run_text (run input)))

module _ (before old new : Option (List ℕ)) where
  pub play_runs : TextRuns play_run (source_output (Scenario Play)) (IsWholeText (Scenario Play)) (IsFaultyText (Scenario Play)) before old new
  play_runs = record {
    done = λ h. ended play_run (source_output (Scenario Play)) play_text before old new status.Done (IsWholeText (Scenario Play)) play_done h;
    malformed = λ h. ended play_run (source_output (Scenario Play)) play_text before old new status.Malformed (IsFaultyText (Scenario Play)) play_faulty h;
    too_long = λ h. ended play_run (source_output (Scenario Play)) play_text before old new status.TooLong (λ input. scenario_limit ≤ length input) play_long h;
    front = λ h. fronts play_run (source_output (Scenario Play)) play_text before old new h;
  }

  pub build_runs : TextRuns build_run (source_output (Scenario Build)) (IsWholeText (Scenario Build)) (IsFaultyText (Scenario Build)) before old new
  build_runs = record {
    done = λ h. ended build_run (source_output (Scenario Build)) build_text before old new status.Done (IsWholeText (Scenario Build)) build_done h;
    malformed = λ h. ended build_run (source_output (Scenario Build)) build_text before old new status.Malformed (IsFaultyText (Scenario Build)) build_faulty h;
    too_long = λ h. ended build_run (source_output (Scenario Build)) build_text before old new status.TooLong (λ input. scenario_limit ≤ length input) build_long h;
    front = λ h. fronts build_run (source_output (Scenario Build)) build_text before old new h;
  }

  pub gossip_runs : TextRuns gossip_run (source_output Gossip) (IsWholeText Gossip) (IsFaultyText Gossip) before old new
  gossip_runs = record {
    done = λ h. ended gossip_run (source_output Gossip) gossip_text before old new status.Done (IsWholeText Gossip) gossip_done h;
    malformed = λ h. ended gossip_run (source_output Gossip) gossip_text before old new status.Malformed (IsFaultyText Gossip) gossip_wrong h;
    too_long = λ h. ended gossip_run (source_output Gossip) gossip_text before old new status.TooLong (λ input. scenario_limit ≤ length input) gossip_long h;
    front = λ h. fronts gossip_run (source_output Gossip) gossip_text before old new h;
  }

-- ---- `make` and `drill`

module _ (old new : Option (List ℕ)) where
  pub make_ended : (n seed width : ℕ) → Appends old new (made n seed width) → Ended (make_run n seed width) status.Done old new
  unfolding make_run
  make_ended n seed width h = record { status = refl; took = subst (λ (t : List ℕ). Appends old new t) (sym (make_text n seed width)) h }

  pub make_front : (n seed width : ℕ) → AppendsFront old new (made n seed width) → AppendsFront old new (run_text (make_run n seed width))
  make_front n seed width h = subst (λ (t : List ℕ). AppendsFront old new t) (sym (make_text n seed width)) h

  pub drill_done : (s : Scene) → Appends old new (drilled s) × IsNone s.fault → Ended (drill_run s) status.Done old new
  unfolding drill_run
  drill_done s h = record { status = faultless s.fault h.1; took = subst (λ (t : List ℕ). Appends old new t) (sym (drill_text s)) h.0 }

  pub drill_faulty : (s : Scene) → Appends old new (drilled s) × IsSome s.fault → Ended (drill_run s) status.Malformed old new
  unfolding drill_run
  drill_faulty s h = record { status = faulty s.fault h.1; took = subst (λ (t : List ℕ). Appends old new t) (sym (drill_text s)) h.0 }

  pub drill_front : (s : Scene) → AppendsFront old new (drilled s) → AppendsFront old new (run_text (drill_run s))
  drill_front s h = subst (λ (t : List ℕ). AppendsFront old new t) (sym (drill_text s)) h

-- ---- a journal that is shown

show_found : (shape : Shape) (disk : List ℕ) → HoldsJournal disk → status.Done ≡ run_status (show_run shape disk)
unfolding show_run
show_found shape disk h = sym (ap (λ r. run_status (shown_run shape r)) h.1)

show_none : (shape : Shape) (disk : List ℕ) → records disk ≡ NoJournal → status.NotJournal ≡ run_status (show_run shape disk)
unfolding show_run
show_none shape disk h = sym (ap (λ r. run_status (shown_run shape r)) h)

show_spoilt : (shape : Shape) (disk : List ℕ) → IsDamagedDisk disk → status.Damaged ≡ run_status (show_run shape disk)
unfolding show_run
show_spoilt shape disk h = sym (ap (λ r. run_status (shown_run shape r)) h.1)

module _ (shape : Shape) (reads old new : Option (List ℕ)) where
  pub show_done : IfSome reads (λ disk. Appends old new (shown_output shape disk) × HoldsJournal disk) → IfSome reads (λ disk. Ended (show_run shape disk) status.Done old new)
  show_done h = ended (show_run shape) (shown_output shape) (show_text shape) reads old new status.Done HoldsJournal (show_found shape) h

  pub show_no_journal : IfSome reads (λ disk. Appends old new (shown_output shape disk) × (records disk ≡ NoJournal)) → IfSome reads (λ disk. Ended (show_run shape disk) status.NotJournal old new)
  show_no_journal h = ended (show_run shape) (shown_output shape) (show_text shape) reads old new status.NotJournal (λ disk. records disk ≡ NoJournal) (show_none shape) h

  pub show_damaged : IfSome reads (λ disk. Appends old new (shown_output shape disk) × IsDamagedDisk disk) → IfSome reads (λ disk. Ended (show_run shape disk) status.Damaged old new)
  show_damaged h = ended (show_run shape) (shown_output shape) (show_text shape) reads old new status.Damaged IsDamagedDisk (show_spoilt shape) h

  pub show_front : IfSome reads (λ disk. AppendsFront old new (shown_output shape disk)) → IfSome reads (λ disk. AppendsFront old new (run_text (show_run shape disk)))
  show_front h = fronts (show_run shape) (shown_output shape) (show_text shape) reads old new h
