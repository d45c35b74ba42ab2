-- The text of each run.
use Rattle.std.proofs.Common.{◌≡◌, ℕ, Bool, true, false, cond, List, [], ◌++◌, Option, Some, None, refl, ap, sym, ◌∙◌}
use Rattle.std.proofs.lemmas.List.{append-nil}
use Rattle.sp_cert.specs.Certificate.{Certificate}
use Rattle.sp_cert.specs.Format.{Malformed as cert_malformed, Said, Truncated as cert_truncated, Whole as cert_whole}
use Rattle.sp_cert.specs.Refusals.{refusal}
use Rattle.sp_cert.specs.declared.fault.CheckFault.{CheckFault}
use Rattle.sp_feed.specs.Feed.{End, Malformed, TooLong, Truncated, Whole}
use Rattle.sp_journal.specs.Records.{Damaged, Found, NoJournal, Records, records}
use Rattle.sp_make.specs.Made.{made}
use Rattle.sp_play.specs.Feeds.{feed_text}
use Rattle.sp_play.specs.Scene.{Scene, scene}
use Rattle.sp_play.specs.Source.{scenario_limit}
use Rattle.sp_play.specs.declared.why.LineFault.{LineFault}
use Rattle.sp_report.specs.Lines.{too_long_text}
use Rattle.sp_watch.specs.declared.item.Item.{Item}
use Rattle.spectre.specs.Checks.{judged_text, said_text, shown_text}
use Rattle.spectre.specs.Fault.{Fault}
use Rattle.spectre.specs.Gossips.{gossip, gossiped, told_text}
use Rattle.spectre.specs.Gossips as gossips
use Rattle.spectre.specs.Journals.{shown_by, shown_output, told_by}
use Rattle.spectre.specs.Lines.{fault_text}
use Rattle.spectre.specs.Output.{is_too_long, source_output}
use Rattle.spectre.specs.Replay.{fed, replayed, replied}
use Rattle.spectre.specs.Run.{last_line, run_text}
use Rattle.spectre.specs.RunOf.{answer_run, build_run, drill_run, gossip_fault, gossip_run, judged_run, make_run, play_run, replay_run, said_run, scenario_fault, show_run, shown_run, text_run, unless_at_fault, watch_run, watched_run}
use Rattle.spectre.specs.Scenes.{built, drilled, played, scene_lines, summary_in, unless_faulty}
use Rattle.spectre.specs.Watches.{held_under, watch_end, watch_replied, watched}
use Rattle.spectre.specs.declared.purpose.Purpose.TheVariants.{Build, Play}
use Rattle.spectre.specs.declared.purpose.Task.TheVariants.{Scenario, Gossip}
use Rattle.spectre.specs.declared.shape.Shape.{Shape}
use Rattle.spectre.proofs.FeedRuns.{feed_line}
use Rattle.spectre.proofs.Replayed.{text_is}

-- a choice is made of what both come to
cond_is : {A B : Type 0} (f : A → B) (b : Bool) (x y : A) (u v : B) → f x ≡ u → f y ≡ v → f (cond b x y) ≡ cond b u v
cond_is f true x y u v p q = p
cond_is f false x y u v p q = q

-- ---- a scenario

scenario_line : (o : Option LineFault) → last_line (scenario_fault o) ≡ fault_text o
scenario_line None = refl
scenario_line (Some fault) = refl

-- with a fault its line stands alone
lone : (o : Option LineFault) (lines : List ℕ) → unless_at_fault (scenario_fault o) lines ++ last_line (scenario_fault o) ≡ unless_faulty o lines
lone None lines = append-nil lines
lone (Some fault) lines = refl

gossip_line : (o : Option gossips.Fault) → last_line (gossip_fault o) ≡ told_text o
gossip_line None = refl
gossip_line (Some (gossips.InScenario fault)) = refl
gossip_line (Some (gossips.InScript fault)) = refl

text_by : (input lines text : List ℕ) (fault : Option Fault) → lines ++ last_line fault ≡ text → run_text (text_run input lines fault) ≡ cond (is_too_long input) (too_long_text scenario_limit) text
text_by input lines text fault is = cond_is run_text (is_too_long input) _ _ _ _ refl is

pub play_text : (input : List ℕ) → run_text (play_run input) ≡ source_output (Scenario Play) input
unfolding play_run played
play_text input = text_by input (scene_lines (scene input)) (played (scene input)) _ (ap (λ t. scene_lines (scene input) ++ t) (scenario_line (scene input).fault))

pub build_text : (input : List ℕ) → run_text (build_run input) ≡ source_output (Scenario Build) input
unfolding build_run built
build_text input = text_by input (unless_at_fault (scenario_fault (scene input).fault) (feed_text (scene input))) (built (scene input)) _ (lone (scene input).fault (feed_text (scene input)))

pub gossip_text : (input : List ℕ) → run_text (gossip_run input) ≡ source_output Gossip input
unfolding gossip_run
gossip_text input = text_by input (gossip input).text (gossiped input) _ (ap (λ t. (gossip input).text ++ t) (gossip_line (gossip input).fault))

pub make_text : (n seed width : ℕ) → run_text (make_run n seed width) ≡ made n seed width
unfolding make_run
make_text n seed width = append-nil (made n seed width)

pub drill_text : (s : Scene) → run_text (drill_run s) ≡ drilled s
unfolding drill_run drilled
drill_text s = lone s.fault (summary_in s)

-- ---- a feed

pub answer_text : (found : List (List ℕ)) (input : List ℕ) → run_text (answer_run found input) ≡ replayed found input
answer_text found input = ap (λ t. replied found input ++ t) (feed_line (fed input).end) ∙ sym (text_is found input (fed input).end refl)

pub replay_text : (input : List ℕ) → run_text (replay_run input) ≡ replayed [] input
unfolding replay_run
replay_text input = answer_text [] input

watch_by : (items : List Item) (input : List ℕ) (end : End) → run_text (watched_run items input end) ≡ watch_replied items input ++ watch_end items (fed input) end
watch_by items input (Whole rest) = append-nil (watch_replied items input ++ held_under items (fed input).head (fed input).messages)
watch_by items input (Malformed at) = refl
watch_by items input (Truncated at) = refl
watch_by items input (TooLong taken) = refl

pub watch_text : (items : List Item) (input : List ℕ) → run_text (watch_run items input) ≡ watched items input
unfolding watch_run watched
watch_text items input = watch_by items input (fed input).end

-- ---- a certificate

judged_by : (cert : Certificate) (why : Option CheckFault) → run_text (judged_run cert why) ≡ judged_text cert why
judged_by cert None = append-nil (shown_text cert)
judged_by cert (Some why) = refl

pub said_by : (s : Said) → run_text (said_run s) ≡ said_text s
said_by (cert_whole cert) = judged_by cert (refusal cert)
said_by (cert_malformed at) = refl
said_by (cert_truncated at) = refl

-- ---- a journal

shown_is : (shape : Shape) (r : Records) → run_text (shown_run shape r) ≡ shown_by shape r
shown_is shape NoJournal = refl
shown_is shape (Damaged at) = refl
shown_is shape (Found c) = append-nil (told_by shape c)

pub show_text : (shape : Shape) (disk : List ℕ) → run_text (show_run shape disk) ≡ shown_output shape disk
unfolding show_run shown_output
show_text shape disk = shown_is shape (records disk)
