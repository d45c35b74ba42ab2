-- What a run writes before the line of its fault are whole lines.
use Rattle.std.proofs.Common.{◌≡◌, inl, ℕ, Bool, true, false, cond, List, [], Option, Some, None, IsSome, Ok, Err, refl}
use Rattle.sp_cert.specs.Certificate.{Certificate}
use Rattle.sp_cert.specs.Format.{Malformed as cert_malformed, Said, said, Truncated as cert_truncated, Whole as cert_whole}
use Rattle.sp_cert.specs.Refusals.{refusal}
use Rattle.sp_cert.specs.declared.fault.CertifyFault.TheVariants as certifies
use Rattle.sp_cert.specs.declared.fault.CheckFault.{CheckFault}
use Rattle.sp_engine.specs.Blocks.{block_in}
use Rattle.sp_feed.specs.Feed.{End, Malformed, TooLong, Truncated, Whole}
use Rattle.sp_feed.specs.Format.{Head}
use Rattle.sp_journal.specs.Journal.{Contents}
use Rattle.sp_journal.specs.Records.{Damaged, Found, NoJournal, Records, records}
use Rattle.sp_make.specs.Made.{made}
use Rattle.sp_names.specs.Labels.{no_labels}
use Rattle.sp_play.specs.Feeds.{feed_text}
use Rattle.sp_play.specs.Scene.{Scene, scene}
use Rattle.sp_wallet.specs.declared.fault.SpendFault.TheVariants as spends
use Rattle.sp_watch.specs.declared.item.Item.{Item}
use Rattle.spectre.specs.Certifies.{Certified, certified_fed}
use Rattle.spectre.specs.Fault.{Fault}
use Rattle.spectre.specs.Journals.{is_chain_of, may_be_new}
use Rattle.spectre.specs.LastLine.{AreLines}
use Rattle.spectre.specs.Output.{is_too_long}
use Rattle.spectre.specs.Replay.{fed, head_terms, lines_under, replied}
use Rattle.spectre.specs.Run.{Run}
use Rattle.spectre.specs.RunOf.{answer_run, build_run, certified_fault, certified_lines, certify_run, check_run, closing_run, drill_run, found_run, gossip_run, judged_run, kept_run, make_run, node_run, play_run, replay_run, RunsAreLines, said_run, scenario_fault, show_run, shown_run, spend_run, spent_fault, spent_lines, text_run, unless_at_fault, watch_run, watched_run}
use Rattle.spectre.specs.Scenes.{scene_terms, summary_in}
use Rattle.spectre.specs.Spends.{spend_fed, Spent}
use Rattle.spectre.specs.declared.job.Job.TheVariants as jobs
use Rattle.spectre.specs.declared.shape.Shape.{Shape}
use Rattle.spectre.specs.declared.shape.Shape.TheVariants.{Report, Feed}
use Rattle.spectre.proofs.GossipLines.{gossip_lines}
use Rattle.spectre.proofs.WatchLines.{watched_lines}
use Rattle.spectre.proofs.WholeLines.{all_lines}

abbrev HasLines : Run → Type 0
HasLines run = IsSome run.fault → AreLines run.lines

none_some : {X : Type 0} → false ≡ true → X
none_some h = absurd cc

cond_lines : (b : Bool) (x y : Run) → HasLines x → HasLines y → HasLines (cond b x y)
cond_lines true x y p q = p
cond_lines false x y p q = q

-- ---- a scenario

text_lines : (input lines : List ℕ) (fault : Option Fault) → (IsSome fault → AreLines lines) → HasLines (text_run input lines fault)
text_lines input lines fault h = cond_lines (is_too_long input) _ _ (λ some. inl refl) h

-- a fault that stands alone
lone_lines : (fault : Option Fault) (lines : List ℕ) → IsSome fault → AreLines (unless_at_fault fault lines)
lone_lines None lines h = none_some h
lone_lines (Some fault) lines h = inl refl

play_lines : (input : List ℕ) → HasLines (play_run input)
unfolding play_run
play_lines input = text_lines input _ _ (λ some. all_lines (scene input).names (block_in true (scene input).genesis) (scene_terms (scene input)) [] (scene input).messages)

build_lines : (input : List ℕ) → HasLines (build_run input)
unfolding build_run
build_lines input = text_lines input _ _ (lone_lines (scenario_fault (scene input).fault) (feed_text (scene input)))

gossip_run_lines : (input : List ℕ) → HasLines (gossip_run input)
unfolding gossip_run
gossip_run_lines input = text_lines input _ _ (λ some. gossip_lines input)

make_lines : (n seed width : ℕ) → HasLines (make_run n seed width)
unfolding make_run
make_lines n seed width h = none_some h

drill_lines : (s : Scene) → HasLines (drill_run s)
unfolding drill_run
drill_lines s = lone_lines (scenario_fault s.fault) (summary_in s)

-- ---- a feed

replied_lines : (found : List (List ℕ)) (input : List ℕ) → AreLines (replied found input)
unfolding replied
replied_lines found input = by (fed input).head
  where
    by : (head : Option Head) → AreLines (lines_under found head (fed input).messages)
    by None = inl refl
    by (Some head) = all_lines no_labels (block_in true head.genesis) (head_terms head) found (fed input).messages

answer_lines : (found : List (List ℕ)) (input : List ℕ) → HasLines (answer_run found input)
answer_lines found input some = replied_lines found input

replay_lines : (input : List ℕ) → HasLines (replay_run input)
unfolding replay_run
replay_lines input = answer_lines [] input

watch_by : (items : List Item) (input : List ℕ) (end : End) → HasLines (watched_run items input end)
watch_by items input (Whole rest) h = none_some h
watch_by items input (Malformed at) h = watched_lines items input
watch_by items input (Truncated at) h = watched_lines items input
watch_by items input (TooLong taken) h = watched_lines items input

watch_lines : (items : List Item) (input : List ℕ) → HasLines (watch_run items input)
unfolding watch_run
watch_lines items input = watch_by items input (fed input).end

closing_lines : (end : End) (lines : List ℕ) (fault : Option Fault) → (IsSome fault → AreLines lines) → HasLines (closing_run end lines fault)
closing_lines (Whole rest) lines fault f h = f h
closing_lines (Malformed at) lines fault f h = inl refl
closing_lines (Truncated at) lines fault f h = inl refl
closing_lines (TooLong taken) lines fault f h = inl refl

certified_by : (c : Option Certified) → IsSome (certified_fault c) → AreLines (certified_lines c)
certified_by None h = inl refl
certified_by (Some (Ok cert)) h = none_some h
certified_by (Some (Err certifies.NoPair)) h = inl refl
certified_by (Some (Err certifies.Memory)) h = inl refl

certify_lines : (x y : ℕ) (input : List ℕ) → HasLines (certify_run x y input)
unfolding certify_run
certify_lines x y input = closing_lines (fed input).end _ _ (certified_by (certified_fed x y input))

spent_by : (s : Option Spent) → IsSome (spent_fault s) → AreLines (spent_lines s)
spent_by None h = inl refl
spent_by (Some (Ok t)) h = none_some h
spent_by (Some (Err (spends.Poor reach))) h = inl refl
spent_by (Some (Err (spends.Large total))) h = inl refl
spent_by (Some (Err spends.Memory)) h = inl refl

spend_lines : (words : List (List ℕ)) (amount to : ℕ) (input : List ℕ) → HasLines (spend_run words amount to input)
unfolding spend_run
spend_lines words amount to input = closing_lines (fed input).end _ _ (spent_by (spend_fed words amount to input))

-- ---- a certificate

judged_lines : (cert : Certificate) (why : Option CheckFault) → HasLines (judged_run cert why)
judged_lines cert None h = none_some h
judged_lines cert (Some why) h = inl refl

said_lines : (s : Said) → HasLines (said_run s)
said_lines (cert_whole cert) = judged_lines cert (refusal cert)
said_lines (cert_malformed at) = λ h. inl refl
said_lines (cert_truncated at) = λ h. inl refl

check_lines : (input : List ℕ) → HasLines (check_run input)
unfolding check_run
check_lines input = said_lines (said input)

-- ---- a journal

shown_lines : (shape : Shape) (r : Records) → HasLines (shown_run shape r)
shown_lines shape NoJournal h = inl refl
shown_lines shape (Damaged at) h = inl refl
shown_lines shape (Found c) h = none_some h

show_lines : (shape : Shape) (disk : List ℕ) → HasLines (show_run shape disk)
unfolding show_run
show_lines shape disk = shown_lines shape (records disk)

found_lines : (c : Contents) (head : Option Head) (input : List ℕ) → HasLines (found_run c head input)
found_lines c None input = answer_lines c.blocks input
found_lines c (Some head) input = cond_lines (is_chain_of c head) _ _ (answer_lines c.blocks input) (λ some. inl refl)

kept_lines : (fresh : Bool) (disk : List ℕ) (r : Records) (input : List ℕ) → HasLines (kept_run fresh disk r input)
kept_lines fresh disk NoJournal input = cond_lines (may_be_new fresh disk) _ _ (answer_lines [] input) (λ some. inl refl)
kept_lines fresh disk (Damaged at) input = λ some. inl refl
kept_lines fresh disk (Found c) input = found_lines c (fed input).head input

node_lines : (fresh : Bool) (disk input : List ℕ) → HasLines (node_run fresh disk input)
unfolding node_run
node_lines fresh disk input = kept_lines fresh disk (records disk) input

-- ---- all commands

pub run_lines : RunsAreLines
run_lines jobs.Replay disk input = replay_lines input
run_lines (jobs.Keep path fresh) disk input = node_lines fresh disk input
run_lines (jobs.Show path) disk input = show_lines Report disk
run_lines (jobs.Export path profile) disk input = show_lines (Feed profile) disk
run_lines jobs.Play disk input = play_lines input
run_lines jobs.Build disk input = build_lines input
run_lines (jobs.Make n seed width) disk input = make_lines n seed width
run_lines (jobs.Drill n seed width) disk input = drill_lines (scene (made n seed width))
run_lines (jobs.Certify x y) disk input = certify_lines x y input
run_lines jobs.Check disk input = check_lines input
run_lines jobs.Gossip disk input = gossip_run_lines input
run_lines (jobs.Spend amount to words) disk input = spend_lines words amount to input
run_lines (jobs.Watch items) disk input = watch_lines items input
