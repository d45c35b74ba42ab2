-- What ends a run before its feed is looked at: what the disk holds, and then the chain of the feed.
use Rattle.std.proofs.Common.{◌≡◌, inl, inr, ◌⊎◌, ℕ, ◌==◌, ◌||◌, Bool, true, false, cond, List, [], ◌∷◌, length, Option, Some, None, Ok, Err, refl, sym, subst, ◌∙◌}
use Rattle.std.proofs.lemmas.Bool.{eq-eqb}
use Rattle.sp_cert.specs.Certificate.{Certificate}
use Rattle.sp_cert.specs.Format.{Malformed as cert_malformed, Said, said, Truncated as cert_truncated, Whole as cert_whole}
use Rattle.sp_cert.specs.Refusals.{refusal}
use Rattle.sp_cert.specs.declared.fault.CertifyFault.TheVariants as certifies
use Rattle.sp_cert.specs.declared.fault.CheckFault.{CheckFault}
use Rattle.sp_feed.specs.Feed.{End, Malformed, TooLong, Truncated, Whole}
use Rattle.sp_feed.specs.Format.{Head}
use Rattle.sp_journal.specs.Journal.{Contents}
use Rattle.sp_journal.specs.Records.{Damaged, Found, NoJournal, Records, records}
use Rattle.sp_make.specs.Made.{made}
use Rattle.sp_model.specs.declared.profile.Profile.{Profile}
use Rattle.sp_play.specs.Scene.{Scene, scene}
use Rattle.sp_play.specs.declared.why.LineFault.{LineFault}
use Rattle.sp_wallet.specs.declared.fault.SpendFault.TheVariants as spends
use Rattle.sp_watch.specs.declared.item.Item.{Item}
use Rattle.spectre.specs.Certifies.{Certified, certified_fed}
use Rattle.spectre.specs.Fault.{Fault, NoJournal as no_journal, OtherChain}
use Rattle.spectre.specs.Gossips.{gossip}
use Rattle.spectre.specs.Gossips as gossips
use Rattle.spectre.specs.Journals.{HasNoJournal, HasOtherChain, is_chain_of, IsDamagedDisk, may_be_new}
use Rattle.spectre.specs.OneOf.{IsOneOf}
use Rattle.spectre.specs.Output.{disk_told, input_told, is_too_long, OnDisk, OnInput}
use Rattle.spectre.specs.Replay.{fed}
use Rattle.spectre.specs.Run.{last_status, ran, Run, run_status}
use Rattle.spectre.specs.RunOf as meant
use Rattle.spectre.specs.RunOf.{answer_run, build_run, certified_fault, certify_run, chain_in, check_run, closing_run, disk_fault, drill_run, EndsAtDisk, feed_fault, found_run, gossip_fault, gossip_run, judged_run, kept_run, make_run, node_run, OnRun, play_run, replay_run, run_of, said_run, scenario_fault, show_run, shown_run, spend_run, spent_fault, text_run, watch_run, watched_run}
use Rattle.spectre.specs.Spends.{spend_fed, Spent}
use Rattle.spectre.specs.declared.job.Job.{Job}
use Rattle.spectre.specs.declared.job.Job.TheVariants as jobs
use Rattle.spectre.specs.declared.shape.Shape.TheVariants.{Report, Feed}
use Rattle.spectre.specs.declared.status.Status.{Status}
use Rattle.spectre.specs.declared.status.Status.TheVariants as status
use Rattle.spectre.proofs.JobRuns.{if_each}
use Rattle.spectre.proofs.KeptRuns.{chain_yes}

-- a job finds no journal where one is needed, a damaged one, or that of another chain

abbrev pub IsNoJournal : Option Job → List ℕ → Type 0
IsNoJournal (Some (jobs.Keep path fresh)) disk = HasNoJournal fresh disk
IsNoJournal (Some (jobs.Show path)) disk = records disk ≡ NoJournal
IsNoJournal (Some (jobs.Export path profile)) disk = records disk ≡ NoJournal
IsNoJournal other disk = ⊥

abbrev pub IsDamaged : Option Job → List ℕ → Type 0
IsDamaged (Some (jobs.Keep path fresh)) disk = IsDamagedDisk disk
IsDamaged (Some (jobs.Show path)) disk = IsDamagedDisk disk
IsDamaged (Some (jobs.Export path profile)) disk = IsDamagedDisk disk
IsDamaged other disk = ⊥

abbrev pub IsDiskAtFault : Option Job → List ℕ → Type 0
IsDiskAtFault job disk = IsNoJournal job disk ⊎ IsDamaged job disk

abbrev pub IsOtherChain : Option Job → List ℕ → List ℕ → Type 0
IsOtherChain (Some (jobs.Keep path fresh)) disk input = HasOtherChain disk input
IsOtherChain other disk input = ⊥

-- what a status says of the disk
abbrev DiskBy : Status → Option Job → List ℕ → List ℕ → Type 0
DiskBy status.NotJournal job disk input = IsNoJournal job disk
DiskBy status.Damaged job disk input = IsDamaged job disk
DiskBy status.OtherChain job disk input = IsOtherChain job disk input
DiskBy other job disk input = Unit {0}

-- ---- runs that don't look at it

module _ (job : Option Job) (disk input : List ℕ) where
  abbrev Fits : Option Fault → Type 0
  Fits fault = DiskBy (last_status fault) job disk input

  abbrev RunFits : Run → Type 0
  RunFits run = DiskBy (run_status run) job disk input

  feed_fits : (end : End) → Fits (feed_fault end)
  feed_fits (Whole rest) = tt
  feed_fits (Malformed at) = tt
  feed_fits (Truncated at) = tt
  feed_fits (TooLong taken) = tt

  watched_fits : (items : List Item) (end : End) → RunFits (watched_run items input end)
  watched_fits items (Whole rest) = tt
  watched_fits items (Malformed at) = tt
  watched_fits items (Truncated at) = tt
  watched_fits items (TooLong taken) = tt

  closing_fits : (end : End) (lines : List ℕ) (fault : Option Fault) → Fits fault → RunFits (closing_run end lines fault)
  closing_fits (Whole rest) lines fault h = h
  closing_fits (Malformed at) lines fault h = tt
  closing_fits (Truncated at) lines fault h = tt
  closing_fits (TooLong taken) lines fault h = tt

  certified_fits : (c : Option Certified) → Fits (certified_fault c)
  certified_fits None = tt
  certified_fits (Some (Ok cert)) = tt
  certified_fits (Some (Err certifies.NoPair)) = tt
  certified_fits (Some (Err certifies.Memory)) = tt

  spent_fits : (s : Option Spent) → Fits (spent_fault s)
  spent_fits None = tt
  spent_fits (Some (Ok t)) = tt
  spent_fits (Some (Err (spends.Poor reach))) = tt
  spent_fits (Some (Err (spends.Large total))) = tt
  spent_fits (Some (Err spends.Memory)) = tt

  scenario_fits : (o : Option LineFault) → Fits (scenario_fault o)
  scenario_fits None = tt
  scenario_fits (Some fault) = tt

  gossip_fits : (o : Option gossips.Fault) → Fits (gossip_fault o)
  gossip_fits None = tt
  gossip_fits (Some (gossips.InScenario fault)) = tt
  gossip_fits (Some (gossips.InScript fault)) = tt

  cond_fits : (b : Bool) (x y : Run) → RunFits x → RunFits y → RunFits (cond b x y)
  cond_fits true x y p q = p
  cond_fits false x y p q = q

  text_fits : (lines : List ℕ) (fault : Option Fault) → Fits fault → RunFits (text_run input lines fault)
  text_fits lines fault h = cond_fits (is_too_long input) _ _ tt h

  judged_fits : (cert : Certificate) (why : Option CheckFault) → RunFits (judged_run cert why)
  judged_fits cert None = tt
  judged_fits cert (Some why) = tt

  said_fits : (s : Said) → RunFits (said_run s)
  said_fits (cert_whole cert) = judged_fits cert (refusal cert)
  said_fits (cert_malformed at) = tt
  said_fits (cert_truncated at) = tt

  replay_fits : RunFits (replay_run input)
  unfolding replay_run
  replay_fits = feed_fits (fed input).end

  watch_fits : (items : List Item) → RunFits (watch_run items input)
  unfolding watch_run
  watch_fits items = watched_fits items (fed input).end

  certify_fits : (x y : ℕ) → RunFits (certify_run x y input)
  unfolding certify_run
  certify_fits x y = closing_fits (fed input).end _ _ (certified_fits (certified_fed x y input))

  spend_fits : (words : List (List ℕ)) (amount to : ℕ) → RunFits (spend_run words amount to input)
  unfolding spend_run
  spend_fits words amount to = closing_fits (fed input).end _ _ (spent_fits (spend_fed words amount to input))

  play_fits : RunFits (play_run input)
  unfolding play_run
  play_fits = text_fits _ _ (scenario_fits (scene input).fault)

  build_fits : RunFits (build_run input)
  unfolding build_run
  build_fits = text_fits _ _ (scenario_fits (scene input).fault)

  gossip_run_fits : RunFits (gossip_run input)
  unfolding gossip_run
  gossip_run_fits = text_fits _ _ (gossip_fits (gossip input).fault)

  make_fits : (n seed width : ℕ) → RunFits (make_run n seed width)
  unfolding make_run
  make_fits n seed width = tt

  drill_fits : (s : Scene) → RunFits (drill_run s)
  unfolding drill_run
  drill_fits s = scenario_fits s.fault

  check_fits : RunFits (check_run input)
  unfolding check_run
  check_fits = said_fits (said input)

-- ---- runs over a journal

module _ (disk input : List ℕ) where
  show_fits : (path : List ℕ) → DiskBy (run_status (show_run Report disk)) (Some (jobs.Show path)) disk input
  unfolding show_run
  show_fits path = by (records disk) refl
    where
      by : (r : Records) → records disk ≡ r → DiskBy (run_status (shown_run Report r)) (Some (jobs.Show path)) disk input
      by NoJournal e = e
      by (Damaged at) e = (at, e)
      by (Found c) e = tt

  export_fits : (path : List ℕ) (profile : Profile) → DiskBy (run_status (show_run (Feed profile) disk)) (Some (jobs.Export path profile)) disk input
  unfolding show_run
  export_fits path profile = by (records disk) refl
    where
      by : (r : Records) → records disk ≡ r → DiskBy (run_status (shown_run (Feed profile) r)) (Some (jobs.Export path profile)) disk input
      by NoJournal e = e
      by (Damaged at) e = (at, e)
      by (Found c) e = tt

not_or : (a b : Bool) → (a || b) ≡ false → (a ≡ false) × (b ≡ false)
not_or true b e = absurd (let no : true ≡ false = e in cc)
not_or false b e = (refl, e)

module _ (path : List ℕ) (fresh : Bool) (disk input : List ℕ) where
  abbrev job : Option Job
  job = Some (jobs.Keep path fresh)

  new_fits : (b : Bool) → may_be_new fresh disk ≡ b → records disk ≡ NoJournal → DiskBy (run_status (cond b (answer_run [] input) (disk_fault no_journal))) job disk input
  new_fits true e none = feed_fits job disk input (fed input).end
  new_fits false e none =
      let two = not_or fresh (length disk == 0) e in
      record { none = none; some = λ z. (let no : true ≡ false = sym (eq-eqb (length disk) 0 z) ∙ two.1 in cc); old = two.0 }

  chain_fits : (c : Contents) (head : Head) (b : Bool) → records disk ≡ Found c → (fed input).head ≡ Some head → is_chain_of c head ≡ b
      → DiskBy (run_status (cond b (answer_run c.blocks input) (ran [] (Some (OtherChain (chain_in c) (meant.chain_of head)))))) job disk input
  chain_fits c head true found begins e = feed_fits job disk input (fed input).end
  chain_fits c head false found begins e = record { contents = c; found = found; head = head; begins = begins; other = λ same. (let no : true ≡ false = sym (chain_yes fresh disk c head same) ∙ e in cc) }

  found_fits : (c : Contents) (head : Option Head) → records disk ≡ Found c → (fed input).head ≡ head → DiskBy (run_status (found_run c head input)) job disk input
  found_fits c None found begins = feed_fits job disk input (fed input).end
  found_fits c (Some head) found begins = chain_fits c head (is_chain_of c head) found begins refl

  by_records : (r : Records) → records disk ≡ r → DiskBy (run_status (kept_run fresh disk r input)) job disk input
  by_records NoJournal e = new_fits (may_be_new fresh disk) refl e
  by_records (Damaged at) e = (at, e)
  by_records (Found c) e = found_fits c (fed input).head e refl

  node_fits : DiskBy (run_status (node_run fresh disk input)) job disk input
  unfolding node_run
  node_fits = by_records (records disk) refl

-- ---- all commands

run_fits : (job : Job) (disk input : List ℕ) → DiskBy (run_status (run_of job disk input)) (Some job) disk input
run_fits jobs.Replay disk input = replay_fits (Some jobs.Replay) disk input
run_fits (jobs.Keep path fresh) disk input = node_fits path fresh disk input
run_fits (jobs.Show path) disk input = show_fits disk input path
run_fits (jobs.Export path profile) disk input = export_fits disk input path profile
run_fits jobs.Play disk input = play_fits (Some jobs.Play) disk input
run_fits jobs.Build disk input = build_fits (Some jobs.Build) disk input
run_fits (jobs.Make n seed width) disk input = make_fits (Some (jobs.Make n seed width)) disk input n seed width
run_fits (jobs.Drill n seed width) disk input = drill_fits (Some (jobs.Drill n seed width)) disk input (scene (made n seed width))
run_fits (jobs.Certify x y) disk input = certify_fits (Some (jobs.Certify x y)) disk input x y
run_fits jobs.Check disk input = check_fits (Some jobs.Check) disk input
run_fits jobs.Gossip disk input = gossip_run_fits (Some jobs.Gossip) disk input
run_fits (jobs.Spend amount to words) disk input = spend_fits (Some (jobs.Spend amount to words)) disk input words amount to
run_fits (jobs.Watch items) disk input = watch_fits (Some (jobs.Watch items)) disk input items

-- ---- so a run that ends by the disk says that it is at fault

by_status : (job : Option Job) (s : Status) (disk input : List ℕ) → IsOneOf s (status.NotJournal ∷ status.Damaged ∷ []) → DiskBy s job disk input → IsDiskAtFault job disk
by_status job status.NotJournal disk input one by = inl by
by_status job status.Damaged disk input one by = inr by
by_status job other disk input one by = absurd one

at_fault : (job : Option Job) (disk : List ℕ) → EndsAtDisk job disk → IsDiskAtFault job disk
at_fault None disk h = absurd h
at_fault (Some job) disk h = by_status (Some job) (run_status (run_of job disk [])) disk [] (h []) (run_fits job disk [])

pub disk_of : (job : Option Job) (reads : Option (List ℕ)) (Q : Type 0) → OnDisk job reads (λ disk. IsDiskAtFault job disk → Q) → OnDisk job reads (λ disk. EndsAtDisk job disk → Q)
disk_of job reads Q h = if_each (disk_told job reads) _ _ (λ disk f e. f (at_fault job disk e)) h

pub chain_of : (job : Job) (left reads : Option (List ℕ)) (Q : Type 0) → OnInput (Some job) left (λ input. OnDisk (Some job) reads (λ disk. IsOtherChain (Some job) disk input → Q)) → OnRun (Some job) left reads (λ run. run_status run ≡ status.OtherChain → Q)
chain_of job left reads Q h = if_each (input_told (Some job) left) _ _ (λ input. if_each (disk_told (Some job) reads) _ _ (λ disk f e. f (subst (λ (s : Status). DiskBy s (Some job) disk input) e (run_fits job disk input)))) h
