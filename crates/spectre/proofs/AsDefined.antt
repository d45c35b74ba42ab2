-- How the top call ends, as its job does: as the run that the words, the input and what the disk reads define; or the sink took a
-- front of that run's text.
use Rattle.std.proofs.Common.{◌≡◌, ◌⊎◌, inl, inr, true, false, ℕ, List, Option, Some, None, IfSome, IsNone, refl, sym, subst}
use Rattle.sp_disk.specs.Moments.{Moment}
use Rattle.sp_io.specs.Whole.{AppendsFront}
use Rattle.sp_io.proofs.Writing.{wrote_none}
use Rattle.spectre.specs.Chains.{EndsAtHead}
use Rattle.spectre.specs.JobEnds.{JobEnds, WritesAll, WritesBy, WritesFront}
use Rattle.spectre.specs.Output.{disk_told, input_told, OnDisk, OnInput}
use Rattle.spectre.specs.Run.{Ended, IsCutShort, IsOwnEnd, Run, run_status, run_text}
use Rattle.spectre.specs.RunOf.{cert_left, EndsAtDisk, feed_left, LeavesRest, left_of, OnRun, run_of, text_left}
use Rattle.spectre.specs.declared.job.Job.{Job}
use Rattle.spectre.specs.declared.job.Job.TheVariants as jobs
use Rattle.spectre.specs.declared.status.Status.{Status}
use Rattle.spectre.specs.declared.status.Status.TheVariants as status
use Rattle.spectre.proofs.JobRuns.{if_each}
use Rattle.spectre.proofs.KeptExits.{nothing_headed}
use Rattle.spectre.proofs.TopCall.{ends_at, if_all, in_all, on_all}

-- ---- where source and disk tell their bytes

pub in_each : (job : Option Job) (left : Option (List ℕ)) (P Q : List ℕ → Type 0) → ((x : List ℕ) → P x → Q x) → OnInput job left P → OnInput job left Q
in_each job left P Q f p = if_each (input_told job left) P Q f p

pub on_each : (job : Option Job) (reads : Option (List ℕ)) (P Q : List ℕ → Type 0) → ((x : List ℕ) → P x → Q x) → OnDisk job reads P → OnDisk job reads Q
on_each job reads P Q f p = if_each (disk_told job reads) P Q f p

-- of a run what follows of it
pub on_run : (job : Option Job) (left reads : Option (List ℕ)) (P Q : Run → Type 0) → ((run : Run) → P run → Q run) → OnRun job left reads P → OnRun job left reads Q
on_run None left reads P Q f h = tt
on_run (Some job) left reads P Q f h = in_each (Some job) left _ _ (λ input. on_each (Some job) reads _ _ (λ disk. f (run_of job disk input))) h

pub run_all : (job : Option Job) (left reads : Option (List ℕ)) (P : Run → Type 0) → ((run : Run) → P run) → OnRun job left reads P
run_all None left reads P f = tt
run_all (Some job) left reads P f = in_all (Some job) left _ (λ input. on_all (Some job) reads _ (λ disk. f (run_of job disk input)))

-- nothing was written
pub nothing_cut : (job : Option Job) (left reads a : Option (List ℕ)) → OnRun job left reads (λ run. AppendsFront a a (run_text run))
nothing_cut job left reads a = run_all job left reads _ (λ run. (run_text run, wrote_none a (run_text run)))

-- so too where the sink is as it was
pub silent_cut : (job : Option Job) (left reads old new : Option (List ℕ)) → new ≡ old → OnRun job left reads (λ run. AppendsFront old new (run_text run))
silent_cut job left reads old new e = subst (λ (o : Option (List ℕ)). OnRun job left reads (λ run. AppendsFront old o (run_text run))) (sym e) (nothing_cut job left reads old)

-- ---- by the status

module _ (job : Option Job) (reads before after old new : Option (List ℕ)) where
  own_ends : (s : Status) → IsOwnEnd s → WritesBy job reads before after old new s → WritesAll job reads before after old new s
  own_ends status.Usage own by = absurd own
  own_ends status.ReadFault own by = absurd own
  own_ends status.WriteFault own by = absurd own
  own_ends status.DiskFault own by = absurd own
  own_ends status.Memory own by = absurd own
  own_ends s own by = by

  cut_ends : (s : Status) → IsCutShort s → WritesBy job reads before after old new s → WritesFront job reads before old new
  cut_ends status.ReadFault short by = by.1
  cut_ends status.DiskFault short by = by.1
  cut_ends status.WriteFault short by = by
  cut_ends status.Memory short by = by
  cut_ends other short by = absurd short

-- the other statuses tell nothing of what is left

feed_none : (s : Status) (input : List ℕ) → (IsOwnEnd s → ⊥) → feed_left s input ≡ None
feed_none status.Done input other = absurd (other tt)
feed_none status.NoPair input other = absurd (other tt)
feed_none status.Poor input other = absurd (other tt)
feed_none status.Large input other = absurd (other tt)
feed_none status.Malformed input other = absurd (other tt)
feed_none status.NotJournal input other = absurd (other tt)
feed_none status.OtherChain input other = absurd (other tt)
feed_none status.Damaged input other = absurd (other tt)
feed_none status.Truncated input other = absurd (other tt)
feed_none status.TooLong input other = absurd (other tt)
feed_none s input other = refl

text_none : (s : Status) (input : List ℕ) → (IsOwnEnd s → ⊥) → text_left s input ≡ None
text_none status.Done input other = absurd (other tt)
text_none status.Malformed input other = absurd (other tt)
text_none status.TooLong input other = absurd (other tt)
text_none s input other = refl

cert_none : (s : Status) (input : List ℕ) → (IsOwnEnd s → ⊥) → cert_left s input ≡ None
cert_none status.Done input other = absurd (other tt)
cert_none status.Truncated input other = absurd (other tt)
cert_none status.Refuted input other = absurd (other tt)
cert_none s input other = refl

left_none : (job : Option Job) (s : Status) (input : List ℕ) → (IsOwnEnd s → ⊥) → left_of job s input ≡ None
left_none (Some jobs.Replay) s input other = feed_none s input other
left_none (Some (jobs.Keep path fresh)) s input other = feed_none s input other
left_none (Some jobs.Play) s input other = text_none s input other
left_none (Some jobs.Build) s input other = text_none s input other
left_none (Some (jobs.Certify x y)) s input other = feed_none s input other
left_none (Some jobs.Check) s input other = cert_none s input other
left_none (Some jobs.Gossip) s input other = text_none s input other
left_none (Some (jobs.Spend amount to words)) s input other = feed_none s input other
left_none (Some (jobs.Watch items)) s input other = feed_none s input other
left_none job s input other = refl

outside_rest : (job : Option Job) (before after : Option (List ℕ)) (s : Status) → (IsOwnEnd s → ⊥) → LeavesRest job before after s
outside_rest job before after s other = if_all before _ (λ input. subst (λ (o : Option (List ℕ)). IfSome o (λ rest. after ≡ Some rest)) (sym (left_none job s input other)) tt)

pub no_rest : (job : Option Job) (before after : Option (List ℕ)) → LeavesRest job before after status.Memory × LeavesRest job before after status.Usage
no_rest job before after = (outside_rest job before after status.Memory (λ own. own), outside_rest job before after status.Usage (λ own. own))

is_own : (s : Status) → IsOwnEnd s ⊎ (IsOwnEnd s → ⊥)
is_own status.Usage = inr (λ h. h)
is_own status.ReadFault = inr (λ h. h)
is_own status.WriteFault = inr (λ h. h)
is_own status.DiskFault = inr (λ h. h)
is_own status.Memory = inr (λ h. h)
is_own other = inl tt

-- ---- of a job

module _ {job : Option Job} {reads before after old new : Option (List ℕ)} {first last : Moment} {s : Status} (ends : JobEnds job reads before after old new first last s) where
  pub defined : IsOwnEnd s → OnRun job before reads (λ run. Ended run s old new)
  defined own = (own_ends job reads before after old new s own ends.by).0

  pub rest : LeavesRest job before after s
  rest = elim (is_own s) [
    | inl own ↦ (own_ends job reads before after old new s own ends.by).1
    | inr other ↦ outside_rest job before after s other
  ]

  pub cut : IsCutShort s → OnRun job before reads (λ run. AppendsFront old new (run_text run))
  cut short = cut_ends job reads before after old new s short ends.by

-- where nothing failed, the job ends as its run does, or memory was refused
pub completes : (job : Option Job) (reads before : Option (List ℕ)) (s : Status) → (s ≡ status.ReadFault → ⊥) → (s ≡ status.WriteFault → ⊥) → (s ≡ status.DiskFault → ⊥) → (s ≡ status.Usage → ⊥) → (IsOwnEnd s → OnRun job before reads (λ run. s ≡ run_status run))
    → OnRun job before reads (λ run. (s ≡ run_status run) ⊎ (s ≡ status.Memory))
completes job reads before status.ReadFault read write disk usage own = absurd (read refl)
completes job reads before status.WriteFault read write disk usage own = absurd (write refl)
completes job reads before status.DiskFault read write disk usage own = absurd (disk refl)
completes job reads before status.Usage read write disk usage own = absurd (usage refl)
completes job reads before status.Memory read write disk usage own = run_all job before reads _ (λ run. inr refl)
completes job reads before s read write disk usage own = on_run job before reads _ _ (λ run e. inl e) (own tt)

-- of the words that ask for the job
pub asked_run : {asked job : Option Job} (left reads : Option (List ℕ)) (P : Run → Type 0) → asked ≡ job → OnRun job left reads P → OnRun asked left reads P
asked_run left reads P e h = subst (λ (j : Option Job). OnRun j left reads P) (sym e) h

-- and of words that are none
pub no_words : (asked : Option Job) (left reads : Option (List ℕ)) (P : Run → Type 0) → IsNone asked → OnRun asked left reads P
no_words None left reads P none = tt
no_words (Some job) left reads P none = absurd (let no : true ≡ false = none in cc)

-- where nothing failed, a job ends as its run does, or memory was refused
pub all_complete : {job : Option Job} {reads before after old new : Option (List ℕ)} {first last : Moment} {s : Status} → JobEnds job reads before after old new first last s
    → (s ≡ status.ReadFault → ⊥) → (s ≡ status.WriteFault → ⊥) → (s ≡ status.DiskFault → ⊥) → OnRun job before reads (λ run. (s ≡ run_status run) ⊎ (s ≡ status.Memory))
all_complete {job = job} {reads = reads} {before = before} {old = old} {new = new} {s = s} ends read write disk =
    completes job reads before s read write disk (λ e. ends_at status.Usage e ends) (λ own. on_run job before reads (λ run. Ended run s old new) (λ run. s ≡ run_status run) (λ run e. e.status) (defined ends own))

-- words that are no job have no disk
pub no_disk : (asked : Option Job) (reads : Option (List ℕ)) (Q : Type 0) → IsNone asked → OnDisk asked reads (λ disk. EndsAtDisk asked disk → Q)
no_disk None reads Q none = λ h. absurd h
no_disk (Some job) reads Q none = absurd (let no : true ≡ false = none in cc)

-- memory was refused before a feed was looked at
pub no_chain : (asked : Option Job) (left reads : Option (List ℕ)) → OnRun asked left reads (λ run. run_status run ≡ status.OtherChain → EndsAtHead left left status.Memory)
no_chain asked left reads = run_all asked left reads (λ run. run_status run ≡ status.OtherChain → EndsAtHead left left status.Memory) (λ run e. nothing_headed left status.Memory tt)
