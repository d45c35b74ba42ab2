-- What the top call says of a run with a journal, and of one that wasn't begun for want of memory.
use Rattle.std.proofs.Common.{◌≡◌, ℕ, true, false, List, Option, Some, None, IfSome, IsNone, IsSome, refl, sym, subst}
use Rattle.sp_disk.specs.Moments.{IsMoment, Lasts, Leaves, Moment}
use Rattle.sp_journal.specs.Creation.{HoldsJournal, IsSynced}
use Rattle.sp_journal.specs.Records.{records}
use Rattle.spectre.specs.Crashes.{HoldsOnward, Recovery}
use Rattle.spectre.specs.Ends.{Comes}
use Rattle.spectre.specs.JobEnds.{JobEnds, WritesBy}
use Rattle.spectre.specs.Output.{disk_told, due_of, input_told, OnDisk, OnInput, OnKeep}
use Rattle.spectre.specs.Taken.{TakesFeedFor}
use Rattle.spectre.specs.declared.job.Job.{Job}
use Rattle.spectre.specs.declared.job.Job.TheVariants as jobs
use Rattle.spectre.specs.declared.status.Status.{Status}
use Rattle.spectre.specs.declared.status.Status.TheVariants as status
use Rattle.sp_disk.proofs.Lasting.{looks_same}
use Rattle.spectre.proofs.Lasting.{looked_lasts}
use Rattle.spectre.proofs.Onward.{looked_stays}
use Rattle.spectre.proofs.KeptExits.{exit_early, nothing_taken_for, silent_memory}

-- what holds by a status
pub ends_at : {job : Option Job} {reads before after old new : Option (List ℕ)} {first last : Moment} {s : Status} (t : Status) → s ≡ t → JobEnds job reads before after old new first last s → WritesBy job reads before after old new t
ends_at {job = job} {reads = reads} {before = before} {after = after} {old = old} {new = new} t e k = subst (WritesBy job reads before after old new) e k.by

-- what holds of a job is said of the words that ask for it
pub asked_ends : {job asked : Option Job} {reads before after old new : Option (List ℕ)} {first last : Moment} {s : Status} → asked ≡ job → JobEnds job reads before after old new first last s → JobEnds asked reads before after old new first last s
asked_ends {reads = reads} {before = before} {after = after} {old = old} {new = new} {first = first} {last = last} {s = s} e k =
    subst (λ (j : Option Job). JobEnds j reads before after old new first last s) (sym e) k

-- by each status that there is
pub on_status : (P : Status → Type 0) (s : Status) → (s ≡ status.Done → P status.Done) → (s ≡ status.Usage → P status.Usage) → (s ≡ status.Malformed → P status.Malformed) → (s ≡ status.Truncated → P status.Truncated) → (s ≡ status.ReadFault → P status.ReadFault) → (s ≡ status.WriteFault → P status.WriteFault)
    → (s ≡ status.DiskFault → P status.DiskFault) → (s ≡ status.NotJournal → P status.NotJournal) → (s ≡ status.OtherChain → P status.OtherChain) → (s ≡ status.Memory → P status.Memory) → (s ≡ status.Damaged → P status.Damaged) → (s ≡ status.TooLong → P status.TooLong)
    → (s ≡ status.NoPair → P status.NoPair) → (s ≡ status.Refuted → P status.Refuted) → (s ≡ status.Poor → P status.Poor) → (s ≡ status.Large → P status.Large) → P s
on_status P status.Done done usage malformed truncated read write disk no_journal other memory damaged long no_pair refuted poor large = done refl
on_status P status.Usage done usage malformed truncated read write disk no_journal other memory damaged long no_pair refuted poor large = usage refl
on_status P status.Malformed done usage malformed truncated read write disk no_journal other memory damaged long no_pair refuted poor large = malformed refl
on_status P status.Truncated done usage malformed truncated read write disk no_journal other memory damaged long no_pair refuted poor large = truncated refl
on_status P status.ReadFault done usage malformed truncated read write disk no_journal other memory damaged long no_pair refuted poor large = read refl
on_status P status.WriteFault done usage malformed truncated read write disk no_journal other memory damaged long no_pair refuted poor large = write refl
on_status P status.DiskFault done usage malformed truncated read write disk no_journal other memory damaged long no_pair refuted poor large = disk refl
on_status P status.NotJournal done usage malformed truncated read write disk no_journal other memory damaged long no_pair refuted poor large = no_journal refl
on_status P status.OtherChain done usage malformed truncated read write disk no_journal other memory damaged long no_pair refuted poor large = other refl
on_status P status.Memory done usage malformed truncated read write disk no_journal other memory damaged long no_pair refuted poor large = memory refl
on_status P status.Damaged done usage malformed truncated read write disk no_journal other memory damaged long no_pair refuted poor large = damaged refl
on_status P status.TooLong done usage malformed truncated read write disk no_journal other memory damaged long no_pair refuted poor large = long refl
on_status P status.NoPair done usage malformed truncated read write disk no_journal other memory damaged long no_pair refuted poor large = no_pair refl
on_status P status.Refuted done usage malformed truncated read write disk no_journal other memory damaged long no_pair refuted poor large = refuted refl
on_status P status.Poor done usage malformed truncated read write disk no_journal other memory damaged long no_pair refuted poor large = poor refl
on_status P status.Large done usage malformed truncated read write disk no_journal other memory damaged long no_pair refuted poor large = large refl

pub if_all : (o : Option (List ℕ)) (P : List ℕ → Type 0) → ((x : List ℕ) → P x) → IfSome o P
if_all None P f = tt
if_all (Some x) P f = f x

pub on_all : (job : Option Job) (reads : Option (List ℕ)) (P : List ℕ → Type 0) → ((bytes : List ℕ) → P bytes) → OnDisk job reads P
on_all job reads P f = if_all (disk_told job reads) P f

pub in_all : (job : Option Job) (left : Option (List ℕ)) (P : List ℕ → Type 0) → ((input : List ℕ) → P input) → OnInput job left P
in_all job left P f = if_all (input_told job left) P f

-- nothing was taken
pub nothing_fed : (job : Option Job) (left reads a : Option (List ℕ)) → OnDisk job reads (λ bytes. TakesFeedFor (due_of job bytes) left left a a)
nothing_fed job left reads a = on_all job reads _ (λ bytes. nothing_taken_for (due_of job bytes) left a)

-- nor asked of the disk
pub nothing_asked : (job : Option Job) (left a : Option (List ℕ)) (m : Moment) → IsMoment m → OnKeep job (λ fresh. IfSome left (λ input. IfSome m.reads (λ bytes. Recovery fresh bytes input left a a m m status.Memory)))
nothing_asked (Some (jobs.Keep path fresh)) left a m law = (exit_early path fresh left a m m law law (looks_same m law) status.Memory tt (silent_memory path fresh left a m m law law (looks_same m law))).crash
nothing_asked other left a m law = tt

-- so what was found stays, and a journal lasts
pub nothing_ended : (job : Option Job) (m : Moment) → IsMoment m → OnKeep job (λ fresh. IfSome m.reads (λ bytes. Lasts m m HoldsJournal))
nothing_ended (Some (jobs.Keep path fresh)) m law = looked_lasts m m law law (looks_same m law)
nothing_ended other m law = tt

pub nothing_lost : (job : Option Job) (m : Moment) → IsMoment m → OnKeep job (λ fresh. IfSome m.reads (λ bytes. IsSynced m → Leaves m m (HoldsOnward (records bytes))))
nothing_lost (Some (jobs.Keep path fresh)) m law = looked_stays m m law (looks_same m law)
nothing_lost other m law = tt

-- memory may be refused to each job
pub memory_comes : (job : Option Job) → IsSome job → Comes job status.Memory
memory_comes None some = absurd (let no : false ≡ true = some in cc)
memory_comes (Some jobs.Replay) some = tt
memory_comes (Some (jobs.Keep path fresh)) some = tt
memory_comes (Some (jobs.Show path)) some = tt
memory_comes (Some (jobs.Export path profile)) some = tt
memory_comes (Some jobs.Play) some = tt
memory_comes (Some jobs.Build) some = tt
memory_comes (Some (jobs.Make n seed width)) some = tt
memory_comes (Some (jobs.Drill n seed width)) some = tt
memory_comes (Some (jobs.Certify x y)) some = tt
memory_comes (Some jobs.Check) some = tt
memory_comes (Some jobs.Gossip) some = tt
memory_comes (Some (jobs.Spend amount to words)) some = tt
memory_comes (Some (jobs.Watch items)) some = tt

-- so these words are a job
pub no_usage : (job : Option Job) → IsSome job → IsNone job → ⊥
no_usage None some none = absurd (let no : false ≡ true = some in cc)
no_usage (Some job) some none = absurd (let no : true ≡ false = none in cc)
