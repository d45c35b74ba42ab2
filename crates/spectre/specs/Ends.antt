-- How a scene and a run can end.
use Rattle.std.specs.Prelude.{◌≡◌, ℕ, List, [], ◌∷◌, Option, Some, None, IsSome, IsNone, Result, Ok, Err}
use Rattle.sp_io.specs.Causes.{Rose}
use Rattle.sp_play.specs.Scene.{Scene}
use Rattle.spectre.specs.Faults.{HasFault, HasNoFault}
use Rattle.spectre.specs.OneOf.{IsOneOf}
use Rattle.spectre.specs.declared.job.Job.{Job}
use Rattle.spectre.specs.declared.job.Job.TheVariants as jobs
use Rattle.spectre.specs.declared.purpose.Task.{Task}
use Rattle.spectre.specs.declared.status.Status.{Status}
use Rattle.spectre.specs.declared.status.Status.TheVariants as status
use Rattle.spectre.specs.declared.ending.Ending.{Ending}
use Rattle.spectre.specs.declared.ending.Ending.TheVariants.{Whole, Faulty}
use Rattle.spectre.specs.declared.ending.Stop.{Stop}
use Rattle.spectre.specs.declared.ending.Stop.TheVariants.{WriteFault, Memory}

-- a scene is whole where it has no fault
abbrev pub EndsAs : Scene → Ending → Type 0
EndsAs scene Whole = IsNone scene.fault
EndsAs scene Faulty = IsSome scene.fault

-- a text is whole where it has no fault
abbrev pub EndsBy : {A : Type 0} → Option A → Ending → Type 0
EndsBy fault Whole = IsNone fault
EndsBy fault Faulty = IsSome fault

abbrev pub EndsTask : Task → List ℕ → Ending → Type 0
EndsTask task text Whole = HasNoFault task text
EndsTask task text Faulty = HasFault task text

-- a write failed and the sink's count rose, or memory was refused
abbrev pub HasStopCause : ℕ → ℕ → Stop → Type 0
HasStopCause before now WriteFault = Rose before now
HasStopCause before now Memory = Unit {0}

-- the statuses that a scenario can end with
abbrev pub Plays : Status → Type 0
Plays s = IsOneOf s (status.Done ∷ status.Malformed ∷ status.ReadFault ∷ status.WriteFault ∷ status.Memory ∷ status.TooLong ∷ [])

-- the statuses that a feed can end with
abbrev pub Replays : Status → Type 0
Replays s = IsOneOf s (status.Done ∷ status.Malformed ∷ status.Truncated ∷ status.ReadFault ∷ status.WriteFault ∷ status.Memory ∷ status.TooLong ∷ [])

-- the statuses that a spend can end with
abbrev pub SpendsTo : Status → Type 0
SpendsTo s = IsOneOf s (status.Done ∷ status.Malformed ∷ status.Truncated ∷ status.ReadFault ∷ status.WriteFault ∷ status.Memory ∷ status.TooLong ∷ status.Poor ∷ status.Large ∷ [])

-- the statuses that a certificate of what a feed says can end with
abbrev pub CertifiesTo : Status → Type 0
CertifiesTo s = IsOneOf s (status.Done ∷ status.Malformed ∷ status.Truncated ∷ status.ReadFault ∷ status.WriteFault ∷ status.Memory ∷ status.TooLong ∷ status.NoPair ∷ [])

-- the statuses that the check of a certificate can end with
abbrev pub Checks : Status → Type 0
Checks s = IsOneOf s (status.Done ∷ status.Malformed ∷ status.Truncated ∷ status.ReadFault ∷ status.WriteFault ∷ status.Memory ∷ status.Refuted ∷ [])

-- the status of what was done with a scene
abbrev pub status_by : Result Ending Stop → Status
status_by (Ok Whole) = status.Done
status_by (Ok Faulty) = status.Malformed
status_by (Err WriteFault) = status.WriteFault
status_by (Err Memory) = status.Memory

-- the statuses that a scenario can end with which was made of numbers
abbrev pub Makes : Status → Type 0
Makes s = IsOneOf s (status.Done ∷ status.Malformed ∷ status.WriteFault ∷ status.Memory ∷ [])

-- the statuses that a journal which is shown can end with
abbrev pub Shows : Status → Type 0
Shows s = IsOneOf s (status.Done ∷ status.WriteFault ∷ status.DiskFault ∷ status.NotJournal ∷ status.Memory ∷ status.Damaged ∷ [])

-- the statuses that a feed can end with whose blocks are kept in a journal
abbrev pub KeepsTo : Status → Type 0
KeepsTo s = IsOneOf s (status.Done ∷ status.Malformed ∷ status.Truncated ∷ status.ReadFault ∷ status.WriteFault ∷ status.DiskFault ∷ status.NotJournal ∷ status.OtherChain ∷ status.Memory ∷ status.Damaged ∷ status.TooLong ∷ [])

-- the statuses that a run can end with where what the disk holds is at fault: that fault's, or one of the outside or of memory
abbrev pub EndsByDisk : Status → Type 0
EndsByDisk s = IsOneOf s (status.WriteFault ∷ status.DiskFault ∷ status.NotJournal ∷ status.Memory ∷ status.Damaged ∷ [])

-- the statuses that some words can end with
abbrev pub Comes : Option Job → Status → Type 0
Comes None s = s ≡ status.Usage
Comes (Some jobs.Replay) s = Replays s
Comes (Some (jobs.Keep path fresh)) s = KeepsTo s
Comes (Some (jobs.Show path)) s = Shows s
Comes (Some (jobs.Export path profile)) s = Shows s
Comes (Some jobs.Play) s = Plays s
Comes (Some jobs.Build) s = Plays s
Comes (Some (jobs.Make n seed width)) s = Makes s
Comes (Some (jobs.Drill n seed width)) s = Makes s
Comes (Some (jobs.Certify x y)) s = CertifiesTo s
Comes (Some jobs.Check) s = Checks s
Comes (Some jobs.Gossip) s = Plays s
Comes (Some (jobs.Spend amount to words)) s = SpendsTo s
Comes (Some (jobs.Watch items)) s = Replays s
