-- What a call that only looks at a disk says of it.
use Rattle.std.specs.Prelude.{◌≡◌, ◌≤◌, IsErrOf, Result}
use Rattle.sp_io.specs.Causes.{Rose}
use Rattle.sp_disk.specs.Moments.{Looks, Moment}
use Rattle.sp_journal.specs.declared.fault.JournalFault.{JournalFault}
use Rattle.sp_journal.specs.declared.fault.JournalFault.TheVariants.{DiskFault}

-- It reads as before, and a crash leaves nothing new. Its count of faults rose where the answer is that a call failed,
-- and stayed where it is another one.
pub record HasLooked {T : Type 0} (old new : Moment) (result : Result T JournalFault) : Type 0 where
  pub looks : Looks old new
  pub fault : IsErrOf result DiskFault → Rose old.faults new.faults
  pub later : old.faults ≤ new.faults
  pub quiet : (IsErrOf result DiskFault → ⊥) → new.faults ≡ old.faults
