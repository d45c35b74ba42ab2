-- How the judging of a certificate can end.
use Rattle.std.specs.Prelude.{◌≡◌, ℕ, List, Option, Some, None}
use Rattle.std.specs.Io.KnownBytes.{Appends}
use Rattle.sp_io.specs.Whole.{AppendsFront}
use Rattle.sp_cert.specs.Certificate.{Certificate}
use Rattle.sp_cert.specs.Format.{Whole}
use Rattle.sp_cert.specs.Refusals.{refusal}
use Rattle.sp_cert.specs.declared.fault.CheckFault.{CheckFault}
use Rattle.spectre.specs.Checks.{said_text}
use Rattle.spectre.specs.declared.status.Status.{Status}
use Rattle.spectre.specs.declared.status.Status.TheVariants as status

-- what a sink took, by the status
abbrev pub WritesVerdict : Certificate → Option (List ℕ) → Option (List ℕ) → Status → Type 0
WritesVerdict cert old new status.Done = Appends old new (said_text (Whole cert)) × (refusal cert ≡ None)
WritesVerdict cert old new status.Refuted = Appends old new (said_text (Whole cert)) × ((fault : CheckFault) × (refusal cert ≡ Some fault))
WritesVerdict cert old new status.WriteFault = AppendsFront old new (said_text (Whole cert))
WritesVerdict cert old new status.Memory = AppendsFront old new (said_text (Whole cert))
WritesVerdict cert old new other = ⊥
