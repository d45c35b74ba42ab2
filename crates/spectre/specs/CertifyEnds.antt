-- How the writing of a certificate can end.
use Rattle.std.specs.Prelude.{ℕ, List, Option, Some}
use Rattle.std.specs.Io.KnownBytes.{Appends}
use Rattle.sp_io.specs.Whole.{AppendsFront}
use Rattle.spectre.specs.Certifies.{Certified, certified_text, IsCertified, IsNoPairBy}
use Rattle.spectre.specs.declared.status.Status.{Status}
use Rattle.spectre.specs.declared.status.Status.TheVariants as status

-- what a sink took, by the status
abbrev pub WritesCertified : Certified → Option (List ℕ) → Option (List ℕ) → Status → Type 0
WritesCertified c old new status.Done = Appends old new (certified_text c) × IsCertified (Some c)
WritesCertified c old new status.WriteFault = AppendsFront old new (certified_text c)
WritesCertified c old new status.Memory = AppendsFront old new (certified_text c)
WritesCertified c old new status.NoPair = Appends old new (certified_text c) × IsNoPairBy (Some c)
WritesCertified c old new other = ⊥
