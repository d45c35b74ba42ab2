-- How the writing of a spend can end.
use Rattle.std.specs.Prelude.{ℕ, List, Option, Some}
use Rattle.std.specs.Io.KnownBytes.{Appends}
use Rattle.sp_io.specs.Whole.{AppendsFront}
use Rattle.spectre.specs.Spends.{IsLargeBy, IsPoorBy, IsSpend, Spent, spend_text}
use Rattle.spectre.specs.declared.status.Status.{Status}
use Rattle.spectre.specs.declared.status.Status.TheVariants as status

-- what a sink took, by the status
abbrev pub WritesSpend : Spent → Option (List ℕ) → Option (List ℕ) → Status → Type 0
WritesSpend s old new status.Done = Appends old new (spend_text s) × IsSpend (Some s)
WritesSpend s old new status.WriteFault = AppendsFront old new (spend_text s)
WritesSpend s old new status.Memory = AppendsFront old new (spend_text s)
WritesSpend s old new status.Poor = Appends old new (spend_text s) × IsPoorBy (Some s)
WritesSpend s old new status.Large = Appends old new (spend_text s) × IsLargeBy (Some s)
WritesSpend s old new other = ⊥
