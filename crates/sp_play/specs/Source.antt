-- Why the reading of a scenario ends without a text.
use Rattle.std.specs.Prelude.{◌≡◌, ℕ, List, length, Option}
use Rattle.std.specs.Io.KnownBytes.{Consumes}
use Rattle.sp_io.specs.Causes.{Rose}
use Rattle.sp_play.specs.declared.source.ScenarioFault.{ScenarioFault}
use Rattle.sp_play.specs.declared.source.ScenarioFault.TheVariants.{ReadFault, TooLong, Memory}

-- a scenario has fewer bytes than this
abbrev pub scenario_limit : ℕ
scenario_limit = 16777216

-- so many bytes were taken
abbrev pub ConsumesExactly : Option (List ℕ) → Option (List ℕ) → ℕ → Type 0
ConsumesExactly old new n = (bytes : List ℕ) × Consumes old new bytes × (length bytes ≡ n)

-- the count rose, or the limit was taken
abbrev pub HasReadCause : Option (List ℕ) → Option (List ℕ) → ℕ → ℕ → ScenarioFault → Type 0
HasReadCause old new before now ReadFault = Rose before now
HasReadCause old new before now (TooLong taken) = (taken ≡ scenario_limit) × ConsumesExactly old new scenario_limit
HasReadCause old new before now Memory = Unit {0}
