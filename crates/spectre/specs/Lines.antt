-- The line of a scenario's fault.
use Rattle.std.specs.Prelude.{ℕ, List, [], ◌∷◌, ◌++◌, Option, Some, None, codes}
use Rattle.std.specs.Fmt.{decimal}
use Rattle.sp_play.specs.declared.why.LineFault.{LineFault}
use Rattle.sp_play.specs.declared.why.Why.{Why}
use Rattle.sp_play.specs.declared.why.Why.TheVariants as why

abbrev pub reason : Why → List ℕ
reason why.Byte = codes "byte"
reason why.Command = codes "command"
reason why.Late = codes "late"
reason why.Form = codes "form"
reason why.Name = codes "name"
reason why.Taken = codes "taken"
reason why.Unknown = codes "unknown"
reason why.Repeat = codes "repeat"
reason why.Number = codes "number"
reason why.Word = codes "word"
reason why.Many = codes "many"
reason why.Twin = codes "twin"
reason why.Work = codes "work"

-- lines are numbered from 1
unfoldable pub fault_line : ℕ → Why → List ℕ
fault_line number why = codes "fault line " ++ decimal number ++ 32 ∷ [] ++ reason why ++ 10 ∷ []

abbrev pub fault_text : Option LineFault → List ℕ
fault_text None = []
fault_text (Some fault) = fault_line fault.line fault.why
