-- The exit code of each status.
use Rattle.std.specs.Prelude.{ℕ}
use Rattle.spectre.specs.declared.status.Status.{Status}
use Rattle.spectre.specs.declared.status.Status.TheVariants as status

abbrev pub code_of : Status → ℕ
code_of status.Done = 0
code_of status.Usage = 1
code_of status.Malformed = 2
code_of status.Truncated = 3
code_of status.ReadFault = 4
code_of status.WriteFault = 5
code_of status.DiskFault = 6
code_of status.NotJournal = 7
code_of status.OtherChain = 8
code_of status.Memory = 9
code_of status.Damaged = 10
code_of status.TooLong = 11
code_of status.NoPair = 12
code_of status.Refuted = 13
code_of status.Poor = 14
code_of status.Large = 15
