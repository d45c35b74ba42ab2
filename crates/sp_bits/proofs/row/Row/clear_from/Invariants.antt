use Rattle.sp_bits.proofs.Bits.{IsCleared}
use Rattle.sp_bits.proofs.row.Row.clear_from.Given as goal

abbrev pub invariant-words : goal.invariant-words
invariant-words l = IsCleared l.initial.self-inside.words l.self-inside.words l.place l.above
