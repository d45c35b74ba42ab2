use Rattle.sp_bits.proofs.Bits.{IsSame}
use Rattle.sp_bits.proofs.words.are_same.Given as goal

abbrev pub invariant-words : goal.invariant-words
invariant-words l = IsSame l.one l.other l.word l.different
