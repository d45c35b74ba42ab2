use Rattle.std.proofs.Common.{◌&&◌, ◌*◌}
use Rattle.sp_bits.specs.Words.{bit_in}
use Rattle.sp_bits.proofs.Counts.{IsCount}
use Rattle.sp_bits.proofs.words.count_both.Given as goal

abbrev pub invariant-words : goal.invariant-words
invariant-words l = IsCount (λ place. bit_in l.one place && bit_in l.other place) (64 * l.word) l.count
