use Rattle.std.proofs.Common.{◌&&◌, ◌*◌}
use Rattle.sp_bits.specs.Words.{bit_in}
use Rattle.sp_bits.proofs.Counts.{IsCount}
use Rattle.sp_bits.proofs.words.count_span.Given as goal

abbrev pub invariant-parts : goal.invariant-parts
invariant-parts l = IsCount (λ place. bit_in l.own place && bit_in l.plus place) (128 * l.part) l.more
    × IsCount (λ place. bit_in l.own place && bit_in l.minus place) (128 * l.part) l.less
