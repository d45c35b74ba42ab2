use Rattle.std.proofs.Common.{arith}
use Rattle.sp_bits.proofs.Bits.{top-of}
use Rattle.sp_bits.proofs.words.top_of.Goals as goal

pub returns-clause-some : goal.returns-clause-some
returns-clause-some c = top-of c.args.word c.args.number (omega (arith, c.if-word-eq0.false)) c.ranges.word.fits
