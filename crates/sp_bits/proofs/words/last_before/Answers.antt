use Rattle.sp_bits.proofs.Bits.{IsLast-front, IsLast-before-some, none-before}
use Rattle.sp_bits.proofs.words.last_before.Goals as goal

pub returns-in-Some-clause-some : goal.returns-in-Some-clause-some
returns-in-Some-clause-some c = IsLast-front c.args.words.now c.args.place c.in-Some.found c.in-Some.ensures.some

pub returns-in-None-clause-some : goal.returns-in-None-clause-some
returns-in-None-clause-some c = IsLast-before-some c.args.words.now c.args.place c.last_of.result c.in-None.ensures.none c.last_of.ensures.some

pub returns-in-None-clause-none : goal.returns-in-None-clause-none
returns-in-None-clause-none c = none-before c.args.words.now c.args.place c.last_of.result c.in-None.ensures.none c.last_of.ensures.none
