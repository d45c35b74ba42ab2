use Rattle.sp_make.proofs.Digits.{last_digit, one_digit}
use Rattle.sp_make.proofs.lines.+put_number.Goals as goal

pub returns-then-number-lt10 : goal.returns-then-number-lt10
returns-then-number-lt10 t c = one_digit c.args.out.now.items c.push.new.self.items c.args.number c.if-number-lt10.true c.in_ok-push.ensures.items

pub returns : goal.returns
returns t c = last_digit c.args.out.now.items c.put_number.new.out.items c.push-2.new.self.items c.args.number c.if-number-lt10.false c.ranges.number.fits c.in_ok-put_number.ensures c.in_ok-push-2.ensures.items
