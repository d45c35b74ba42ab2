use Rattle.sp_accept.proofs.Spanned.{marked}
use Rattle.sp_accept.proofs.touched.mark.Goals as goal

pub returns-clause-noted : goal.returns-clause-noted
returns-clause-noted c n = marked c.args.noted.now.items c.args.number n c.requires
