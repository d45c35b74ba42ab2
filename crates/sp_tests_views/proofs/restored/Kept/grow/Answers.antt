use Rattle.sp_tests_views.proofs.Keeping.{kept_grown}
use Rattle.sp_tests_views.proofs.restored.Kept.grow.Goals as goal

pub returns : goal.returns
returns c =
    kept_grown c.args.self.now.based.dag c.args.self.now.based.frozen c.args.self.now.pool c.args.self.now.view c.args.self.now.sums c.args.self.now.members c.args.self.now.saved c.args.self.now.older
    c.requires c.grow.new.self.dag c.grow.new.self.frozen c.grow-2.new.self c.grow-3.new.self
    c.in_ok-grow.ensures.based c.in_ok-grow.ensures.views c.in_ok-grow.ensures.sums
    c.in_ok-grow-2.ensures.more c.in_ok-grow-2.ensures.same c.in_ok-grow-2.ensures.long
    c.in_ok-grow-3.ensures.more c.in_ok-grow-3.ensures.same c.in_ok-grow-3.ensures.long
