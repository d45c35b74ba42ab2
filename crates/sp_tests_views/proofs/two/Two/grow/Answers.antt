use Rattle.sp_tests_views.proofs.Sharing.{two_stay}
use Rattle.sp_tests_views.proofs.two.Two.grow.Goals as goal

pub returns : goal.returns
returns c =
    two_stay c.args.self.now.based.dag c.args.self.now.based.frozen c.args.self.now.pool c.args.self.now.one c.args.self.now.other
    c.grow.new.self.dag c.grow.new.self.frozen c.in_ok-grow.ensures.based c.in_ok-grow.ensures.views c.requires
