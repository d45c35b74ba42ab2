use Rattle.sp_tests_views.proofs.Sharing.{two_more}
use Rattle.sp_tests_views.proofs.two.Two.derive.Goals as goal

pub returns : goal.returns
returns c =
    two_more c.let_go.new.self.based.dag c.let_go.new.self.based.frozen c.let_go.new.self.pool c.let_go.new.self.one c.let_go.new.self.other
    c.derive.new.pool c.let_go.ensures.two c.in_ok-self.field-0 c.let_go.ensures.none c.in_ok-self.ensures.counts c.in_ok-self.ensures.rows c.in_ok-self.ensures.ok
