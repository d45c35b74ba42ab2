use Rattle.sp_tests_views.proofs.Sharing.{two_start}
use Rattle.sp_tests_views.proofs.two.Two.start.Goals as goal

pub returns : goal.returns
returns c =
    two_start c.grow-2.new.self.dag c.grow-2.new.self.frozen c.new.result c.empty.result c.empty-2.result
    c.in_ok-grow-2.ensures.based c.len-blocks.ensures.numbered.order c.new.ensures.rows c.empty.ensures c.empty-2.ensures
