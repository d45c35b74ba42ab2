use Rattle.sp_tests_views.proofs.Keeping.{kept_first}
use Rattle.sp_tests_views.proofs.restored.Kept.start.Goals as goal

pub returns : goal.returns
returns c =
    kept_first c.in_ok-based.based.dag c.in_ok-based.based.frozen c.new.result c.empty.result c.grow.new.self c.empty-2.result c.new-2.result c.in_ok-older.older
    c.in_ok-based.ensures c.len-blocks.ensures.numbered.order c.new.ensures.rows c.in_ok-grow.ensures.long c.empty.ensures c.empty-2.ensures c.new-2.ensures c.in_ok-older.ensures
