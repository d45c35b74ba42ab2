use Rattle.sp_tests_ledger.proofs.Differing.{block_more}
use Rattle.sp_tests_ledger.proofs.changes.differing.Goals as goal

pub higher-preserved : goal.higher-preserved
higher-preserved c =
    block_more c.args.one.now c.args.other.now c.higher.y c.higher.pairs.items c.add_differing.new.pairs.items c.higher.invariant c.in_ok-add_differing.ensures.there
    c.in_ok-add_differing.ensures.stay
