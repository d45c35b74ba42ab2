use Rattle.sp_tests_views.proofs.Pasts.{past_set}
use Rattle.sp_tests_views.proofs.voters.plain_past.Goals as goal

pub plain_signs-requires : goal.plain_signs-requires
plain_signs-requires c = past_set c.args.dag.now c.args.z c.len-blocks.ensures.numbered.order c.requires c.past.result.now c.past.ensures
