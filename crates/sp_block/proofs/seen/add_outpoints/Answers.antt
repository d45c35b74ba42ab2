use Rattle.sp_block.proofs.Sets.{outpoints_go_on}
use Rattle.sp_block.proofs.seen.add_outpoints.Goals as goal

pub inputs-preserved : goal.inputs-preserved
inputs-preserved c = λ spent h.
    outpoints_go_on c.inputs.outpoints c.insert.new.self spent c.args.inputs.now c.inputs.input-index c.input-item.result c.inputs-test.true c.input-item.is (c.inputs.invariant spent h) c.in_ok-insert.ensures.updates
