use Rattle.sp_carry.proofs.Marked.{marked}
use Rattle.sp_accept.proofs.rival_blocks.put.Goals as goal

pub returns : goal.returns
returns c = marked c.args.row.now c.set.new.self c.args.block c.test-there.ensures.row c.requires c.set.ensures
