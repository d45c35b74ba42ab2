use Rattle.std.proofs.Common.{◌∙◌, ap, length, arith}
use Rattle.sp_carry.specs.Carried.{Carried}
use Rattle.sp_carry.specs.Kept.{carried_of}
use Rattle.sp_carry.specs.RivalBlocks.{rival_blocks}
use Rattle.sp_carry.proofs.Rowed.{row_is}
use Rattle.sp_carry.proofs.carriers.Carriers.rival_blocks.Goals as goal

pub returns : goal.returns
returns c =
    row_is (carried_of c.self.inside.table) c.self.inside.rivals.items c.args.tx c.index-row.result.now
    (omega (arith, c.requires, ap (λ (k : Carried). length k.txs) c.self.view_is)) c.self.invariant.3 c.index-row.ensures c.test-there.ensures.row
    ∙ ap (λ (k : Carried). rival_blocks k c.args.tx) c.self.view_is
