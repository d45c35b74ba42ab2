use Rattle.std.specs.List.{list_any}
use Rattle.sp_carry.specs.Carried.{carriers_in}
use Rattle.sp_carry.specs.Flags.{is_set}
use Rattle.sp_accept.proofs.Passed.{mapped_more}
use Rattle.sp_accept.proofs.pass.tx_flags.Goals as goal

pub txs-preserved : goal.txs-preserved
txs-preserved c =
    mapped_more (λ tx. list_any (is_set c.args.flags.now) (carriers_in c.args.carriers.now.rows tx)) c.txs.txs.items
    c.push.new.self.items c.is_any_accepted-now.result c.txs.tx c.txs.invariant c.is_any_accepted-now.ensures c.in_ok-push.ensures.items
