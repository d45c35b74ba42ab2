use Rattle.std.proofs.Common.{arith}
use Rattle.sp_carry.specs.Kept.{carried_of}
use Rattle.sp_carry.proofs.Adding.{always_err, carried_more, partly_there, room_at}
use Rattle.sp_carry.proofs.table.Table.carry_all.Goals as goal

pub carry-requires-clause-room : goal.carry-requires-clause-room
carry-requires-clause-room c =
    room_at c.args.dag.now (carried_of c.args.self.now) c.args.txs.now c.txs.place c.txs.self c.requires.room (omega arith) c.txs.invariant

pub returns-in_err-carry-clause-err : goal.returns-in_err-carry-clause-err
returns-in_err-carry-clause-err c =
    always_err c.from_residual.result
    (partly_there c.args.dag.now (carried_of c.args.self.now) c.args.txs.now c.txs.place c.txs.self c.carry.new.self c.txs.invariant c.in_err-carry.ensures.err)

pub txs-preserved : goal.txs-preserved
txs-preserved c =
    carried_more c.args.dag.now (carried_of c.args.self.now) c.args.txs.now c.txs.place c.index-txs-place.result c.txs.self c.carry.new.self (omega arith)
    c.index-txs-place.is c.txs.invariant c.in_ok-carry.ensures.ok
