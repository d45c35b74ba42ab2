use Rattle.std.proofs.Common.{ap, arith, length, List, ◌<◌}
use Rattle.sp_tx.specs.Parts.{Transaction}
use Rattle.sp_carry.specs.Kept.{carried_of}
use Rattle.sp_carry.proofs.Fronts.{back_row, back_whole}
use Rattle.sp_carry.proofs.Linked.{some_tx}
use Rattle.sp_carry.proofs.table.Table.drop_carrier.Goals as goal

pub drop_tx-requires-clause-some : goal.drop_tx-requires-clause-some
drop_tx-requires-clause-some c =
    let some : 0 < length c.args.self.now.txs.items = some_tx (carried_of c.args.self.now) c.requires.linked c.requires.some in
    omega (arith, some, ap (λ (ts : List Transaction). length ts) c.drop_row.ensures.txs)

pub returns-then-drop_row : goal.returns-then-drop_row
returns-then-drop_row c = λ k n linked turn lt h.
    back_whole k n linked turn lt c.args.self.now c.drop_row.new.self c.drop_row.result h c.drop_row.ensures.kept c.drop_row.ensures.left c.drop_tx.new.self
    c.if-drop_row.true c.drop_tx.ensures

pub returns-else-drop_row : goal.returns-else-drop_row
returns-else-drop_row c = λ k n linked turn lt h.
    back_row k n linked turn lt c.args.self.now c.drop_row.new.self c.drop_row.result h c.drop_row.ensures.kept c.drop_row.ensures.left c.if-drop_row.false
