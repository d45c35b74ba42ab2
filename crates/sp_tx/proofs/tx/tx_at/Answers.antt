use Rattle.std.proofs.Common.{ap, arith, length, length-drop}
use Rattle.sp_tx.proofs.Whole.{behind_is_shorter}
use Rattle.sp_tx.proofs.tx.tx_at.Goals as goal

pub overflow_sub-result : goal.overflow_sub-result
overflow_sub-result c =
    let behind = behind_is_shorter c.new-reader.result c.in_ok-tx.tx c.tx.new.self c.in_ok-tx.ensures in
    omega (arith, behind, c.len.ensures, length-drop c.args.at c.args.bytes.now, ap length c.new-reader.ensures.all)
