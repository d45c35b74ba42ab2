use Rattle.sp_tx.proofs.Whole.{parts_fault}
use Rattle.sp_tx.proofs.tx.tx_of.Goals as goal

pub returns-in-Err-clause-fault : goal.returns-in-Err-clause-fault
returns-in-Err-clause-fault c =
    let found = rw (c.as_slice.ensures, c.as_slice-2.ensures) at c.in-Err.ensures.fault in
    parts_fault c.args.inputs c.args.outputs c.in_ok-inputs.inputs c.in-Err.fault c.in_ok-inputs.ensures found
