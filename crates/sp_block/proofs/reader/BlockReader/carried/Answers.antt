use Rattle.std.proofs.lemmas.Result.{err_from_is_err_and}
use Rattle.sp_block.proofs.Carried.{carried_breaks, carried_stops, carried_taken}
use Rattle.sp_block.proofs.reader.BlockReader.carried.Goals as goal

pub returns-in_err-tx-clause-read : goal.returns-in_err-tx-clause-read
returns-in_err-tx-clause-read c = λ earlier saw.
    let p = err_from_is_err_and c.from_residual.result c.from_residual.ensures.1 in
    rw (p.1, p.2) (carried_stops c.args.genesis earlier c.args.self.now c.in_err-tx.field-0.0 c.in_err-tx.ensures.read)

pub returns-in-Err-clause-read : goal.returns-in-Err-clause-read
returns-in-Err-clause-read c = λ earlier saw.
    carried_breaks c.args.genesis earlier c.args.self.now c.in_ok-tx.tx c.tx.new.self c.in-Err.fault c.in_ok-tx.ensures.read (c.in-Err.ensures earlier saw)

pub returns-in_ok-push-in-Ok-clause-read : goal.returns-in_ok-push-in-Ok-clause-read
returns-in_ok-push-in-Ok-clause-read c = λ earlier saw.
    carried_taken c.args.genesis earlier c.args.self.now c.in_ok-tx.tx c.tx.new.self c.in_ok-tx.ensures.read (c.in-Ok.ensures earlier saw)
