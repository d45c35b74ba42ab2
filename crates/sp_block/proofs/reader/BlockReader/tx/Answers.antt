use Rattle.std.proofs.Common.{◌∙◌}
use Rattle.std.proofs.lemmas.Result.{err_from_is_err_and}
use Rattle.sp_block.proofs.Carried.{never_short, tx_found}
use Rattle.sp_block.proofs.reader.BlockReader.tx.Goals as goal

pub returns-in_err-text-clause-read : goal.returns-in_err-text-clause-read
returns-in_err-text-clause-read c =
    let p = err_from_is_err_and c.from_residual-in_err-text.result c.from_residual-in_err-text.ensures.1 in
    rw (p.1, p.2) (never_short c.in_ok-tx.width c.args.self.now c.in_err-text.field-0.0 _ c.in_ok-tx.ensures.found.within c.in_err-text.ensures.read)

pub returns-clause-id : goal.returns-clause-id
returns-clause-id c = c.of.ensures ∙ (tx_found c.args.self.now c.in_ok-text.text.now c.field.new.self c.in_ok-tx.width c.in_ok-tx.tx c.in_ok-tx.ensures.bytes c.in_ok-tx.ensures.found c.in_ok-text.ensures.read).id

pub returns-clause-read : goal.returns-clause-read
returns-clause-read c = (tx_found c.args.self.now c.in_ok-text.text.now c.field.new.self c.in_ok-tx.width c.in_ok-tx.tx c.in_ok-tx.ensures.bytes c.in_ok-tx.ensures.found c.in_ok-text.ensures.read).read
