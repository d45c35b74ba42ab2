use Rattle.std.proofs.lemmas.Result.{err_from_is_err_and}
use Rattle.sp_form.specs.Reading.{read}
use Rattle.sp_form.proofs.Rows.{row_ends, row_goes_on, row_stops}
use Rattle.sp_block.specs.Format.{last_parent, parent_form, parents_form}
use Rattle.sp_block.proofs.reader.BlockReader.parents.Goals as goal

pub returns-in_err-id : goal.returns-in_err-id
returns-in_err-id c =
    let p = err_from_is_err_and c.from_residual.result c.from_residual.ensures.1 in
    rw (p.1, p.2) (row_stops parent_form last_parent c.in_err-id.field-0.0 c.parents.parents.items c.args.count c.parents.counter c.parents.before c.parents.self (read (parents_form c.args.count) c.args.self.now) c.parents-test.true c.in_err-id.ensures c.parents.invariant)

pub parents-preserved : goal.parents-preserved
parents-preserved c =
    let step = row_goes_on parent_form last_parent c.parents.parents.items c.args.count c.parents.counter c.parents.before c.parents.self c.in_ok-id.id c.parent.new.self (read (parents_form c.args.count) c.args.self.now) c.parents-test.true c.in_ok-id.ensures c.parents.invariant in
    rw c.in_ok-push.ensures.items step

pub returns : goal.returns
returns c = rw c.of.ensures (row_ends parent_form last_parent c.parents.parents.items c.args.count c.parents.counter c.parents.before c.parents.self (read (parents_form c.args.count) c.args.self.now) c.parents-test.false c.parents.invariant)
