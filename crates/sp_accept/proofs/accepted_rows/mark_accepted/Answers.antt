use Rattle.std.proofs.Common.{arith, get_or}
use Rattle.sp_accept.specs.AcceptedRows.{is_accepted_in}
use Rattle.sp_carry.proofs.Keeping.{any_default}
use Rattle.sp_carry.proofs.Marked.{marked_by_more}
use Rattle.sp_accept.proofs.accepted_rows.mark_accepted.Goals as goal

pub carriers-preserved : goal.carriers-preserved
carriers-preserved c =
    marked_by_more (is_accepted_in c.args.carriers.now c.args.flags.now) c.args.into.now c.carriers.into c.mark_if_accepted.new.into c.args.list.now c.carriers.c-index
    (get_or c.args.list.now c.carriers.c-index 0) (omega arith) (any_default c.args.list.now c.carriers.c-index 0 _ (omega arith)) c.carriers.invariant
    c.mark_if_accepted.ensures
