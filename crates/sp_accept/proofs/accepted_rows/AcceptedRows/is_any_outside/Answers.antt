use Rattle.std.proofs.Common.{◌∙◌, ap, not}
use Rattle.sp_accept.proofs.Accepting.{outside_is}
use Rattle.sp_accept.proofs.accepted_rows.AcceptedRows.is_any_outside.Goals as goal

pub returns-clause-any : goal.returns-clause-any
returns-clause-any c =
    ap not c.within.ensures ∙ outside_is c.args.carriers.now c.args.flags.now c.args.safe.now c.in_ok-row.row c.args.tx c.in_ok-row.ensures.row
