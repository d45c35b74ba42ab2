use Rattle.std.proofs.Common.{◌∙◌, ap, drop, List}
use Rattle.sp_carry.specs.declared.carrier.Carrier.{Carrier}
use Rattle.sp_carry.specs.Kept.{carried_of}
use Rattle.sp_carry.proofs.RivalRows.{rows_added}
use Rattle.sp_carry.proofs.rival_rows.add_rows.Goals as goal

pub returns : goal.returns
returns c =
    rows_added (carried_of c.args.table.now) c.requires.linked c.args.first c.args.rows.now.items c.push_rows.new.rows.items c.mark_carriers.new.rows.items _
    (c.split_at.ensures.back ∙ ap (λ (l : List Carrier). drop c.args.first l) c.as_slice.ensures.value)
    c.requires.before c.push_rows.ensures c.mark_carriers.ensures
