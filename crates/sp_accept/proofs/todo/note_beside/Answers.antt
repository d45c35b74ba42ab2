use Rattle.std.proofs.Common.{◌∙◌, arith, sym}
use Rattle.sp_accept.proofs.Begun.{unrelated_older}
use Rattle.sp_accept.proofs.todo.note_beside.Goals as goal

pub before-requires-clause-unrelated : goal.before-requires-clause-unrelated
before-requires-clause-unrelated g c =
    unrelated_older (g.O.Order.table c.args.order.now) c.requires.order c.firsts.z c.args.new (omega (arith, c.firsts-test.true, c.requires.later)) c.requires.within
    (sym c.in_past.ensures ∙ c.if-not-in_past.true)
