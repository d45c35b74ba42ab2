use Rattle.std.proofs.Common.{◌+◌, cond, ap, sym, ◌∙◌, arith}
use Rattle.std.proofs.lemmas.Bool.{le-ltb, lt-ltb}
use Rattle.sp_tests_ledger.proofs.Differing.{carrier_more}
use Rattle.sp_tests_ledger.proofs.changes.carriers_below.Goals as goal
use Rattle.sp_tests_ledger.proofs.changes.carriers_below.Goals.{then-carrier-count, else-carrier-count}

pub carriers-preserved : goal.carriers-preserved
carriers-preserved c =
    elim c.if-carrier-count.branch [
      | then-carrier-count w ↦ (
        carrier_more c.args.carriers.now.rows c.args.count c.carriers.c c.carrier.result c.carriers.found c.if-carrier-count.found (omega (arith, c.carriers-test.true, c.carrier_count-c-end.ensures.value)) c.carrier.ensures c.carriers.invariant.0
            (w.found-is ∙ ap (λ b. c.carriers.found + cond b 1 0) (sym (lt-ltb c.carrier.result.block c.args.count w.if-carrier-count.true))),
        omega (arith, w.found-is, c.carriers.invariant.1),
      )
      | else-carrier-count w ↦ (
        carrier_more c.args.carriers.now.rows c.args.count c.carriers.c c.carrier.result c.carriers.found c.if-carrier-count.found (omega (arith, c.carriers-test.true, c.carrier_count-c-end.ensures.value)) c.carrier.ensures c.carriers.invariant.0
            (w.found-is ∙ omega (arith, ap (λ b. c.carriers.found + cond b 1 0) (sym (le-ltb c.carrier.result.block c.args.count w.if-carrier-count.false)))),
        omega (arith, w.found-is, c.carriers.invariant.1),
      )
    ]
