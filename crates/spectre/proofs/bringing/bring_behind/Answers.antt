use Rattle.std.proofs.lemmas.Result.{err_from_is_err_and}
use Rattle.spectre.proofs.BroughtBlocks.{at_head, nothing_behind}
use Rattle.spectre.proofs.bringing.bring_behind.Goals as goal

pub returns-in_err-engine-clause-brought : goal.returns-in_err-engine-clause-brought
returns-in_err-engine-clause-brought g c = λ start z gives.
    let p = err_from_is_err_and c.from_residual.result c.from_residual.ensures.1 in
    rw (p.1, p.2) (nothing_behind gives)

pub returns-in_err-bring_rest-clause-brought : goal.returns-in_err-bring_rest-clause-brought
returns-in_err-bring_rest-clause-brought g c = λ start z gives.
    let e = c.in_ok-engine.ensures in
    let p = err_from_is_err_and c.from_residual-in_err-bring_rest.result c.from_residual-in_err-bring_rest.ensures.1 in
    rw (p.1, p.2) (c.in_err-bring_rest.ensures.brought start (at_head z gives e.genesis e.profile e.bits e.kept))

pub returns-clause-brought : goal.returns-clause-brought
returns-clause-brought g c = λ start z gives.
    let e = c.in_ok-engine.ensures in
    c.in_ok-bring_rest.ensures.brought start (at_head z gives e.genesis e.profile e.bits e.kept)
