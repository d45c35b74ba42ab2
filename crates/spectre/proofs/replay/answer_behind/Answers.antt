use Rattle.std.proofs.Common.{[]}
use Rattle.std.proofs.lemmas.Result.{err_from_is_err_and}
use Rattle.spectre.proofs.Replies.{at_head, nothing_behind_head}
use Rattle.spectre.proofs.replay.answer_behind.Goals as goal

pub returns-in_err-node-clause-replies : goal.returns-in_err-node-clause-replies
returns-in_err-node-clause-replies g c = λ start z gives.
    let p = err_from_is_err_and c.from_residual.result c.from_residual.ensures.1 in
    rw (p.1, p.2) (nothing_behind_head [] (g.K.Sink.taken c.args.sink.now) gives)

pub answer_rest-answered-requires-clause-live : goal.answer_rest-answered-requires-clause-live
answer_rest-answered-requires-clause-live g c = c.in_ok-node.ensures.node.live

pub returns-clause-replies : goal.returns-clause-replies
returns-clause-replies g c = λ start z gives.
    let old = g.K.Sink.taken c.args.sink.now in
    (c.answer_rest-answered.ensures.replies [] start old
    (at_head [] old z gives c.in_ok-node.ensures.genesis c.in_ok-node.ensures.node.terms_are c.in_ok-node.ensures.node.kept_are)).0
