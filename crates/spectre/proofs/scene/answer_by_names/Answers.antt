use Rattle.std.proofs.Common.{List, ℕ, OnErr, OnOk, subst, ◌∙◌}
use Rattle.std.specs.Io.KnownBytes.{Appends}
use Rattle.sp_io.specs.Whole.{AppendsFront}
use Rattle.sp_io.proofs.Stops.{stops_at_start}
use Rattle.spectre.proofs.Played.{lines_are}
use Rattle.spectre.proofs.scene.answer_by_names.Goals as goal
use Rattle.sp_node.proofs.Started.{same_terms}

pub returns-in_err-head-clause-err : goal.returns-in_err-head-clause-err
returns-in_err-head-clause-err g c = stops_at_start c.from_residual.result _ _

pub returns-in_err-node-clause-err : goal.returns-in_err-node-clause-err
returns-in_err-node-clause-err g c = stops_at_start c.from_residual-in_err-node.result _ _

pub returns-clause-ok : goal.returns-clause-ok
returns-clause-ok g c =
    let taken = g.K.Sink.taken in
    let scene = c.args.scene.now in
    let genesis = c.in_ok-head.head.genesis in
    let is = lines_are scene c.names.result.now genesis c.in_ok-node.node.terms c.names.ensures c.in_ok-node.ensures.genesis c.in_ok-head.ensures.genesis (c.in_ok-node.ensures.node.terms_are ∙ same_terms c.in_ok-head.ensures.profile c.in_ok-head.ensures.bits) in
    subst (λ (t : List ℕ). OnOk c.answer_scene.result (Appends (taken c.args.sink.now) (taken c.answer_scene.new.sink) t)) is (c.answer_scene.ensures.ok genesis c.in_ok-node.ensures.node.kept_are)

pub returns-clause-err : goal.returns-clause-err
returns-clause-err g c =
    let taken = g.K.Sink.taken in
    let scene = c.args.scene.now in
    let genesis = c.in_ok-head.head.genesis in
    let is = lines_are scene c.names.result.now genesis c.in_ok-node.node.terms c.names.ensures c.in_ok-node.ensures.genesis c.in_ok-head.ensures.genesis (c.in_ok-node.ensures.node.terms_are ∙ same_terms c.in_ok-head.ensures.profile c.in_ok-head.ensures.bits) in
    subst (λ (t : List ℕ). OnErr c.answer_scene.result (AppendsFront (taken c.args.sink.now) (taken c.answer_scene.new.sink) t)) is (c.answer_scene.ensures.err genesis c.in_ok-node.ensures.node.kept_are)
