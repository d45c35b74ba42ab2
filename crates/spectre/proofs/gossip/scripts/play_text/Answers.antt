use Rattle.std.proofs.Common.{◌∙◌, OnErr, Some, ap, sym, subst}
use Rattle.std.specs.Option.{option_copied}
use Rattle.sp_io.specs.Whole.{AppendsFront}
use Rattle.sp_io.proofs.Stops.{stops_at_start}
use Rattle.spectre.specs.Gossips.{play_script, Told}
use Rattle.spectre.proofs.Gossiping.{played_by, told_nothing}
use Rattle.spectre.proofs.gossip.scripts.play_text.Goals as goal

pub returns-in_default-clause-fault : goal.returns-in_default-clause-fault
returns-in_default-clause-fault g c = sym (ap (λ o. (play_script c.args.scene.now c.args.number (option_copied o)).fault) c.in_default.is)

pub returns-in_default-clause-ok : goal.returns-in_default-clause-ok
returns-in_default-clause-ok g c =
    told_nothing (g.K.Sink.taken c.args.sink.now) (play_script c.args.scene.now c.args.number (option_copied c.args.text)) (ap (λ o. (play_script c.args.scene.now c.args.number (option_copied o)).text) c.in_default.is)

pub returns-in_err-blocks-clause-err : goal.returns-in_err-blocks-clause-err
returns-in_err-blocks-clause-err g c = stops_at_start c.from_residual.result _ _

pub returns-in_err-script-clause-err : goal.returns-in_err-script-clause-err
returns-in_err-script-clause-err g c = stops_at_start c.from_residual-in_err-script.result _ _

pub returns-in-Some-nodes-clause-err : goal.returns-in-Some-nodes-clause-err
returns-in-Some-nodes-clause-err g c =
    let taken = g.K.Sink.taken in
    let is = played_by c.args.scene.now c.args.number (option_copied c.args.text) c.in-Some.text.now c.deref.result.now c.in_ok-script.script (Some c.in-Some-nodes.nodes) (ap option_copied c.in-Some.is) (c.deref.ensures.value ∙ c.in_ok-blocks.ensures.blocks) c.in_ok-script.ensures.meant (sym c.nodes.ensures ∙ c.in-Some-nodes.is) in
    subst (λ (t : Told). OnErr c.play_nodes.result (AppendsFront (taken c.args.sink.now) (taken c.play_nodes.new.sink) t.text)) is c.play_nodes.ensures.err
