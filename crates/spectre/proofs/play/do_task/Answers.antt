use Rattle.std.proofs.Common.{OnErr, OnOk, IfOk, sym, subst}
use Rattle.std.specs.Io.KnownBytes.{Appends}
use Rattle.sp_io.specs.Whole.{AppendsFront}
use Rattle.spectre.specs.Ends.{EndsTask}
use Rattle.spectre.specs.Output.{task_output}
use Rattle.spectre.specs.declared.purpose.Task.{Task}
use Rattle.spectre.proofs.Gossiping.{scene_ends, script_ends}
use Rattle.spectre.proofs.play.do_task.Goals as goal

pub returns-in-Scenario-clause-ok : goal.returns-in-Scenario-clause-ok
returns-in-Scenario-clause-ok g c =
    let taken = g.K.Sink.taken in
    subst (λ (t : Task). OnOk c.on_text.result (Appends (taken c.args.sink.now) (taken c.on_text.new.sink) (task_output t c.args.text.now))) (sym c.in-Scenario.is) c.on_text.ensures.ok

pub returns-in-Scenario-clause-ending : goal.returns-in-Scenario-clause-ending
returns-in-Scenario-clause-ending g c =
    subst (λ (t : Task). IfOk c.on_text.result (EndsTask t c.args.text.now)) (sym c.in-Scenario.is) (scene_ends c.on_text.result c.in-Scenario.purpose c.args.text.now c.on_text.ensures.ending)

pub returns-in-Scenario-clause-err : goal.returns-in-Scenario-clause-err
returns-in-Scenario-clause-err g c =
    let taken = g.K.Sink.taken in
    subst (λ (t : Task). OnErr c.on_text.result (AppendsFront (taken c.args.sink.now) (taken c.on_text.new.sink) (task_output t c.args.text.now))) (sym c.in-Scenario.is) c.on_text.ensures.err

pub returns-in-Gossip-clause-ok : goal.returns-in-Gossip-clause-ok
returns-in-Gossip-clause-ok g c =
    let taken = g.K.Sink.taken in
    subst (λ (t : Task). OnOk c.play_gossip.result (Appends (taken c.args.sink.now) (taken c.play_gossip.new.sink) (task_output t c.args.text.now))) (sym c.in-Gossip.is) c.play_gossip.ensures.ok

pub returns-in-Gossip-clause-ending : goal.returns-in-Gossip-clause-ending
returns-in-Gossip-clause-ending g c =
    subst (λ (t : Task). IfOk c.play_gossip.result (EndsTask t c.args.text.now)) (sym c.in-Gossip.is) (script_ends c.play_gossip.result c.args.text.now c.play_gossip.ensures.ending)

pub returns-in-Gossip-clause-err : goal.returns-in-Gossip-clause-err
returns-in-Gossip-clause-err g c =
    let taken = g.K.Sink.taken in
    subst (λ (t : Task). OnErr c.play_gossip.result (AppendsFront (taken c.args.sink.now) (taken c.play_gossip.new.sink) (task_output t c.args.text.now))) (sym c.in-Gossip.is) c.play_gossip.ensures.err
