use Rattle.std.proofs.Common.{◌++◌, Option, OnErr, OnOk, subst}
use Rattle.std.specs.Io.KnownBytes.{Appends}
use Rattle.sp_io.specs.Whole.{AppendsFront}
use Rattle.sp_io.proofs.Pages.{all_goes, goes, rest_stops, stops}
use Rattle.sp_io.proofs.Stops.{on_err}
use Rattle.sp_play.specs.declared.why.LineFault.{LineFault}
use Rattle.spectre.specs.Lines.{fault_text}
use Rattle.spectre.specs.Scenes.{played, scene_lines}
use Rattle.spectre.proofs.scene.play_scene.Goals as goal

pub returns-in_err-answer_by_names-clause-err : goal.returns-in_err-answer_by_names-clause-err
unfolding played
returns-in_err-answer_by_names-clause-err g c =
    let taken = g.K.Sink.taken in
    let scene = c.args.scene.now in
    on_err c.from_residual.result _ (stops (taken c.args.sink.now) (taken c.answer_by_names.new.sink) (scene_lines scene) (fault_text scene.fault) c.in_err-answer_by_names.ensures.err)

pub returns-clause-ok : goal.returns-clause-ok
unfolding played
returns-clause-ok g c =
    let taken = g.K.Sink.taken in
    let scene = c.args.scene.now in
    let a = taken c.args.sink.now in let b = taken c.answer_by_names.new.sink in let d = taken c.write_fault.new.sink in
    all_goes a b d (scene_lines scene ++ fault_text scene.fault) (fault_text scene.fault) c.write_fault.result
    (goes a b (scene_lines scene) (fault_text scene.fault) c.in_ok-answer_by_names.ensures.ok)
    (subst (λ (f : Option LineFault). OnOk c.write_fault.result (Appends b d (fault_text f))) c.fault.ensures c.write_fault.ensures.ok)

pub returns-clause-err : goal.returns-clause-err
unfolding played
returns-clause-err g c =
    let taken = g.K.Sink.taken in
    let scene = c.args.scene.now in
    let a = taken c.args.sink.now in let b = taken c.answer_by_names.new.sink in let d = taken c.write_fault.new.sink in
    rest_stops a b d (scene_lines scene ++ fault_text scene.fault) (fault_text scene.fault) c.write_fault.result
    (goes a b (scene_lines scene) (fault_text scene.fault) c.in_ok-answer_by_names.ensures.ok)
    (subst (λ (f : Option LineFault). OnErr c.write_fault.result (AppendsFront b d (fault_text f))) c.fault.ensures c.write_fault.ensures.err)
