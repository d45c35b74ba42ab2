use Rattle.std.proofs.Common.{OnErr, OnOk, subst}
use Rattle.std.specs.Io.KnownBytes.{Appends}
use Rattle.sp_io.specs.Whole.{AppendsFront}
use Rattle.sp_play.specs.Scene.{Scene}
use Rattle.spectre.specs.Scenes.{scene_output}
use Rattle.spectre.proofs.play.on_text.Goals as goal

pub returns-clause-ok : goal.returns-clause-ok
returns-clause-ok g c =
    let taken = g.K.Sink.taken in
    subst (λ (s : Scene). OnOk c.on_scene.result (Appends (taken c.args.sink.now) (taken c.on_scene.new.sink) (scene_output c.args.purpose s))) c.in_ok-scene.ensures c.on_scene.ensures.ok

pub returns-clause-err : goal.returns-clause-err
returns-clause-err g c =
    let taken = g.K.Sink.taken in
    subst (λ (s : Scene). OnErr c.on_scene.result (AppendsFront (taken c.args.sink.now) (taken c.on_scene.new.sink) (scene_output c.args.purpose s))) c.in_ok-scene.ensures c.on_scene.ensures.err
