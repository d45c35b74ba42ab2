use Rattle.std.proofs.Common.{List, ℕ, OnErr, OnOk, ap, length, subst, ◌∙◌, arith}
use Rattle.std.specs.Io.KnownBytes.{Appends}
use Rattle.sp_io.specs.Whole.{AppendsFront}
use Rattle.sp_play.specs.Scene.{scene}
use Rattle.spectre.specs.Scenes.{drilled}
use Rattle.spectre.proofs.made.drill_made.Goals as goal

pub on_text-requires : goal.on_text-requires
on_text-requires g c = omega (arith, ap length c.deref.ensures.value, c.in_ok-text.ensures.short)

pub returns-clause-ok : goal.returns-clause-ok
returns-clause-ok g c =
    let taken = g.K.Sink.taken in
    subst (λ (t : List ℕ). OnOk c.on_text.result (Appends (taken c.args.sink.now) (taken c.on_text.new.sink) (drilled (scene t)))) (c.deref.ensures.value ∙ c.in_ok-text.ensures.text) c.on_text.ensures.ok

pub returns-clause-err : goal.returns-clause-err
returns-clause-err g c =
    let taken = g.K.Sink.taken in
    subst (λ (t : List ℕ). OnErr c.on_text.result (AppendsFront (taken c.args.sink.now) (taken c.on_text.new.sink) (drilled (scene t)))) (c.deref.ensures.value ∙ c.in_ok-text.ensures.text) c.on_text.ensures.err
