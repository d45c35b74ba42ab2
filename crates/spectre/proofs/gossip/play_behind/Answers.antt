use Rattle.std.proofs.Common.{◌∙◌, List, ℕ, OnErr, sym, ap, subst, is_some}
use Rattle.std.specs.Option.{option_copied}
use Rattle.sp_io.specs.Whole.{AppendsFront}
use Rattle.spectre.proofs.Gossiping.{script_behind}
use Rattle.spectre.proofs.gossip.play_behind.Goals as goal

pub returns-clause-err : goal.returns-clause-err
returns-clause-err g c =
    let taken = g.K.Sink.taken in
    let is = script_behind c.args.scene.now c.args.number (option_copied c.args.text) c.args.scene.now.fault (ap is_some (sym c.fault-fault.ensures) ∙ sym c.is_some.ensures ∙ c.if-is_some.false) in
    subst (λ (t : List ℕ). OnErr c.play_whole.result (AppendsFront (taken c.args.sink.now) (taken c.play_whole.new.sink) t)) is c.play_whole.ensures.err
