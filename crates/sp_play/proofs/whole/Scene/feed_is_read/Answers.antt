use Rattle.std.proofs.Common.{ap, ◌∙◌, sym}
use Rattle.sp_play.specs.Scene.{Scene}
use Rattle.sp_play.proofs.Fitting.{is_read}
use Rattle.sp_play.proofs.whole.Scene.feed_is_read.Goals as goal

pub returns : goal.returns
returns c =
    let known = c.self.inside.reading.known in
    let v = c.self.view_is in
    is_read known c.args.self.now c.self.invariant.kept (sym (ap (λ (s : Scene). s.bits) v)) (sym (ap (λ (s : Scene). s.genesis) v) ∙ c.self.invariant.bytes) (sym (ap (λ (s : Scene). s.messages) v))
