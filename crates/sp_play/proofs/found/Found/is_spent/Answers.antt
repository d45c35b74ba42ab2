use Rattle.std.proofs.Common.{List, ap, ◌∙◌}
use Rattle.sp_tx.specs.declared.parts.Input.{Input}
use Rattle.sp_play.specs.Judging.{is_spent}
use Rattle.sp_play.proofs.Apart.{spent_is}
use Rattle.sp_play.proofs.found.Found.is_spent.Goals as goal

pub returns : goal.returns
returns c =
    c.contains.ensures ∙ spent_is c.self.inside.spent c.self.inside.list.items c.args.from.now c.self.invariant ∙ ap (λ (found : List Input). is_spent found c.args.from.now) c.self.view_is
