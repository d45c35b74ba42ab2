use Rattle.std.proofs.Common.{◌∙◌, not, Bool, List, ap}
use Rattle.std.specs.Prelude.{slice_set}
use Rattle.sp_carry.specs.Flags.{is_set}
use Rattle.sp_accept.proofs.Toggled.{turn_noted}
use Rattle.sp_accept.proofs.settle.turn.Goals as goal

pub returns-clause-turned : goal.returns-clause-turned
returns-clause-turned c =
    turn_noted c.args.flags.now.items _ c.args.turned.now.items c.push.new.self.items c.args.c c.requires
    (ap (λ (b : Bool). slice_set c.args.flags.now.items c.args.c (not b)) (c.is_set-now.ensures ∙ ap (λ (l : List Bool). is_set l c.args.c) c.deref.ensures.value)) c.in_ok-push.ensures.items
