use Rattle.std.proofs.Common.{ap}
use Rattle.std.specs.Prelude.{not}
use Rattle.std.specs.List.{list_any}
use Rattle.std.specs.Ordering.{is_eq}
use Rattle.sp_names.proofs.Orders.{next_looked}
use Rattle.sp_names.proofs.labels.Labels.push_unnamed.Goals as goal

pub key-preserved : goal.key-preserved
key-preserved g c =
    next_looked (λ key. not (list_any (λ label. is_eq (g.K.Ord.cmp key label.0)) c.args.self.now)) c.args.keys.now c.args.ordered.now.items c.key.ordered.items _ c.key.key-index c.key-item.result _
    c.key.invariant c.key-test.true c.key-item.is (ap not c.has_name.ensures) c.in_ok-push_wanted.ensures
