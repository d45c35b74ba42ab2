use Rattle.std.proofs.Common.{◌≡◌, ◌++◌, take}
use Rattle.std.specs.Prelude.{filter, not}
use Rattle.std.specs.List.{list_any}
use Rattle.std.specs.Ordering.{is_eq}
use Rattle.sp_names.proofs.labels.Labels.push_unnamed.Given as goal

abbrev pub invariant-key : goal.invariant-key
invariant-key g l =
    l.ordered.items ≡ l.fn.ordered.items ++ filter (λ key. not (list_any (λ label. is_eq (g.K.Ord.cmp key label.0)) l.self)) (take l.key-index l.keys)
