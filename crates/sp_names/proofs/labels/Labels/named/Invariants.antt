use Rattle.std.proofs.Common.{◌≡◌, map, take}
use Rattle.std.specs.Prelude.{filter}
use Rattle.std.specs.List.{list_any}
use Rattle.std.specs.Ordering.{is_eq}
use Rattle.sp_names.proofs.labels.Labels.named.Given as goal

abbrev pub invariant-place : goal.invariant-place
invariant-place g l =
    l.named.items ≡ filter (λ key. list_any (λ other. is_eq (g.K.Ord.cmp other key)) l.keys) (take l.place (map (λ label. label.0) l.self))
