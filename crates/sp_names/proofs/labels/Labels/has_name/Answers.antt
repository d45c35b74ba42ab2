use Rattle.std.proofs.Common.{ap, sym, ◌∙◌}
use Rattle.std.specs.Prelude.{is_some}
use Rattle.std.specs.List.{list_any}
use Rattle.std.specs.Ordering.{is_eq}
use Rattle.sp_names.proofs.Keyed.{any_at}
use Rattle.sp_names.proofs.labels.Labels.has_name.Goals as goal

pub returns : goal.returns
returns g c =
    c.contains_key.ensures ∙ ap is_some (c.self.invariant c.args.key.now)
    ∙ sym (any_at (λ label. is_eq (g.K.Ord.cmp c.args.key.now label.0)) c.self.inside.list.items)
    ∙ ap (list_any (λ label. is_eq (g.K.Ord.cmp c.args.key.now label.0))) c.self.view_is
