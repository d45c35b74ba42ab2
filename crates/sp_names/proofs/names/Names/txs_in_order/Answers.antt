use Rattle.std.proofs.Common.{ap, ◌∙◌}
use Rattle.sp_names.specs.Labels.{AllLabels, in_order}
use Rattle.sp_names.proofs.Orders.{as_numbers}
use Rattle.sp_names.proofs.names.Names.txs_in_order.Goals as goal

pub returns : goal.returns
returns c =
    c.in_ok-ordered.ensures ∙ as_numbers c.self.inside.txs c.args.ids.now
    ∙ ap (λ (all : AllLabels). in_order all.txs c.args.ids.now) c.self.view_is
