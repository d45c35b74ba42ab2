use Rattle.std.proofs.Common.{◌∙◌}
use Rattle.std.proofs.lemmas.List.Sorted.{searchable_from_sorted}
use Rattle.sp_names.proofs.Searched.{found_is}
use Rattle.sp_names.proofs.order.is_among.Goals as goal

pub returns : goal.returns
returns g c =
    c.is_ok.ensures.value
    ∙ found_is (λ other. g.K.Ord.cmp other c.args.key.now) c.args.keys.now c.binary_search.result c.binary_search.ensures.bound c.binary_search.ensures.position
    (searchable_from_sorted g.met.K.Ord.total (λ k. k) c.args.keys.now c.args.key.now c.requires)
