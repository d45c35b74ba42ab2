use Rattle.std.proofs.Common.{◌∙◌, ℕ, List, ap, length, sym}
use Rattle.std.proofs.lemmas.Bool.{eq-eqb, false≢true}
use Rattle.sp_accept.proofs.Spent.{sources_paid}
use Rattle.sp_accept.proofs.sources.are_sources_accepted.Goals as goal

pub returns : goal.returns
returns g c =
    c.are_all_paid.ensures
    ∙ sources_paid (g.O.Order.table c.args.order.now) c.args.carriers.now c.args.flags.now c.args.block c.args.tx c.sources_of-list.result.now c.sources_of-list.ensures.value
    (λ none. false≢true (sym c.if-is_empty.false ∙ c.is_empty.ensures ∙ eq-eqb (length c.sources_of-list.result.now) 0 (ap (λ (l : List ℕ). length l) none)))
