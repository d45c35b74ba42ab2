use Rattle.std.proofs.Common.{◌≡◌, ◌<◌, ◌∙◌, ℕ, List, true, length, sym, ap, arith}
use Rattle.std.specs.List.{list_all}
use Rattle.sp_model.specs.Graph.{has}
use Rattle.sp_tests_views.proofs.Pasts.{past_within}
use Rattle.sp_tests_views.proofs.summed.Summed.join.Goals as goal

pub add_with_sums-requires-clause-past : goal.add_with_sums-requires-clause-past
add_with_sums-requires-clause-past c =
    let lt : c.args.b < length c.args.based.now.dag.parents = omega (arith, c.if-b-len.false, c.len.ensures.value) in
    let all : list_all (has c.members-else-test.result.now) c.past.result.now ≡ true = sym c.within.ensures ∙ c.if-not-within.false in
    past_within c.args.based.now.dag c.args.b c.len.ensures.numbered.order lt c.past.result.now c.past.ensures c.args.self.now.view.members
    (ap (λ (l : List ℕ). list_all (has l) c.past.result.now) (sym c.members-else-test.ensures) ∙ all)
