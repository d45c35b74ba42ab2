use Rattle.std.proofs.Common.{◌≡◌, ◌<◌, ◌∙◌, ℕ, List, true, length, sym, ap, arith}
use Rattle.std.specs.List.{list_all}
use Rattle.sp_model.specs.Graph.{has}
use Rattle.sp_tests_views.proofs.Keeping.{kept_few, kept_joined}
use Rattle.sp_tests_views.proofs.Pasts.{past_within}
use Rattle.sp_tests_views.proofs.restored.Kept.join.Goals as goal

pub add_with_sums-requires-clause-past : goal.add_with_sums-requires-clause-past
add_with_sums-requires-clause-past c =
    let lt : c.args.b < length c.args.self.now.based.dag.parents = omega (arith, c.if-b-len.false, c.len.ensures.value) in
    let all : list_all (has c.members-else-test.result.now) c.past.result.now ≡ true = sym c.within.ensures ∙ c.if-not-within.false in
    past_within c.args.self.now.based.dag c.args.b c.len.ensures.numbered.order lt c.past.result.now c.past.ensures c.args.self.now.view.members
    (ap (λ (l : List ℕ). list_all (has l) c.past.result.now) (sym c.members-else-test.ensures) ∙ all)

pub add_with_sums-requires-clause-saved_few : goal.add_with_sums-requires-clause-saved_few
add_with_sums-requires-clause-saved_few c = λ some r. omega (
  arith,
  kept_few c.args.self.now.based.dag c.args.self.now.based.frozen c.args.self.now.pool c.args.self.now.view c.args.self.now.sums c.args.self.now.members c.args.self.now.saved c.args.self.now.older c.requires r,
)

pub returns : goal.returns
returns c =
    kept_joined c.args.self.now.based.dag c.args.self.now.based.frozen c.args.self.now.pool c.args.self.now.view c.args.self.now.sums c.args.self.now.members c.args.self.now.saved c.args.self.now.older
    c.requires c.add_with_sums.new.pool c.add_with_sums.new.self c.add_with_sums.new.sums c.add_with_sums.new.saved
    c.in_ok-add_with_sums.ensures.ok c.in_ok-add_with_sums.ensures.counts c.in_ok-add_with_sums.ensures.sums c.in_ok-add_with_sums.ensures.as_long c.in_ok-add_with_sums.ensures.saved
    c.in_ok-add_with_sums.ensures.patched c.in_ok-add_with_sums.ensures.saved_rows
