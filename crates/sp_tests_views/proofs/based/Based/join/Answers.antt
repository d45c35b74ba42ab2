use Rattle.std.proofs.Common.{◌≡◌, ◌<◌, ◌∙◌, ℕ, List, true, length, sym, ap, arith}
use Rattle.std.specs.List.{list_all}
use Rattle.sp_model.specs.Graph.{has}
use Rattle.sp_tests_views.proofs.Pasts.{past_within}
use Rattle.sp_tests_views.proofs.Sharing.{two_grown}
use Rattle.sp_tests_views.proofs.based.Based.join.Goals as goal

pub add-requires-clause-past : goal.add-requires-clause-past
add-requires-clause-past c =
    let lt : c.args.b < length c.args.self.now.dag.parents = omega (arith, c.if-b-len.false, c.len.ensures.value) in
    let all : list_all (has c.members-else-test.result.now) c.past.result.now ≡ true = sym c.within.ensures ∙ c.if-not-within.false in
    past_within c.args.self.now.dag c.args.b c.len.ensures.numbered.order lt c.past.result.now c.past.ensures c.args.view.now.members
    (ap (λ (l : List ℕ). list_all (has l) c.past.result.now) (sym c.members-else-test.ensures) ∙ all)

pub returns-clause-beside : goal.returns-clause-beside
returns-clause-beside c = λ other two.
    two_grown c.args.self.now.dag c.args.self.now.frozen c.args.pool.now other c.args.view.now c.add.new.pool two c.add.new.self
    c.in_ok-add.ensures.counts c.in_ok-add.ensures.others c.in_ok-add.ensures.ok
