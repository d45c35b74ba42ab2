use Rattle.std.specs.Int.{w8}
use Rattle.std.proofs.Common.{◌≡◌, ◌++◌, ◌∷◌, [], ℕ, List, FitsSigned, ap, rules, subst, sym, ◌∙◌, to_z}
use Rattle.std.specs.Prelude.{Contains}
use Rattle.std.proofs.lemmas.Int.{to_z-of_z}
use Rattle.sp_tests_ledger.proofs.Differing.{is_last, pair_more, stays_in, StayIn}
use Rattle.sp_tests_ledger.proofs.changes.add_differing.Goals as goal
use Rattle.sp_tests_ledger.proofs.changes.add_differing.Goals.{then-vote+in_ok-push, else-vote}

pub lower-preserved : goal.lower-preserved
lower-preserved c = elim c.if-vote.branch [
  | then-vote+in_ok-push w ↦
      (let is : c.if-vote.pairs.items ≡ c.lower.pairs.items ++ (c.lower.x, c.args.y) ∷ [] = ap (λ v. v.items) w.pairs-is ∙ w.in_ok-push.ensures.items in
      let stay : StayIn c.lower.pairs.items c.if-vote.pairs.items =
      λ pair there. subst (λ (l : List (ℕ × ℕ)). Contains l pair) (sym is) (stays_in c.lower.pairs.items (c.lower.x, c.args.y) pair there) in
      let last : Contains c.if-vote.pairs.items (c.lower.x, c.args.y) = subst (λ (l : List (ℕ × ℕ)). Contains l (c.lower.x, c.args.y)) (sym is) (is_last c.lower.pairs.items (c.lower.x, c.args.y)) in (
        pair_more c.args.one.now c.args.other.now c.args.y c.lower.x c.lower.pairs.items c.if-vote.pairs.items c.lower.invariant.0 stay (λ _. last),
        λ pair there. stay pair (c.lower.invariant.1 pair there),
      ))
  | else-vote w ↦
      (let one_fits : FitsSigned w8 c.vote.result = search rules in
      let other_fits : FitsSigned w8 c.vote-in-lower.result = search rules in
      let same : c.vote.result ≡ c.vote-in-lower.result = sym (to_z-of_z w8 c.vote.result one_fits) ∙ ap (to_z w8) w.if-vote.false ∙ to_z-of_z w8 c.vote-in-lower.result other_fits in
      let stay : StayIn c.lower.pairs.items c.if-vote.pairs.items = λ pair there. subst (λ v. Contains v.items pair) (sym w.pairs-is) there in (
        pair_more c.args.one.now c.args.other.now c.args.y c.lower.x c.lower.pairs.items c.if-vote.pairs.items c.lower.invariant.0 stay
            (λ differ. absurd (differ (sym c.vote.ensures ∙ same ∙ c.vote-in-lower.ensures))),
        λ pair there. stay pair (c.lower.invariant.1 pair there),
      ))
]
