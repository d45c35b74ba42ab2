use Rattle.std.proofs.Common.{◌≡◌, List, ℕ, inl, inr, rules, subst, sym}
use Rattle.std.specs.Prelude.{Contains}
use Rattle.std.proofs.lemmas.List.Elements.{Contains-push_cases}
use Rattle.sp_model.specs.Votes.{sgn}
use Rattle.sp_view.proofs.sums.note_turned.Goals as goal

pub returns-clause-only : goal.returns-clause-only
returns-clause-only c = λ j inside.
    let apart : sgn c.in-Some.old ≡ sgn c.in-Some-new.new → ⊥ = λ same. search rules in
    elim (Contains-push_cases c.args.list.now.items c.args.pair j (subst (λ (l : List ℕ). Contains l j) c.in_ok-push.ensures.items inside)) [
      | inl before ↦ inl before
      | inr here ↦ inr (sym here, (c.in-Some.old, c.in-Some-new.new, c.in-Some.is, c.in-Some-new.is, apart))
    ]
