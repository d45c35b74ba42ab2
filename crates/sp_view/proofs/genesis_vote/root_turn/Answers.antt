use Rattle.std.proofs.Common.{◌≡◌, ◌∙◌, FitsSigned, Option, ap, arith, of_z, rules, subst, sym, to_z}
use Rattle.std.specs.Prelude.{ℤ, IfSome, pos, negsuc, ◌+ℤ◌, ◌-ℤ◌, ◌≤ℤ◌}
use Rattle.std.specs.Int.{w32}
use Rattle.std.proofs.lemmas.Int.{ints, to_z-of_z}
use Rattle.sp_model.specs.Votes.{sgn}
use Rattle.sp_view.proofs.Genesis.{lone_root}
use Rattle.sp_view.proofs.genesis_vote.root_turn.Goals as goal

pub returns-clause-lone : goal.returns-clause-lone
returns-clause-lone c = lone_root c.args.todo.now c.in-Some-highest.top c.in-Some-highest.ensures.some (omega arith)

pub returns-clause-votes : goal.returns-clause-votes
returns-clause-votes c =
    let f : FitsSigned w32 c.sign-before.result = search rules in
    let f' : FitsSigned w32 c.sign-after.result = search rules in
    let fs : FitsSigned w32 c.in-Some.sum = search rules in
    let e : to_z w32 (of_z w32 c.in-Some.sum) ≡ c.in-Some.sum = to_z-of_z w32 _ fs in
    let sign : c.sign-before.result ≡ sgn c.in-Some.sum = c.sign-before.ensures.value ∙ ap sgn e in
    let small : (negsuc 1023 ≤ℤ c.in-Some.sum) × (c.in-Some.sum ≤ℤ pos 1024) =
    subst (λ (o : Option ℤ). IfSome o (λ (sum : ℤ). (negsuc 1023 ≤ℤ sum) × (sum ≤ℤ pos 1024))) c.in-Some.is c.requires.small in
    subst (λ (o : Option ℤ). IfSome o (λ (sum : ℤ). (to_z w32 (of_z w32 c.sign-before.result) ≡ sgn sum) × (to_z w32 (of_z w32 c.sign-after.result) ≡ sgn ((sum -ℤ sgn sum) +ℤ c.args.own))))
    (sym c.in-Some.is) (
      to_z-of_z w32 _ f ∙ sign,
      to_z-of_z w32 _ f' ∙ c.sign-after.ensures.value
          ∙ ap sgn (omega (arith, ints, e, sign, to_z-of_z w32 _ f, small.0, small.1, c.sign-before.ensures.small.0, c.sign-before.ensures.small.1, c.requires.sign.0, c.requires.sign.1)),
    )
