use Rattle.std.proofs.Common.{◌∙◌, refl, ap, sym, rules, FitsSigned}
use Rattle.std.proofs.lemmas.Bool.{ne_eqb}
use Rattle.std.proofs.lemmas.Int.{to_z-of_z}
use Rattle.std.specs.Int.{w8, w32}
use Rattle.std.specs.Prelude.{◌-ℤ◌, pos, List, ℕ, length}
use Rattle.sp_bits.specs.Places.{meet}
use Rattle.sp_model.specs.Votes.{sgn}
use Rattle.sp_cert.proofs.Tallies.{future_sum}
use Rattle.sp_cert.proofs.tally.Tally.right_entry.Goals as goal

pub returns : goal.returns
returns c = λ e sides.
    let f : FitsSigned w8 c.sign_of.result = search rules in
    let f' : FitsSigned w32 c.balance.result = search rules in
    let self = c.args.self.now in
    to_z-of_z w8 _ f ∙ c.sign_of.ensures ∙ ap sgn (to_z-of_z w32 _ f' ∙ c.balance.ensures
    ∙ ap (λ (l : List ℕ). pos (length (meet l self.plus)) -ℤ pos (length (meet l self.minus))) c.future.ensures
    ∙ future_sum c.args.dag.now self.members self.plus self.minus e c.args.z sides)
    ∙ rw (
      sym c.test.ensures.value ∙ c.if-not-test.false,
      ne_eqb c.args.z c.args.x c.if-z-x.false,
      ne_eqb c.args.z c.args.y c.if-z-y.false,
      sym c.in_past-2.ensures ∙ c.if-in_past-3.false,
      sym c.in_past-3.ensures ∙ c.if-in_past-5.false,
    ) refl
