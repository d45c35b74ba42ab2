use Rattle.std.proofs.Common.{◌≡◌, ◌∙◌, ◌<◌, ◌-◌, ◌+◌, ap, sym, subst, arith, cond, eqb, get_or, set, length, length-set, pos, rules, FitsSigned, inl, inr, ℕ, List, to_z, of_z, get_or-set_same, get_or-set_other}
use Rattle.std.proofs.lemmas.Bool.{cases_eq}
use Rattle.std.proofs.lemmas.Int.{to_z-of_z}
use Rattle.std.specs.Int.{w8}
use Rattle.sp_dag.specs.Numbered.{graph_of}
use Rattle.sp_model.specs.Graph.{has}
use Rattle.sp_cert.specs.Certificate.{IsSign}
use Rattle.sp_cert.specs.Entries.{vote_in}
use Rattle.sp_cert.specs.Refusals.{AreSides}
use Rattle.sp_cert.proofs.Casting.{next_vote, no_member, set_reads, set_signs, sides_same, vote_in-sign}
use Rattle.sp_cert.proofs.cast.votes_in.Goals as goal

pub count-requires-clause-sign : goal.count-requires-clause-sign
count-requires-clause-sign c =
    let table = c.args.dag.now in
    let z : ℕ = c.places.z - 1 in
    let next : c.places.z ≡ z + 1 = omega (arith, c.places-test.true) in
    let order = c.len-count.ensures.numbered.order in
    let f : FitsSigned w8 c.right_entry-vote.result = search rules in
    let value = to_z-of_z w8 c.right_entry-vote.result f
    ∙ next_vote table c.args.members.now c.places.tally.members c.places.tally.plus c.places.tally.minus c.places.votes.items c.args.signs.now c.right_entry-vote.result c.places.z z c.args.x c.args.y
    order c.requires.whole c.requires.virts next c.places.invariant.members c.places.invariant.sides c.places.invariant.votes c.right_entry-vote.ensures in
    subst IsSign (sym value) (vote_in-sign table c.args.members.now z c.args.x c.args.y c.requires.whole)

pub count-requires-clause-member : goal.count-requires-clause-member
count-requires-clause-member c = λ other.
    let table = c.args.dag.now in
    let z : ℕ = c.places.z - 1 in
    let next : c.places.z ≡ z + 1 = omega (arith, c.places-test.true) in
    let order = c.len-count.ensures.numbered.order in
    let f : FitsSigned w8 c.right_entry-vote.result = search rules in
    let value = to_z-of_z w8 c.right_entry-vote.result f
    ∙ next_vote table c.args.members.now c.places.tally.members c.places.tally.plus c.places.tally.minus c.places.votes.items c.args.signs.now c.right_entry-vote.result c.places.z z c.args.x c.args.y
    order c.requires.whole c.requires.virts next c.places.invariant.members c.places.invariant.sides c.places.invariant.votes c.right_entry-vote.ensures in
    value ∙ no_member table c.args.members.now z c.args.x c.args.y (ap (λ (m : List ℕ). has m z) (sym c.places.invariant.members) ∙ other)

pub places-preserved : goal.places-preserved
places-preserved c =
    let table = c.args.dag.now in
    let z : ℕ = c.places.z - 1 in
    let next : c.places.z ≡ z + 1 = omega (arith, c.places-test.true) in
    let order = c.len-count.ensures.numbered.order in
    let f : FitsSigned w8 c.right_entry-vote.result = search rules in
    let value = to_z-of_z w8 c.right_entry-vote.result f
    ∙ next_vote table c.args.members.now c.places.tally.members c.places.tally.plus c.places.tally.minus c.places.votes.items c.args.signs.now c.right_entry-vote.result c.places.z z c.args.x c.args.y
    order c.requires.whole c.requires.virts next c.places.invariant.members c.places.invariant.sides c.places.invariant.votes c.right_entry-vote.ensures in
    let v = to_z w8 (of_z w8 c.right_entry-vote.result) in
    let items = c.places.votes.items in
    let inside : z < length items = omega (arith, c.places.invariant.long, c.places.auto.z, c.len-count.ensures.value, c.places-test.true) in
    let none_yet = c.places.invariant.none z (omega (arith, c.places-test.true)) in
    let before = subst (λ (m : List ℕ). AreSides m (λ w. get_or items w (pos 0)) c.places.tally.plus c.places.tally.minus) (sym c.places.invariant.members) c.places.invariant.sides in
    let after = c.count.ensures.sides (λ w. get_or items w (pos 0)) none_yet before in
    record {
      long = length-set items z v ∙ c.places.invariant.long;
      signs = set_signs items z v (subst IsSign (sym value) (vote_in-sign table c.args.members.now z c.args.x c.args.y c.requires.whole)) c.places.invariant.signs;
      members = c.count.ensures.members ∙ c.places.invariant.members;
      sides = subst (λ (m : List ℕ). AreSides m (λ w. get_or (set items z v) w (pos 0)) c.count.new.self.plus c.count.new.self.minus) c.places.invariant.members
          (sides_same c.places.tally.members c.count.new.self.plus c.count.new.self.minus (λ w. cond (eqb w z) v (get_or items w (pos 0))) (λ w. get_or (set items z v) w (pos 0)) (set_reads items z v inside) after);
      none = λ w less. get_or-set_other items z w v (pos 0) (λ e. absurd (omega (arith, e, less))) ∙ c.places.invariant.none w (omega (arith, less));
      votes = λ w low high. elim (cases_eq w z) [
        | inl e ↦ ap (λ (k : ℕ). get_or (set items z v) k (pos 0)) e ∙ get_or-set_same items z v (pos 0) inside ∙ value
            ∙ ap (vote_in (graph_of table) c.args.members.now c.args.x c.args.y) (sym e)
        | inr ne ↦ get_or-set_other items z w v (pos 0) ne ∙ c.places.invariant.votes w (omega (arith, ne, low, next)) high
      ];
    }
