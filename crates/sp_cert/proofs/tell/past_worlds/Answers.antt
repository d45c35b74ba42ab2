use Rattle.std.proofs.Common.{◌≡◌, ◌∙◌, ◌+◌, ◌&&◌, ap, sym, subst, arith, length, filter, ℕ, ℤ, List}
use Rattle.std.specs.Prelude.{All}
use Rattle.std.specs.List.{range_with_len}
use Rattle.sp_dag.specs.Numbered.{graph_of}
use Rattle.sp_dag.proofs.Ranked.{keys_are_numbers}
use Rattle.sp_model.specs.Graph.{in_past}
use Rattle.sp_cert.specs.Entries.{AreVirtsBelow, IsTold}
use Rattle.sp_cert.specs.Refusals.{numbers_of}
use Rattle.sp_cert.proofs.Ranges.{filter_more_no}
use Rattle.sp_cert.proofs.Told.{known_skip, numbers_push, told_push}
use Rattle.sp_cert.proofs.tell.past_worlds.Goals as goal
use Rattle.sp_cert.proofs.tell.past_worlds.Goals.{then-sees_both+in_ok-world+in_ok-push, else-sees_both}

pub places-preserved : goal.places-preserved
places-preserved c =
    let g = graph_of c.args.dag.now in
    let both = λ (z : ℕ). in_past g c.args.x z && in_past g c.args.y z in
    let z = c.places.z in
    elim c.if-sees_both.branch [
      | then-sees_both+in_ok-world+in_ok-push w ↦
          (let signs_are = ap (λ v. v.items) w.signs-is in
          let worlds_are = ap (λ v. v.items) w.worlds-is ∙ w.in_ok-push.ensures.items in
          record {
            long = ap length signs_are ∙ w.in_ok-world.ensures.long;
            known = subst (λ (l : List ℤ). AreVirtsBelow g c.args.x c.args.y (z + 1) l) (sym signs_are) w.in_ok-world.ensures.known;
            numbers = numbers_push c.places.worlds.items c.if-sees_both.worlds.items _ z both worlds_are w.in_ok-world.ensures.number (sym c.sees_both.ensures ∙ w.if-sees_both.true) c.places.invariant.numbers;
            told = told_push (IsTold g c.args.x c.args.y) c.places.worlds.items c.if-sees_both.worlds.items _ worlds_are w.in_ok-world.ensures.told c.places.invariant.told;
          })
      | else-sees_both w ↦
          (let signs_are = ap (λ v. v.items) w.signs-is in
          let worlds_are = ap (λ v. v.items) w.worlds-is in
          let none = sym c.sees_both.ensures ∙ w.if-sees_both.false in
          record {
            long = ap length signs_are ∙ c.places.invariant.long;
            known = known_skip g c.args.x c.args.y z c.places.signs.items c.if-sees_both.signs.items signs_are none c.places.invariant.known;
            numbers = ap numbers_of worlds_are ∙ c.places.invariant.numbers ∙ sym (filter_more_no both z none);
            told = subst (λ l. All (IsTold g c.args.x c.args.y) l) (sym worlds_are) c.places.invariant.told;
          })
    ]

pub returns-clause-numbers : goal.returns-clause-numbers
returns-clause-numbers c =
    let g = graph_of c.args.dag.now in
    let both = λ (z : ℕ). in_past g c.args.x z && in_past g c.args.y z in
    let all : c.places.z ≡ length c.args.dag.now.parents = omega (arith, c.len-z-end.ensures.value) in
    c.places.invariant.numbers ∙ ap (λ (n : ℕ). filter both (range_with_len 0 n)) all ∙ ap (filter both) (sym (keys_are_numbers c.args.dag.now))
