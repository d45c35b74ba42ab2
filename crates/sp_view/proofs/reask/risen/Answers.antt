use Rattle.std.proofs.Common.{◌∙◌, Bool, List, ℕ, Option, Some, ap, false, subst, sym, true}
use Rattle.sp_model.specs.Graph.{has}
use Rattle.sp_view.specs.Settled.{AreTold}
use Rattle.sp_view.specs.declared.both_sides.Known.{Known}
use Rattle.sp_view.proofs.Following.{meet_parts}
use Rattle.sp_view.proofs.Risen.{risen_up, risen_down}
use Rattle.sp_view.proofs.reask.risen.Goals.{in-Some+then-up, in-Some+else-up, in_default}
use Rattle.sp_view.proofs.reask.risen.Goals as goal

pub returns-clause-within : goal.returns-clause-within
returns-clause-within c = λ z h. elim c.match-up.branch [
  | in-Some+then-up w ↦ (meet_parts c.args.todo.now c.args.sides.now.minus z (ap (λ (l : List ℕ). has l z) (sym (ap (λ (k : Known). k.todo) w.known-is ∙ w.and_with.ensures)) ∙ h)).0
  | in-Some+else-up w ↦ (meet_parts c.args.todo.now c.args.sides.now.plus z (ap (λ (l : List ℕ). has l z) (sym (ap (λ (k : Known). k.todo) w.known-is ∙ w.and_with-else-up.ensures)) ∙ h)).0
  | in_default w ↦ ap (λ (k : Known). has k.todo z) (sym w.known-is) ∙ h
]

pub returns-clause-rows : goal.returns-clause-rows
returns-clause-rows c = λ g set x y asked told opened kept. elim c.match-up.branch [
  | in-Some+then-up w ↦ (
      let up : AreTold g set x y (Some true) c.args.todo.now c.args.sides.now.plus c.args.sides.now.minus =
      subst (λ (o : Option Bool). AreTold g set x y o c.args.todo.now c.args.sides.now.plus c.args.sides.now.minus) (w.in-Some.is ∙ ap Some w.if-up.true) told in
      let rows = risen_up g set x y c.args.sides.now.plus c.args.sides.now.minus c.args.todo.now asked c.count-plus.ensures.row c.count-minus.ensures.row opened kept up
      c.match-up.known.todo (ap (λ (k : Known). k.todo) w.known-is ∙ w.and_with.ensures) in
      rw (c.without.ensures, c.without-2.ensures, ap (λ (k : Known). k.sides.plus) w.known-is ∙ w.or_with.ensures, ap (λ (k : Known). k.sides.minus) w.known-is) rows)
  | in-Some+else-up w ↦ (
      let down : AreTold g set x y (Some false) c.args.todo.now c.args.sides.now.plus c.args.sides.now.minus =
      subst (λ (o : Option Bool). AreTold g set x y o c.args.todo.now c.args.sides.now.plus c.args.sides.now.minus) (w.in-Some.is ∙ ap Some w.if-up.false) told in
      let rows = risen_down g set x y c.args.sides.now.plus c.args.sides.now.minus c.args.todo.now asked c.count-plus.ensures.row c.count-minus.ensures.row opened kept down
      c.match-up.known.todo (ap (λ (k : Known). k.todo) w.known-is ∙ w.and_with-else-up.ensures) in
      rw (c.without.ensures, c.without-2.ensures, ap (λ (k : Known). k.sides.plus) w.known-is, ap (λ (k : Known). k.sides.minus) w.known-is ∙ w.or_with-else-up.ensures) rows)
  | in_default w ↦
      rw (c.without.ensures, c.without-2.ensures, ap (λ (k : Known). k.sides.plus) w.known-is, ap (λ (k : Known). k.sides.minus) w.known-is, ap (λ (k : Known). k.todo) w.known-is) (opened, kept)
]
