use Rattle.std.proofs.Common.{◌<◌, ◌∙◌, ◌++◌, ◌∷◌, [], ap, eqb, List, ℕ, length, arith}
use Rattle.indexmap.specs.IndexSet.{insert_key}
use Rattle.sp_dag.proofs.Ids.{numbers_below, IsNumbered-adds}
use Rattle.sp_dag.proofs.dag.Dag.add.Goals as goal

pub add-requires-clause-before : goal.add-requires-clause-before
add-requires-clause-before c =
    let some : 0 < length c.self.inside.ids.keys = omega (arith, c.self.invariant.some, c.self.invariant.long) in
    numbers_below c.self.inside.ids.keys c.args.parents.now c.in_ok-numbers.numbers (length c.self.inside.table) some c.self.invariant.long
    c.in_ok-numbers.ensures

pub invariant_of-self-in-Ok : goal.invariant_of-self-in-Ok
invariant_of-self-in-Ok c =
    (IsNumbered-adds c.args.self.now c.args.id c.args.salt c.args.parents.now c.self.inside.profile c.self.inside.ids.keys c.self.inside.salts.items c.self.inside.table
    c.insert.new.self.keys c.push_reserved.new.self.items c.in_ok-numbers.numbers c.add.new.self c.self.view_is c.self.invariant
    c.requires.fresh c.requires.room c.requires.some c.in_ok-numbers.ensures
    (c.in-Ok.ensures.keys ∙ ap (λ (l : List ℕ). insert_key eqb l c.args.id) c.in_ok-reserve.ensures.keys)
    (c.push_reserved.ensures.items ∙ ap (λ (l : List ℕ). l ++ c.args.salt ∷ []) c.in_ok-reserve-2.ensures.items) c.in_ok-number.ensures.ok).0

pub returns-clause-ok : goal.returns-clause-ok
returns-clause-ok c =
    (IsNumbered-adds c.args.self.now c.args.id c.args.salt c.args.parents.now c.self.inside.profile c.self.inside.ids.keys c.self.inside.salts.items c.self.inside.table
    c.insert.new.self.keys c.push_reserved.new.self.items c.in_ok-numbers.numbers c.add.new.self c.self.view_is c.self.invariant
    c.requires.fresh c.requires.room c.requires.some c.in_ok-numbers.ensures
    (c.in-Ok.ensures.keys ∙ ap (λ (l : List ℕ). insert_key eqb l c.args.id) c.in_ok-reserve.ensures.keys)
    (c.push_reserved.ensures.items ∙ ap (λ (l : List ℕ). l ++ c.args.salt ∷ []) c.in_ok-reserve-2.ensures.items) c.in_ok-number.ensures.ok).1
