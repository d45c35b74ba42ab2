use Rattle.std.proofs.Common.{◌||◌, ◌==◌, ◌∙◌, ℕ, List, ap, refl}
use Rattle.std.proofs.lemmas.Bool.{eq-eqb, or_left, or_right}
use Rattle.sp_model.specs.Graph.{has}
use Rattle.sp_bits.proofs.RowSets.{has_places, row_small}
use Rattle.sp_accept.proofs.todo.note.Goals as goal

pub returns-clause-kept : goal.returns-clause-kept
returns-clause-kept c = λ z there.
    ap (λ (l : List ℕ). has l z) c.set.ensures
    ∙ has_places (λ p. has c.args.todo.now p || (p == c.args.block)) z (λ _. row_small c.args.todo.now z c.test-there.ensures.row there)
    ∙ or_left (has c.args.todo.now z) (z == c.args.block) there

pub returns-clause-there : goal.returns-clause-there
returns-clause-there c =
    ap (λ (l : List ℕ). has l c.args.block) c.set.ensures
    ∙ has_places (λ p. has c.args.todo.now p || (p == c.args.block)) c.args.block (λ _. c.requires)
    ∙ or_right (has c.args.todo.now c.args.block) (c.args.block == c.args.block) (eq-eqb c.args.block c.args.block refl)
