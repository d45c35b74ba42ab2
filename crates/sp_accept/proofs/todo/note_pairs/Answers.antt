use Rattle.std.proofs.Common.{◌≡◌, ◌<◌, ◌∙◌, ℕ, inl, inr, arith, sym, ap, subst, true}
use Rattle.std.specs.Prelude.{slice_get}
use Rattle.std.proofs.lemmas.Bool.{cases_lt}
use Rattle.std.proofs.lemmas.Option.{slice_get_within}
use Rattle.sp_model.specs.Graph.{has}
use Rattle.sp_accept.proofs.Due.{item_is}
use Rattle.sp_accept.proofs.todo.note_pairs.Goals as goal

pub pairs-preserved : goal.pairs-preserved
pairs-preserved c = record {
  kept = λ z there. c.note_pair.ensures.kept z (c.pairs.invariant.kept z there);
  pairs = λ i x y lt at less within.
      elim (cases_lt i c.pairs.pair-index) [
        | inl before ↦ (let both = c.pairs.invariant.pairs i x y before at less within in (c.note_pair.ensures.kept x both.0, c.note_pair.ensures.kept y both.1))
        | inr now ↦ (let same : i ≡ c.pairs.pair-index = omega (arith, lt, now) in
            subst (λ (p : ℕ × ℕ). p.0 < p.1 → p.1 < c.args.blocks → (has c.note_pair.new.todo p.0 ≡ true) × (has c.note_pair.new.todo p.1 ≡ true))
            (item_is c.args.changed.now c.pairs.pair-index _ (x, y) (ap (slice_get c.args.changed.now) (sym same) ∙ at)) c.note_pair.ensures.both less within)
      ];
}

pub returns-clause-pairs : goal.returns-clause-pairs
returns-clause-pairs c = λ i x y at less within.
    c.pairs.invariant.pairs i x y (omega (arith, slice_get_within c.args.changed.now i (x, y) at, c.pairs-test.false)) at less within
