use Rattle.std.proofs.Common.{◌∙◌, ◌+◌, ℕ, None, Option, arith, ap, refl}
use Rattle.std.proofs.lemmas.List.{get_or_default}
use Rattle.sp_view.specs.Views.{holds, held}
use Rattle.sp_view.proofs.Held.{held_take, held_take_le, take_end}
use Rattle.sp_view.proofs.sharing.give_from.Goals as goal

pub give_entry-requires : goal.give_entry-requires
give_entry-requires c = λ r.
    let e = c.index-entries-i.is ∙ get_or_default c.args.entries.now c.entries.i c.index-entries-i.result None c.entries-test.true in
    omega (arith, ap (λ (o : Option (ℕ × ℕ)). holds o r) e, held_take c.args.entries.now c.entries.i r c.entries-test.true, held_take_le c.args.entries.now (c.entries.i + 1) r, c.entries.invariant.counts r, c.requires.live r)

pub entries-init : goal.entries-init
entries-init c = record { within = c.requires.within; counts = λ r. refl; rows = λ r some. refl }

pub entries-preserved : goal.entries-preserved
entries-preserved c =
    let e = c.index-entries-i.is ∙ get_or_default c.args.entries.now c.entries.i c.index-entries-i.result None c.entries-test.true in
    record {
      within = omega (arith, c.entries-test.true);
      counts = λ r. omega (arith, ap (λ (o : Option (ℕ × ℕ)). holds o r) e, held_take c.args.entries.now c.entries.i r c.entries-test.true, c.entries.invariant.counts r, c.give_entry.ensures.counts r);
      rows = λ r some. c.give_entry.ensures.rows r some ∙ c.entries.invariant.rows r (omega (arith, some, c.give_entry.ensures.counts r));
    }

pub returns-clause-counts : goal.returns-clause-counts
returns-clause-counts c = λ r.
    omega (arith, c.entries.invariant.counts r, ap (λ (l : _). held l r) (take_end c.args.entries.now c.entries.i (omega (arith, c.entries-test.false))))
