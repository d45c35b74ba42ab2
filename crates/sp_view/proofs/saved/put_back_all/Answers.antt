use Rattle.std.proofs.Common.{◌≡◌, ◌∙◌, ◌<◌, ℕ, List, None, Option, inl, inr, arith, ap, sym, subst, length, set, get_or-set_other, get_or-set_same}
use Rattle.std.proofs.lemmas.Bool.{cases_eq, cases_lt}
use Rattle.std.proofs.lemmas.List.{get_or_default, get_or_past}
use Rattle.sp_view.specs.Saved.{either}
use Rattle.sp_view.specs.Views.{entry_at, holds}
use Rattle.sp_view.proofs.Held.{read_at, held_set, held_take, held_take_le, holds_held}
use Rattle.sp_view.proofs.Patched.{either_holds}
use Rattle.sp_view.proofs.saved.put_back_all.Goals as goal

pub put_back-requires : goal.put_back-requires
put_back-requires c = λ r.
    let inside : c.entries.i < length c.entries.entries.items = omega (arith, c.entries-test.true, c.entries.invariant.long, c.entries.entries.ok.0, c.requires.long) in
    let e = read_at c.entries.entries.items c.entries.i c.index.result.now inside c.index.ensures in
    omega (
      arith,
      ap (λ (o : Option (ℕ × ℕ)). holds o r) e,
      holds_held c.entries.entries.items c.entries.i r,
      held_take_le c.args.saved.now c.entries.i r,
      c.entries.invariant.counts r,
      c.requires.live r,
    )

pub entries-preserved : goal.entries-preserved
entries-preserved c =
    let items : List (Option (ℕ × ℕ)) = c.entries.entries.items in
    let was : List (Option (ℕ × ℕ)) = c.args.entries.now.items in
    let saved : List (Option (ℕ × ℕ)) = c.args.saved.now in
    let i : ℕ = c.entries.i in
    let inside : i < length items = omega (arith, c.entries-test.true, c.entries.invariant.long, c.entries.entries.ok.0, c.requires.long) in
    let e : c.index.result.now ≡ entry_at items i = read_at items i c.index.result.now inside c.index.ensures in
    let s : c.index-saved-i.result ≡ entry_at saved i = c.index-saved-i.is ∙ get_or_default saved i c.index-saved-i.result None c.entries-test.true in
    let result : c.put_back.result ≡ either (entry_at saved i) (entry_at was i) =
    c.put_back.ensures.put ∙ ap (λ (o : Option (ℕ × ℕ)). either o c.index.result.now) s ∙ ap (either (entry_at saved i)) (e ∙ c.entries.invariant.rest i (omega arith)) in
    record {
      long = c.entries.invariant.long;
      within = omega (arith, c.entries-test.true);
      put = λ j less.
          elim (cases_eq j i) [
            | inl same ↦ subst (λ (k : ℕ). entry_at (set items i c.put_back.result) k ≡ either (entry_at saved k) (entry_at was k)) (sym same) (get_or-set_same items i c.put_back.result None inside ∙ result)
            | inr other ↦ get_or-set_other items i j c.put_back.result None other ∙ c.entries.invariant.put j (omega (arith, less, other))
          ];
      rest = λ j more. get_or-set_other items i j c.put_back.result None (λ same. absurd (omega (arith, more, same))) ∙ c.entries.invariant.rest j (omega (arith, more));
      counts = λ r.
          omega (
            arith,
            c.put_back.ensures.counts r,
            ap (λ (o : Option (ℕ × ℕ)). holds o r) e,
            ap (λ (o : Option (ℕ × ℕ)). holds o r) s,
            held_take saved i r c.entries-test.true,
            held_set items i c.put_back.result r inside,
            c.entries.invariant.counts r,
          );
      rows = λ r some.
          c.put_back.ensures.rows r some
          ∙ c.entries.invariant.rows r (omega (arith, some, c.put_back.ensures.counts r, ap (λ (o : Option (ℕ × ℕ)). holds o r) c.put_back.ensures.put, either_holds c.index-saved-i.result c.index.result.now r));
    }

pub returns-clause-put : goal.returns-clause-put
returns-clause-put c = λ j.
    elim (cases_lt j c.entries.i) [
      | inl less ↦ c.entries.invariant.put j less
      | inr more ↦ c.entries.invariant.rest j more ∙ sym (ap (λ (o : Option (ℕ × ℕ)). either o (entry_at c.args.entries.now.items j)) (get_or_past c.args.saved.now j None (omega (arith, more, c.entries-test.false))))
    ]
