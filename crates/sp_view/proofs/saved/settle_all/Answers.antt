use Rattle.std.proofs.Common.{◌≡◌, ◌∙◌, ◌≤◌, ◌<◌, ◌+◌, ℕ, List, None, Option, inl, inr, arith, ap, sym, subst, length, set, get_or-set_other, get_or-set_same}
use Rattle.std.proofs.lemmas.Bool.{cases_eq}
use Rattle.std.proofs.lemmas.List.{get_or_default}
use Rattle.sp_view.specs.Homes.{AreAlike, IsHome, IsOnceHome}
use Rattle.sp_view.specs.Stored.{count_of, row_of}
use Rattle.sp_view.specs.Views.{entry_at, holds, held}
use Rattle.sp_view.proofs.Held.{read_at, held_set, held_take, held_take_le, holds_held}
use Rattle.sp_view.proofs.Homes.{alike_twice, once_home, other_stays}
use Rattle.sp_view.proofs.saved.settle_all.Goals as goal

pub entry_home-requires : goal.entry_home-requires
entry_home-requires c = λ r.
    let items : List (Option (ℕ × ℕ)) = c.entries.entries.items in
    let i : ℕ = c.entries.i in
    let inside : i < length items = omega (arith, c.entries-test.true, c.entries.invariant.long, c.entries.entries.ok.0, c.requires.long) in
    let e = read_at items i c.index.result.now inside c.index.ensures in
    let s : c.index-saved-i.result ≡ entry_at c.args.saved.now i = c.index-saved-i.is ∙ get_or_default c.args.saved.now i c.index-saved-i.result None c.entries-test.true in
    omega (
      arith,
      ap (λ (o : Option (ℕ × ℕ)). holds o r) e,
      ap (λ (o : Option (ℕ × ℕ)). holds o r) s,
      holds_held items i r,
      held_take c.args.saved.now i r c.entries-test.true,
      held_take_le c.args.saved.now (i + 1) r,
      c.entries.invariant.counts r,
      c.requires.live r,
    )

pub entries-preserved : goal.entries-preserved
entries-preserved c =
    let items : List (Option (ℕ × ℕ)) = c.entries.entries.items in
    let was : List (Option (ℕ × ℕ)) = c.args.entries.now.items in
    let saved : List (Option (ℕ × ℕ)) = c.args.saved.now in
    let i : ℕ = c.entries.i in
    let result : Option (ℕ × ℕ) = c.entry_home.result in
    let inside : i < length items = omega (arith, c.entries-test.true, c.entries.invariant.long, c.entries.entries.ok.0, c.requires.long) in
    let e : c.index.result.now ≡ entry_at items i = read_at items i c.index.result.now inside c.index.ensures in
    let s : c.index-saved-i.result ≡ entry_at saved i = c.index-saved-i.is ∙ get_or_default saved i c.index-saved-i.result None c.entries-test.true in
    let live : (r : ℕ) → holds c.index-saved-i.result r + held items r ≤ count_of c.entries.pool r =
    λ r. omega (arith, ap (λ (o : Option (ℕ × ℕ)). holds o r) s, held_take saved i r c.entries-test.true, held_take_le saved (i + 1) r, c.entries.invariant.counts r, c.requires.live r) in
    let others : (r : ℕ) → holds c.index-saved-i.result r + holds (entry_at items i) r < count_of c.entries.pool r → row_of c.entry_home.new.pool r ≡ row_of c.entries.pool r =
    λ r more. c.entry_home.ensures.others r (omega (arith, more, ap (λ (o : Option (ℕ × ℕ)). holds o r) e)) in
    record {
      long = c.entries.invariant.long;
      within = omega (arith, c.entries-test.true);
      ids = λ j less.
          elim (cases_eq j i) [
            | inl same ↦
                subst (λ (k : ℕ). IsHome (entry_at saved k) (entry_at was k) (entry_at (set items i result) k)) (sym same)
                (rw (get_or-set_same items i result None inside, sym s, sym (e ∙ c.entries.invariant.rest i (omega arith))) c.entry_home.ensures.ids)
            | inr other ↦ rw (get_or-set_other items i j result None other) (c.entries.invariant.ids j (omega (arith, less, other)))
          ];
      rest = λ j more. get_or-set_other items i j result None (λ same. absurd (omega (arith, more, same))) ∙ c.entries.invariant.rest j (omega (arith, more));
      places = λ j.
          elim (cases_eq j i) [
            | inl same ↦
                subst (λ (k : ℕ). AreAlike c.args.pool.now c.entry_home.new.pool (entry_at was k) (entry_at (set items i result) k)) (sym same)
                (rw (get_or-set_same items i result None inside)
                (alike_twice c.args.pool.now c.entries.pool c.entry_home.new.pool (entry_at was i) (entry_at items i) result (c.entries.invariant.places i)
                (subst (λ (o : Option (ℕ × ℕ)). AreAlike c.entries.pool c.entry_home.new.pool o result) e c.entry_home.ensures.places)))
            | inr other ↦
                rw (get_or-set_other items i j result None other)
                (alike_twice c.args.pool.now c.entries.pool c.entry_home.new.pool (entry_at was j) (entry_at items j) (entry_at items j) (c.entries.invariant.places j)
                (other_stays c.entries.pool c.entry_home.new.pool items c.index-saved-i.result i j other live others))
          ];
      once = λ r.
          once_home items i c.index-saved-i.result result (count_of c.entries.pool r) r inside (live r) (c.entries.invariant.once r)
          (subst (λ (o : Option (ℕ × ℕ)). IsOnceHome (count_of c.entries.pool r) (holds c.index-saved-i.result r) (holds o r) (holds result r)) e (c.entry_home.ensures.once r));
      counts = λ r.
          omega (
            arith,
            c.entry_home.ensures.counts r,
            ap (λ (o : Option (ℕ × ℕ)). holds o r) e,
            ap (λ (o : Option (ℕ × ℕ)). holds o r) s,
            held_take saved i r c.entries-test.true,
            held_set items i result r inside,
            c.entries.invariant.counts r,
          );
      others = λ r more.
          others r (omega (
            arith,
            more,
            ap (λ (o : Option (ℕ × ℕ)). holds o r) s,
            holds_held items i r,
            held_take saved i r c.entries-test.true,
            held_take_le saved (i + 1) r,
            c.entries.invariant.counts r,
          ))
          ∙ c.entries.invariant.others r more;
    }
