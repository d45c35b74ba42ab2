-- The votes of no blocks, and those of genesis alone.
use Rattle.std.proofs.Common.{◌≡◌, ℕ, ◌≤◌, length, map, ap, ◌∙◌, sym, subst, arith, Option, List, [], ◌∷◌, ◌++◌, ◌+◌, refl, inl, inr, length-append}
use Rattle.std.specs.List.{range_with_len}
use Rattle.std.specs.Prelude.{ℤ}
use Rattle.std.proofs.lemmas.Bool.{false≢true}
use Rattle.std.proofs.lemmas.List.{take_all}
use Rattle.sp_dag.specs.Numbered.{Numbered, AreInOrder}
use Rattle.sp_frozen.specs.Voters.{FrozenRows}
use Rattle.sp_rows.specs.Pool.{AreRows, Counted, Pool}
use Rattle.sp_view.specs.Stored.{count_of}
use Rattle.sp_view.specs.Summed.{AreSums}
use Rattle.sp_view.proofs.KeptSums.{none_right}
use Rattle.sp_view.specs.Views.{held, IsView, Viewed}
use Rattle.sp_view.proofs.Starting.{view_nothing}
use Rattle.sp_view.proofs.Patched.{length_patched}
use Rattle.sp_engine.proofs.Covering.{snoc}
use Rattle.sp_engine.specs.Votes.{AreFew, AreVoted, bar_row, empty_view, HaveJoined, HaveJoinedBut, Tallied, tips_from}

-- those of no blocks, where genesis joins next
pub joined_none : (table : Numbered) → AreInOrder table.parents → length table.parents ≡ 1 → (frozen : FrozenRows) (rows : Pool) (views : List Viewed) (sums : List ℤ)
    → frozen ≡ record { blocks = 0; pluses = []; minuses = [] } → rows.rows ≡ [] → views ≡ empty_view ∷ [] → sums ≡ []
    → (let v : Tallied = record { frozen = frozen; rows = rows; views = views; since = 0; sums = sums } in HaveJoinedBut table 0 v v [])
joined_none table order single frozen rows views sums f r v s =
    subst (λ (x : FrozenRows). let w : Tallied = record { frozen = x; rows = rows; views = views; since = 0; sums = sums } in HaveJoinedBut table 0 w w []) (sym f)
    (subst (λ (x : List Viewed). let w : Tallied = record { frozen = record { blocks = 0; pluses = []; minuses = [] }; rows = rows; views = x; since = 0; sums = sums } in HaveJoinedBut table 0 w w []) (sym v) (record {
      joining = record {
        frozen = record {
          within = omega arith;
          few = omega arith;
          below = λ i x y at lt. absurd (omega (arith, lt));
          there = λ i x y at lt. absurd (omega (arith, lt));
          each = λ i x y at lt. absurd (omega (arith, lt));
        };
        before = record {
          within = omega arith;
          few = omega arith;
          below = λ i x y at lt. absurd (omega (arith, lt));
          there = λ i x y at lt. absurd (omega (arith, lt));
          each = λ i x y at lt. absurd (omega (arith, lt));
        };
        rows = record { long = refl; pluses = λ i d lt. absurd (omega (arith, lt)); minuses = λ i d lt. absurd (omega (arith, lt)) };
        count = refl;
        counted = none;
        sound = subst (λ (l : List Counted). AreRows 0 l) (sym r) tt;
        tips = record { tips = []; all = empty_view; is = refl; within = omega arith; each = refl; members = refl };
        later = omega arith;
        views = (nothing, (λ z h. absurd (false≢true h)), tt);
        shared = record { few = omega arith; once = λ r. omega arith; counts = λ r. omega (arith, none r) };
        olds = [];
        few = omega arith;
        was = empty_view;
        old_is = refl;
        firsts = refl;
        asked = nothing.asked;
        once = λ r. omega arith;
        joined = [];
        all = empty_view;
        is = refl;
        saving = record { long = omega arith; there = λ i lt. absurd (omega (arith, lt)) };
        patched_is = refl;
        places = λ r some. refl;
        sums = unsummed;
        sums_before = unsummed;
      };
      last = omega (arith, single);
      from = 0;
      from_is = inl (refl, refl);
      each = refl;
      members = refl;
      none = λ _. refl;
    }))
  where
    unsummed : AreSums table [] sums
    unsummed = subst (λ (l : List ℤ). AreSums table [] l) (sym s) (record { right = none_right table []; long = λ i x y at inside. absurd (false≢true inside) })

    nothing : IsView table empty_view rows
    nothing = view_nothing table rows order

    none : (row : ℕ) → count_of rows row ≡ 0
    none row = subst (λ (l : List Counted). count_of (record { rows = l; spare = rows.spare }) row ≡ 0) (sym r) refl

-- they have one view
pub one_view : (table : Numbered) (old v : Tallied) → HaveJoinedBut table 0 old v [] → 0 + 1 ≡ length old.views
one_view table old v h = omega (arith, h.joining.few, ap length h.joining.old_is, length-append h.joining.olds (h.joining.was ∷ []))

-- those of genesis, which has joined those of no blocks
pub voted_alone : (table : Numbered) (old w v : Tallied) (saved : List (Option (ℕ × ℕ))) → table.parents ≡ [] ∷ [] → HaveJoinedBut table 0 old w [] → HaveJoined table 0 old v saved → AreVoted table v
voted_alone table old w v saved alone before h = record {
  holds = record {
    frozen = h.joining.frozen;
    views = h.joining.views;
    shared = record { few = omega arith; once = λ r. omega arith; counts = λ r. omega (arith, h.joining.shared.counts r, none_held saved r unsaved) };
    tips = record {
      tips = h.joining.joined;
      all = h.joining.all;
      is = h.joining.is ∙ ap (λ (l : List Viewed). l ++ (h.joining.joined ++ h.joining.all ∷ [])) (no_items h.joining.olds h.joining.few);
      within = omega (arith, first);
      each =
          h.each ∙ ap (λ (k : ℕ). map (bar_row table) (tips_from table.parents k)) (let e : h.from ≡ v.since = omega (arith, first, start) in e)
          ∙ ap (λ (p : List (List ℕ)). map (bar_row table) (tips_from p v.since)) (sym (take_all v.frozen.blocks table.parents (omega (arith, h.every))));
      members = h.members ∙ ap (range_with_len 0) (sym h.every);
    };
  };
  every = h.every;
  sums = subst (λ (l : List ℕ). AreSums table l v.sums) h.members h.joining.sums;
}
  where
    single : v.frozen.blocks ≡ 1
    single = omega (arith, h.every, ap length alone)

    -- there were no tips before, and there is one
    start : h.from ≡ 0
    start = elim h.from_is [
      | inl same ↦ same.0
      | inr later ↦ absurd (omega (arith, later.0, later.2, single))
    ]

    first : v.since ≡ 0
    first = elim h.from_is [
      | inl same ↦ (let none : old.since ≤ 0 = omega (arith, h.joining.tips.within) in omega (arith, same.1, none))
      | inr later ↦ absurd (omega (arith, later.0, later.2, single))
    ]

    -- nothing could be saved
    unsaved : length saved ≡ 0
    unsaved =
        let same = snoc h.joining.olds before.joining.olds h.joining.was before.joining.was (sym h.joining.old_is ∙ before.joining.old_is) in
        sym (length_patched saved h.joining.all.entries) ∙ ap length h.joining.patched_is ∙ ap (λ (x : Viewed). length x.entries) same.1 ∙ ap length (sym before.joining.patched_is)

    none_held : (saved : List (Option (ℕ × ℕ))) (r : ℕ) → length saved ≡ 0 → held saved r ≡ 0
    none_held [] r e = refl
    none_held (s ∷ ss) r e = absurd (omega (arith, e))

    no_items : (xs : List Viewed) → length xs ≤ 0 → xs ≡ []
    no_items [] le = refl
    no_items (x ∷ xs) le = absurd (omega (arith, le))

-- with two views alone
pub few_alone : (table : Numbered) (old w v : Tallied) (saved : List (Option (ℕ × ℕ))) → table.parents ≡ [] ∷ [] → HaveJoinedBut table 0 old w [] → HaveJoined table 0 old v saved → AreFew v
few_alone table old w v saved alone before h more =
    let single : v.frozen.blocks ≡ 0 + 1 = omega (arith, h.every, ap length alone) in
    let one = h.one single in
    absurd (omega (
      arith,
      more,
      h.joining.few,
      ap length h.joining.is,
      length-append h.joining.olds (h.joining.joined ++ h.joining.all ∷ []),
      length-append h.joining.joined (h.joining.all ∷ []),
      ap length one.1,
    ))
