-- The frozen voters among the first blocks: what is left where the others are taken back, and that no other rows have them.
use Rattle.std.proofs.Common.{◌≡◌, ℕ, zero, suc, ◌+◌, ◌<◌, ◌≤◌, Bool, true, false, ◌&&◌, List, [], ◌∷◌, length, get_or, take, Some, refl, sym, ap, ◌∙◌, ltb, inl, inr, arith}
use Rattle.std.specs.Prelude.{not, slice_get}
use Rattle.std.proofs.lemmas.Bool.{cases_lt, false≢true, ltb-true, lt-ltb}
use Rattle.std.proofs.lemmas.List.{ext_get_or, get_or-take, length-take-le}
use Rattle.sp_bits.specs.Members.{has-filter}
use Rattle.sp_bits.specs.Places.{has, members_below, IsRow}
use Rattle.sp_bits.proofs.Sets.{places_same}
use Rattle.sp_dag.specs.Numbered.{Numbered, graph_of, pairs_of, AreInOrder}
use Rattle.sp_dag.proofs.Ranked.{pairs_ascend}
use Rattle.sp_model.specs.Graph.{keys}
use Rattle.sp_model.specs.Votes.{vote}
use Rattle.sp_model.specs.Loose.{is_loose, is_plus, is_minus}
use Rattle.sp_frozen.specs.Voters.{AreRows, FrozenRows, HoldsFrozen}

pair_there : (pairs : List (ℕ × ℕ)) (i : ℕ) → i < length pairs → (x : ℕ) × (y : ℕ) × (slice_get pairs i ≡ Some (x, y))
pair_there [] i le = absurd (omega arith)
pair_there (p ∷ pairs) zero le = (p.0, p.1, refl)
pair_there (p ∷ pairs) (suc i) le = pair_there pairs i (omega arith)

-- ---- what is left

-- the first voters of a row
below_side : (row : List ℕ) (side : ℕ → Bool) (n m : ℕ) → m ≤ n → ((z : ℕ) → has row z ≡ (ltb z n && side z)) → (z : ℕ) → has (members_below row m) z ≡ (ltb z m && side z)
below_side row side n m le is z =
    has-filter (λ p. ltb p m) row z ∙ ap (λ (c : Bool). c && ltb z m) (is z) ∙ at (ltb z m) (ltb z n) (side z) refl (λ e. lt-ltb z n (let less : z < m = ltb-true z m e in omega (arith, less, le)))
  where
    at : (c d s : Bool) → ltb z m ≡ c → (c ≡ true → d ≡ true) → ((d && s) && c) ≡ (c && s)
    at true true true e h = refl
    at true true false e h = refl
    at true false s e h = absurd (false≢true (h refl))
    at false true true e h = refl
    at false true false e h = refl
    at false false s e h = refl

-- the rows of the first pairs, with the first voters
pub record AreLeft (old : FrozenRows) (pluses minuses : List (List ℕ)) (count left : ℕ) : Type 0 where
  pub within : left ≤ length old.pluses
  pub long : length pluses ≡ left
  pub plus : (i : ℕ) → i < left → get_or pluses i [] ≡ members_below (get_or old.pluses i []) count
  pub minus : (i : ℕ) → i < left → get_or minuses i [] ≡ members_below (get_or old.minuses i []) count

-- so it is where later pairs are taken off, and then the later voters of each row
pub AreLeft-read : (old : FrozenRows) (plus minus pluses minuses : List (List ℕ)) (count left : ℕ) → left ≤ length old.pluses → length old.minuses ≡ length old.pluses
    → plus ≡ take left old.pluses → minus ≡ take left old.minuses → length pluses ≡ length plus
    → ((i : ℕ) → i < length plus → get_or pluses i [] ≡ members_below (get_or plus i []) count)
    → ((i : ℕ) → i < length minus → get_or minuses i [] ≡ members_below (get_or minus i []) count) → AreLeft old pluses minuses count left
AreLeft-read old plus minus pluses minuses count left within long is_plus is_minus kept by_plus by_minus =
    let plus_long : length plus ≡ left = ap length is_plus ∙ length-take-le left old.pluses within in
    let minus_long : length minus ≡ left = ap length is_minus ∙ length-take-le left old.minuses (omega (arith, within, long)) in
    record {
      within = within;
      long = kept ∙ plus_long;
      plus = λ i lt.
          by_plus i (omega (arith, lt, plus_long))
          ∙ ap (λ (l : List ℕ). members_below l count) (ap (λ (l : List (List ℕ)). get_or l i []) is_plus ∙ get_or-take left old.pluses i [] lt);
      minus = λ i lt.
          by_minus i (omega (arith, lt, minus_long))
          ∙ ap (λ (l : List ℕ). members_below l count) (ap (λ (l : List (List ℕ)). get_or l i []) is_minus ∙ get_or-take left old.minuses i [] lt);
    }

pub HoldsFrozen-cut : (table : Numbered) (old : FrozenRows) (pluses minuses : List (List ℕ)) (count left : ℕ) → AreInOrder table.parents → HoldsFrozen table old → count ≤ old.blocks
    → AreLeft old pluses minuses count left
    → ((i : ℕ) (pair : ℕ × ℕ) → i + 1 ≡ left → slice_get (pairs_of table) i ≡ Some pair → pair.1 < count)
    → ((i : ℕ) (pair : ℕ × ℕ) → left ≤ i → i < length old.pluses → slice_get (pairs_of table) i ≡ Some pair → count ≤ pair.1)
    → HoldsFrozen table (record { blocks = count; pluses = pluses; minuses = minuses })
HoldsFrozen-cut table old pluses minuses count left order h le rows last others =
    record {
      within = omega (arith, h.within, le);
      few = omega (arith, rows.long, rows.within, h.few);
      below = λ i x y at lt. lower left (omega (arith, rows.within, h.few)) last i x y at (omega (arith, lt, rows.long));
      there = λ i x y at lt.
          elim (cases_lt i left) [
            | inl less ↦ omega (arith, less, rows.long)
            | inr past ↦ (let far = others i (x, y) past (h.there i x y at (omega (arith, lt, le))) at in absurd (omega (arith, far, lt)))
          ];
      each = λ i x y at lt.
          (let inside : i < left = omega (arith, lt, rows.long) in
          let was = h.each i x y at (omega (arith, inside, rows.within)) in
          let g = graph_of table in
          record {
            plus_is = λ z.
                ap (λ (l : List ℕ). has l z) (rows.plus i inside)
                ∙ below_side (get_or old.pluses i []) (λ z. not (is_loose g z x y) && is_plus (vote g (keys g) z x y)) old.blocks count le was.plus_is z;
            minus_is = λ z.
                ap (λ (l : List ℕ). has l z) (rows.minus i inside)
                ∙ below_side (get_or old.minuses i []) (λ z. not (is_loose g z x y) && is_minus (vote g (keys g) z x y)) old.blocks count le was.minus_is z;
          });
    }
  where
    lower : (k : ℕ) → k ≤ length (pairs_of table) → ((i : ℕ) (pair : ℕ × ℕ) → i + 1 ≡ k → slice_get (pairs_of table) i ≡ Some pair → pair.1 < count)
        → (i x y : ℕ) → slice_get (pairs_of table) i ≡ Some (x, y) → i < k → y < count
    lower zero within last i x y at lt = absurd (omega arith)
    lower (suc k) within last i x y at lt =
        (let there = pair_there (pairs_of table) k (omega arith) in
        let up = pairs_ascend table i k (x, y) (there.0, there.1) order (omega arith) at there.2 in
        let end = last k (there.0, there.1) (omega arith) there.2 in
        omega (arith, up, end))

-- ---- that no others are

-- rows with the same places are the same
same_rows : (s t : List ℕ) → IsRow s → IsRow t → ((z : ℕ) → has s z ≡ has t z) → s ≡ t
unfolding IsRow
same_rows s t is is' same = is ∙ places_same (has s) (has t) (λ z _. same z) ∙ sym is'

no_shorter : (table : Numbered) (a b : FrozenRows) → HoldsFrozen table a → HoldsFrozen table b → a.blocks ≡ b.blocks → length a.pluses ≤ length b.pluses
no_shorter table a b h k same =
    elim (cases_lt (length b.pluses) (length a.pluses)) [
      | inl less ↦ (let there = pair_there (pairs_of table) (length b.pluses) (omega (arith, less, h.few)) in
          let lower = h.below (length b.pluses) there.0 there.1 there.2 less in
          absurd (let inside = k.there (length b.pluses) there.0 there.1 there.2 (omega (arith, lower, same)) in omega (arith, inside)))
      | inr le ↦ le
    ]

-- of a number of blocks only one list of rows has the frozen voters
pub one_frozen : (table : Numbered) (a b : FrozenRows) → AreRows a → AreRows b → HoldsFrozen table a → HoldsFrozen table b → a.blocks ≡ b.blocks → a ≡ b
one_frozen table a b ra rb h k same =
    let long : length a.pluses ≡ length b.pluses = omega (arith, no_shorter table a b h k same, no_shorter table b a k h (sym same)) in
    let pluses : a.pluses ≡ b.pluses = ext_get_or [] a.pluses b.pluses long
    (λ i lt. let there = pair_there (pairs_of table) i (omega (arith, lt, h.few)) in
    let one = h.each i there.0 there.1 there.2 lt in
    let two = k.each i there.0 there.1 there.2 (omega (arith, lt, long)) in
    same_rows (get_or a.pluses i []) (get_or b.pluses i []) (ra.pluses i [] lt) (rb.pluses i [] (omega (arith, lt, long)))
    (λ z. one.plus_is z ∙ ap (λ (n : ℕ). ltb z n && (not (is_loose (graph_of table) z there.0 there.1) && is_plus (vote (graph_of table) (keys (graph_of table)) z there.0 there.1))) same ∙ sym (two.plus_is z))) in
    let minuses : a.minuses ≡ b.minuses = ext_get_or [] a.minuses b.minuses (omega (arith, long, ra.long, rb.long))
    (λ i lt. let inside : i < length a.pluses = omega (arith, lt, ra.long) in
    let there = pair_there (pairs_of table) i (omega (arith, inside, h.few)) in
    let one = h.each i there.0 there.1 there.2 inside in
    let two = k.each i there.0 there.1 there.2 (omega (arith, inside, long)) in
    same_rows (get_or a.minuses i []) (get_or b.minuses i []) (ra.minuses i [] lt) (rb.minuses i [] (omega (arith, inside, long, rb.long)))
    (λ z. one.minus_is z ∙ ap (λ (n : ℕ). ltb z n && (not (is_loose (graph_of table) z there.0 there.1) && is_minus (vote (graph_of table) (keys (graph_of table)) z there.0 there.1))) same ∙ sym (two.minus_is z))) in
    ap (λ (n : ℕ). let f : FrozenRows = record { blocks = n; pluses = a.pluses; minuses = a.minuses } in f) same
    ∙ ap (λ (l : List (List ℕ)). let f : FrozenRows = record { blocks = b.blocks; pluses = l; minuses = a.minuses } in f) pluses
    ∙ ap (λ (l : List (List ℕ)). let f : FrozenRows = record { blocks = b.blocks; pluses = b.pluses; minuses = l } in f) minuses
