-- Genesis is in the past of each other block, so that on an unrelated pair it votes the sign of the sum of all other votes.
use Rattle.std.proofs.Common.{◌≡◌, ◌≢◌, ℕ, zero, suc, ◌<◌, ◌≤◌, Bool, true, false, ◌||◌, ◌&&◌, cond, List, [], ◌∷◌, length, get_or, refl, sym, ap, ◌∙◌, eqb, arith}
use Rattle.std.specs.Prelude.{ℤ, pos, negsuc, not, filter, ◌+ℤ◌, ◌-ℤ◌}
use Rattle.std.specs.Int.Signed.{lt_z}
use Rattle.std.proofs.lemmas.Int.{ints}
use Rattle.std.proofs.lemmas.Bool.{false≢true, and_parts, eq-eqb, eqb-true, ne_eqb, or_left, or_right, false_from_ne_true, le-ltb, lt-ltb}
use Rattle.sp_bits.specs.Places.{difference, places_where, IsGreatest, IsRow}
use Rattle.sp_bits.specs.Members.{has-filter}
use Rattle.sp_bits.proofs.RowSets.{has_difference, has_places, row_small, rows_same}
use Rattle.sp_dag.specs.Numbered.{Numbered, IsNumbered, IsPair, graph_of}
use Rattle.sp_dag.proofs.Ranked.{ancestors_lower, complete_numbered, parents_numbered}
use Rattle.sp_model.specs.Graph.{Graph, has, in_past, parents_of}
use Rattle.sp_model.specs.Votes.{sgn, total, vote}
use Rattle.sp_model.specs.Loose.{is_loose, is_plus, is_minus}
use Rattle.sp_model.proofs.Loose.{loose_vote}
use Rattle.sp_model.proofs.Match.{total_without}
use Rattle.sp_model.proofs.Pasts.{parent_in_past, past_of_parent}
use Rattle.sp_model.proofs.Sets.{same_truth}
use Rattle.sp_view.specs.Settled.{AreKept, AreOpen, AreSides, IsAsked}
use Rattle.sp_view.specs.Sums.{sum_of, IsLone}
use Rattle.sp_view.proofs.Members.{row_distinct}
use Rattle.sp_view.proofs.Moves.{side_row}
use Rattle.sp_view.proofs.Settling.{has_added}

-- ---- genesis is below all others

first_parent : (row : List ℕ) → 0 < length row → (p : ℕ) × (has row p ≡ true)
first_parent [] h = absurd (omega arith)
first_parent (p ∷ ps) h = (p, or_left (eqb p p) (has ps p) (eq-eqb p p refl))

by_parent : (table : Numbered) (p z : ℕ) → IsNumbered table → z < length table.parents → has (parents_of (graph_of table) z) p ≡ true → (0 < p → in_past (graph_of table) 0 p ≡ true)
    → in_past (graph_of table) 0 z ≡ true
by_parent table zero z numbered within parent below = parent_in_past (graph_of table) 0 z (complete_numbered table z numbered.order within) parent
by_parent table (suc p) z numbered within parent below =
    past_of_parent (graph_of table) 0 (suc p) z (complete_numbered table z numbered.order within) parent (below (omega arith))

genesis_from : (table : Numbered) (k z : ℕ) → IsNumbered table → z < k → 0 < z → z < length table.parents → in_past (graph_of table) 0 z ≡ true
genesis_from table zero z numbered less some within = absurd (omega arith)
genesis_from table (suc k) z numbered less some within =
    let there : (p : ℕ) × (has (get_or table.parents z []) p ≡ true) = first_parent (get_or table.parents z []) (numbered.rooted z some within) in
    let lower : there.0 < z = numbered.order z there.0 there.1 in
    by_parent table there.0 z numbered within
    (ap (λ (l : List ℕ). has l there.0) (parents_numbered table z within) ∙ there.1)
    (λ more. genesis_from table k there.0 numbered (omega arith) more (omega arith))

pub genesis_below : (table : Numbered) (z : ℕ) → IsNumbered table → 0 < z → z < length table.parents → in_past (graph_of table) 0 z ≡ true
genesis_below table z numbered some within = genesis_from table (suc z) z numbered (omega arith) some within

-- ---- signs

-- a sum with its own sign has that sign
sign_with : (m n v : ℤ) → v ≡ sgn m → n ≡ m +ℤ v → v ≡ sgn n
sign_with (negsuc k) (negsuc l) v e s = e
sign_with (negsuc k) (pos zero) v e s = (let one : v ≡ negsuc 0 = e in absurd (omega (arith, ints)))
sign_with (negsuc k) (pos (suc l)) v e s = (let one : v ≡ negsuc 0 = e in absurd (omega (arith, ints)))
sign_with (pos zero) (negsuc l) v e s = (let one : v ≡ pos 0 = e in absurd (omega (arith, ints)))
sign_with (pos zero) (pos zero) v e s = e
sign_with (pos zero) (pos (suc l)) v e s = (let one : v ≡ pos 0 = e in absurd (omega (arith, ints)))
sign_with (pos (suc k)) (negsuc l) v e s = (let one : v ≡ pos 1 = e in absurd (omega (arith, ints)))
sign_with (pos (suc k)) (pos zero) v e s = (let one : v ≡ pos 1 = e in absurd (omega (arith, ints)))
sign_with (pos (suc k)) (pos (suc l)) v e s = e

-- ---- what it votes

filter_members : (p q : ℕ → Bool) (xs : List ℕ) → ((x : ℕ) → has xs x ≡ true → p x ≡ q x) → filter p xs ≡ filter q xs
filter_members p q [] h = refl
filter_members p q (x ∷ xs) h =
    let here : p x ≡ q x = h x (or_left (eqb x x) (has xs x) (eq-eqb x x refl)) in
    let rest : filter p xs ≡ filter q xs = filter_members p q xs (λ y there. h y (or_right (eqb x y) (has xs y) there)) in
    rw (here, rest) refl

module _ (table : Numbered) (numbered : IsNumbered table) (set : List ℕ) (asked : IsAsked (graph_of table) set)
    (below : (z : ℕ) → has set z ≡ true → z < length table.parents) (x y : ℕ) (kind : IsPair table (x, y)) (member : has set y ≡ true) where
  abbrev pub g : Graph
  g = graph_of table

  pub root_in : has set 0 ≡ true
  root_in = asked.down.closed y 0 member (genesis_below table y numbered (let lt : x < y = kind.order in omega arith) kind.within)

  second_after : in_past g 0 y ≡ true
  second_after = genesis_below table y numbered (let lt : x < y = kind.order in omega arith) kind.within

  first_some : x ≢ 0
  first_some e = by (eqb x y) (in_past g x y) (in_past g y x) (ne_eqb x y (λ same. (let lt : x < y = kind.order in omega arith))) (ap (λ (k : ℕ). in_past g k y) e ∙ second_after) kind.unrelated
    where
      by : (a p q : Bool) → a ≡ false → p ≡ true → (not a && (p || q)) ≡ false → ⊥
      by true p q ea ep h = false≢true (sym ea)
      by false true q ea ep h = false≢true (sym h)
      by false false q ea ep h = false≢true ep

  nothing_below : (z : ℕ) → in_past g z 0 ≡ false
  nothing_below z = false_from_ne_true (in_past g z 0) (λ h. (let lt : z < 0 = ancestors_lower table z 0 numbered.order numbered.some h in omega arith))

  pub root_loose : is_loose g 0 x y ≡ true
  root_loose =
      rw (ne_eqb 0 x (λ e. first_some (sym e)), nothing_below x, ne_eqb 0 y (λ e. (let lt : x < y = kind.order in omega arith)), nothing_below y) refl

  above_root : (w : ℕ) → has set w ≡ true → in_past g 0 w ≡ not (eqb w 0)
  above_root zero h = nothing_below 0
  above_root (suc w) h = genesis_below table (suc w) numbered (omega arith) (below (suc w) h) ∙ sym (ap not (ne_eqb (suc w) 0 (λ e. omega arith)))

  -- the sign of the sum of all other votes
  pub root_others : vote g set 0 x y ≡ sgn (sum_of g set x y -ℤ vote g set 0 x y)
  root_others =
      let rest : total (λ w. vote g set w x y) (filter (λ w. not (eqb w 0)) set) ≡ sum_of g set x y -ℤ vote g set 0 x y =
      (let all = total_without (λ w. vote g set w x y) set 0 (row_distinct set asked.row) root_in in omega (arith, ints, all)) in
      loose_vote g set 0 x y asked.down root_in root_loose
      ∙ ap sgn (ap (total (λ w. vote g set w x y)) (filter_members (λ w. in_past g 0 w) (λ w. not (eqb w 0)) set above_root) ∙ rest)

  -- which is that of the sum with it
  pub root_sign : vote g set 0 x y ≡ sgn (sum_of g set x y)
  root_sign = sign_with (sum_of g set x y -ℤ vote g set 0 x y) (sum_of g set x y) (vote g set 0 x y) root_others (omega (arith, ints))

-- ---- the rows of a pair where it alone votes anew

module _ (g : Graph) (t : List ℕ) (x y : ℕ) (ups downs todo : List ℕ) (v : ℤ) (asked : IsAsked g t) (opened : AreOpen g t x y (has todo))
    (kept : AreKept g t x y (has todo) (difference ups todo) (difference downs todo)) (lone : IsLone todo 0) (is : v ≡ vote g t 0 x y) where
  rooted_side : (votes : ℤ → Bool) (before after : List ℕ)
      → ((z : ℕ) → has (difference before todo) z ≡ (has t z && (is_loose g z x y && (not (has todo z) && votes (vote g t z x y)))))
      → IsRow after → ((z : ℕ) → has after z ≡ cond (eqb z 0) (votes v) (has before z)) → after ≡ filter (λ z. is_loose g z x y && votes (vote g t z x y)) t
  rooted_side votes before after kept_is row after_is =
      rows_same after (filter (λ z. is_loose g z x y && votes (vote g t z x y)) t) row (side_row t (λ z. is_loose g z x y && votes (vote g t z x y)) asked.row)
      (λ k small. after_is k ∙ at k small (eqb k 0) refl ∙ sym (has-filter (λ z. is_loose g z x y && votes (vote g t z x y)) t k))
    where
      on : (c : Bool) → (c && true) ≡ c
      on true = refl
      on false = refl

      root : has todo 0 ≡ true
      root = lone.only 0

      at : (k : ℕ) → k < 512 → (e : Bool) → eqb k 0 ≡ e → cond e (votes v) (has before k) ≡ (has t k && (is_loose g k x y && votes (vote g t k x y)))
      at k small true e =
          let same : k ≡ 0 = eqb-true k 0 e in
          ap votes is
          ∙ sym (ap (λ (k : ℕ). has t k && (is_loose g k x y && votes (vote g t k x y))) same
          ∙ rw (opened.member 0 root, opened.loose 0 root) refl)
      at k small false e =
          sym (on (has before k)) ∙ ap (λ (c : Bool). has before k && not c) (sym (lone.only k ∙ e))
          ∙ sym (has_difference before todo k (λ _. small))
          ∙ kept_is k ∙ ap (λ (c : Bool). has t k && (is_loose g k x y && (not c && votes (vote g t k x y)))) (lone.only k ∙ e)

  pub rooted_sides : (plus' minus' : List ℕ) → IsRow plus' → IsRow minus' → ((z : ℕ) → has plus' z ≡ cond (eqb z 0) (is_plus v) (has ups z))
      → ((z : ℕ) → has minus' z ≡ cond (eqb z 0) (is_minus v) (has downs z)) → AreSides g t x y plus' minus'
  rooted_sides plus' minus' row row' plus_is minus_is = record {
    plus_is = rooted_side is_plus ups plus' kept.plus_is row plus_is;
    minus_is = rooted_side is_minus downs minus' kept.minus_is row' minus_is;
  }

  -- and where its vote stays, so do they
  pub rooted_still : (s : List ℕ) → IsRow s → has s 0 ≡ true → AreSides g s x y ups downs → v ≡ vote g s 0 x y → AreSides g t x y ups downs
  rooted_still s row member sides same =
      rooted_sides ups downs (side is_plus ups sides.plus_is).0 (side is_minus downs sides.minus_is).0 (side is_plus ups sides.plus_is).1 (side is_minus downs sides.minus_is).1
    where
      side : (votes : ℤ → Bool) (before : List ℕ) → before ≡ filter (λ z. is_loose g z x y && votes (vote g s z x y)) s
          → IsRow before × ((z : ℕ) → has before z ≡ cond (eqb z 0) (votes v) (has before z))
      side votes before is' = (
        rw is' (side_row s (λ z. is_loose g z x y && votes (vote g s z x y)) row),
        λ z. at z (eqb z 0) refl,
      )
        where
          at : (z : ℕ) (e : Bool) → eqb z 0 ≡ e → has before z ≡ cond e (votes v) (has before z)
          at z true e =
              let here : z ≡ 0 = eqb-true z 0 e in
              ap (has before) here ∙ ap (λ (l : List ℕ). has l 0) is' ∙ has-filter (λ z. is_loose g z x y && votes (vote g s z x y)) s 0
              ∙ rw (member, opened.loose 0 (lone.only 0)) refl ∙ ap votes (sym same)
          at z false e = refl

-- the rows with it or without
pub with_it : (row : List ℕ) (z : ℕ) → IsRow row → has (places_where (λ p. has row p || eqb p 0)) z ≡ cond (eqb z 0) true (has row z)
with_it row z is = has_added row 0 z (λ k h. row_small row k is h) (omega arith) ∙ at (has row z) (eqb z 0)
  where
    at : (r e : Bool) → (r || e) ≡ cond e true r
    at true true = refl
    at true false = refl
    at false true = refl
    at false false = refl

pub without_it : (row : List ℕ) (z : ℕ) → IsRow row → has (places_where (λ p. has row p && not (eqb p 0))) z ≡ cond (eqb z 0) false (has row z)
without_it row z is = has_places (λ p. has row p && not (eqb p 0)) z (λ h. row_small row z is (and_parts (has row z) (not (eqb z 0)) h).0) ∙ at (has row z) (eqb z 0)
  where
    at : (r e : Bool) → (r && not e) ≡ cond e false r
    at true true = refl
    at true false = refl
    at false true = refl
    at false false = refl

-- a row whose greatest place it is
pub lone_root : (row : List ℕ) (top : ℕ) → IsGreatest row top → top ≤ 0 → IsLone row 0
lone_root row top greatest low = record {
  small = omega arith;
  only = λ z.
      same_truth (has row z) (eqb z 0) (λ h. eq-eqb z 0 (let le : z ≤ top = greatest.most z h in omega arith))
      (λ e. (let same : z ≡ top = (let none : z ≡ 0 = eqb-true z 0 e in omega arith) in ap (has row) same ∙ greatest.member));
}

-- a sign that is told by comparing it with 0
pub plus_told : (v w : ℤ) → w ≡ v → sgn v ≡ v → lt_z (pos 0) w ≡ is_plus v
plus_told v w e is = ap (lt_z (pos 0)) e ∙ at v is
  where
    at : (v : ℤ) → sgn v ≡ v → lt_z (pos 0) v ≡ is_plus v
    at (negsuc zero) is = refl
    at (negsuc (suc n)) is = refl
    at (pos zero) is = le-ltb 0 0 (omega arith)
    at (pos (suc zero)) is = lt-ltb 0 1 (omega arith)
    at (pos (suc (suc n))) is = (let one : pos 1 ≡ pos (suc (suc n)) = is in absurd (omega (arith, ints)))

pub minus_told : (v w : ℤ) → w ≡ v → sgn v ≡ v → lt_z w (pos 0) ≡ is_minus v
minus_told v w e is = ap (λ (n : ℤ). lt_z n (pos 0)) e ∙ at v is
  where
    at : (v : ℤ) → sgn v ≡ v → lt_z v (pos 0) ≡ is_minus v
    at (negsuc zero) is = refl
    at (negsuc (suc n)) is = (let one : negsuc 0 ≡ negsuc (suc n) = is in absurd (omega (arith, ints)))
    at (pos zero) is = le-ltb 0 0 (omega arith)
    at (pos (suc n)) is = le-ltb (suc n) 0 (omega arith)
