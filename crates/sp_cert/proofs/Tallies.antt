-- Sums over futures, by the rows of a world's votes.
use Rattle.std.proofs.Common.{◌≡◌, ◌≢◌, ℕ, ◌+◌, ◌<◌, ◌≤◌, Bool, true, false, ◌&&◌, ◌||◌, cond, List, length, refl, sym, ap, ◌∙◌, inl, inr, eqb, get_or, arith}
use Rattle.std.specs.Prelude.{ℤ, pos, filter, ◌-ℤ◌, nat_lt, All}
use Rattle.std.specs.List.{range_with_len}
use Rattle.std.proofs.lemmas.Bool.{and_parts, cases_eq, cases_lt, eq-eqb, eqb-true, le-ltb, lt-ltb, ne_eqb, or_cases}
use Rattle.std.proofs.lemmas.Bool.Decides.{Decides-ltb}
use Rattle.std.proofs.lemmas.List.{get_or_past}
use Rattle.sp_bits.specs.Places.{meet, IsRow, places_where}
use Rattle.sp_bits.proofs.RowSets.{filter-filter, has_places}
use Rattle.sp_model.specs.Graph.{has, in_past, future, keys}
use Rattle.sp_model.specs.Loose.{is_minus, is_plus}
use Rattle.sp_model.specs.Votes.{total}
use Rattle.sp_dag.specs.Numbered.{graph_of, Numbered}
use Rattle.sp_dag.proofs.Ranked.{future_members}
use Rattle.sp_view.proofs.Balances.{sum_by_tests}
use Rattle.sp_cert.specs.Certificate.{IsSign}
use Rattle.sp_cert.specs.Refusals.{AreSides}

-- the balance of a block's future is the sum of the entries there
pub future_sum : (table : Numbered) (members plus minus : List ℕ) (e : ℕ → ℤ) (z : ℕ) → AreSides members e plus minus
    → pos (length (meet (future (graph_of table) (keys (graph_of table)) z) plus)) -ℤ pos (length (meet (future (graph_of table) (keys (graph_of table)) z) minus))
    ≡ total e (future (graph_of table) members z)
unfolding IsRow places_where
future_sum table members plus minus e z sides =
    let g = graph_of table in
    let above = future g (keys g) z in
    sum_by_tests (λ w. has above w && has plus w) (λ w. has above w && has minus w) (λ w. has members w && in_past g z w) e (range_with_len 0 512)
    (λ w. at (in_past g z w) (has members w) (is_plus (e w)) (has above w) (has plus w) (future_members table z w) (sides.plus_is w))
    (λ w. at (in_past g z w) (has members w) (is_minus (e w)) (has above w) (has minus w) (future_members table z w) (sides.minus_is w))
    (λ w both. sides.signs w (and_parts (has members w) (in_past g z w) both).0)
    ∙ ap (total e) (sym (filter-filter (has members) (λ w. in_past g z w) (range_with_len 0 512)) ∙ ap (filter (λ w. in_past g z w)) (sym sides.row))
  where
    at : (r s v a p : Bool) → a ≡ r → p ≡ (s && v) → (a && p) ≡ ((s && r) && v)
    at true true v a p ra rp = rw (ra, rp) refl
    at true false v a p ra rp = rw (ra, rp) refl
    at false true v a p ra rp = rw ra refl
    at false false v a p ra rp = rw ra refl

-- ---- rows that are filled place by place

-- a row of those below a place that pass, with that place
pub put_more : (old new : List ℕ) (z : ℕ) (there : Bool) (test : ℕ → Bool) → z < 512 → ((w : ℕ) → has old w ≡ (nat_lt w z && test w)) → there ≡ test z
    → new ≡ cond there (places_where (λ p. has old p || eqb p z)) old → (w : ℕ) → has new w ≡ (nat_lt w (z + 1) && test w)
put_more old new z true test less is at now w =
    ap (λ (l : List ℕ). has l w) now
    ∙ has_places (λ p. has old p || eqb p z) w (λ h. elim (or_cases (has old w) (eqb w z) h) [
      | inl in_old ↦ (let low : w < z = (Decides-ltb w z).0 (and_parts (nat_lt w z) (test w) (sym (is w) ∙ in_old)).0 in omega arith)
      | inr same ↦ (let e : w ≡ z = eqb-true w z same in omega arith)
    ])
    ∙ ap (λ (c : Bool). c || eqb w z) (is w)
    ∙ elim (cases_eq w z) [
      | inl e ↦ (let passes : test w ≡ true = ap test e ∙ sym at in
          let low : nat_lt w (z + 1) ≡ true = lt-ltb w (z + 1) (omega arith) in
          rw (passes, low, eq-eqb w z e) (true_or (nat_lt w z)))
      | inr ne ↦ rw (ne_eqb w z ne, same_below w z ne) (or_false (nat_lt w z && test w))
    ]
  where
    true_or : (c : Bool) → ((c && true) || true) ≡ true
    true_or true = refl
    true_or false = refl

    or_false : (c : Bool) → (c || false) ≡ c
    or_false true = refl
    or_false false = refl

    same_below : (w z : ℕ) → w ≢ z → nat_lt w (z + 1) ≡ nat_lt w z
    same_below w z ne = elim (cases_lt w z) [
      | inl less ↦ lt-ltb w (z + 1) (omega arith) ∙ sym (lt-ltb w z less)
      | inr le ↦ (let more : z + 1 ≤ w = omega (arith, ne) in le-ltb w (z + 1) more ∙ sym (le-ltb w z le))
    ]
put_more old new z false test less is at now w =
    ap (λ (l : List ℕ). has l w) now ∙ is w
    ∙ elim (cases_eq w z) [
      | inl e ↦ (let fails : test w ≡ false = ap test e ∙ sym at in rw fails (both_false (nat_lt w z) (nat_lt w (z + 1))))
      | inr ne ↦ elim (cases_lt w z) [
        | inl low ↦ (let more : w < z + 1 = omega arith in rw (lt-ltb w (z + 1) more, lt-ltb w z low) refl)
        | inr le ↦ (let more : z + 1 ≤ w = omega (arith, ne) in rw (le-ltb w (z + 1) more, le-ltb w z le) refl)
      ]
    ]
  where
    both_false : (c d : Bool) → (c && false) ≡ (d && false)
    both_false true true = refl
    both_false true false = refl
    both_false false true = refl
    both_false false false = refl

-- behind the last vote there is none
pub no_more : (votes : List ℤ) (side : ℤ → Bool) (member : Bool) (n w : ℕ) → side (pos 0) ≡ false → length votes ≤ n
    → (nat_lt w n && (member && side (get_or votes w (pos 0)))) ≡ (member && side (get_or votes w (pos 0)))
no_more votes side member n w none long =
    elim (cases_lt w n) [
      | inl less ↦ rw (lt-ltb w n less) refl
      | inr le ↦ rw (le-ltb w n le) (sym (ap (λ (v : ℤ). member && side v) (get_or_past votes w (pos 0) (omega arith)) ∙ rw none (and_false member)))
    ]
  where
    and_false : (c : Bool) → (c && false) ≡ false
    and_false true = refl
    and_false false = refl

pub each_sign : (votes : List ℤ) (w : ℕ) → All IsSign votes → IsSign (get_or votes w (pos 0))
each_sign votes w signs =
    elim (cases_lt w (length votes)) [
      | inl less ↦ signs w (pos 0) less
      | inr le ↦ rw (get_or_past votes w (pos 0) le) refl
    ]
