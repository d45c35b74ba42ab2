-- The numbers below a count, as a row to which they are added one by one, and as a set of a graph's blocks.
use Rattle.std.proofs.Common.{◌≡◌, ℕ, zero, suc, ◌+◌, ◌<◌, ◌≤◌, Bool, true, false, cond, ◌||◌, List, ◌∷◌, length, refl, sym, ap, subst, ◌∙◌, inl, inr, eqb, arith}
use Rattle.std.specs.Prelude.{filter}
use Rattle.std.specs.List.{range_with_len}
use Rattle.std.proofs.lemmas.Bool.{cases_lt, eq-eqb, ne_eqb, or_left, or_right, false≢true}
use Rattle.sp_bits.specs.Places.{has as has_place, places_where}
use Rattle.sp_model.specs.Graph.{has}
use Rattle.sp_dag.specs.Numbered.{AreInOrder, Numbered, graph_of}
use Rattle.sp_dag.proofs.Ranked.{ancestors_lower}
use Rattle.sp_dag.proofs.Whole.{filter_cut}
use Rattle.sp_plain.specs.Plain.{IsClosed}

in_range : (a n k : ℕ) → a ≤ k → k < a + n → has (range_with_len a n) k ≡ true
in_range a zero k low high = absurd (omega arith)
in_range a (suc n) k low high =
    elim (cases_lt a k) [
      | inl less ↦ or_right (eqb a k) (has (range_with_len (a + 1) n) k) (in_range (a + 1) n k (omega arith) (omega arith))
      | inr le ↦ (let same : a ≡ k = omega arith in or_left (eqb a k) (has (range_with_len (a + 1) n) k) (eq-eqb a k same))
    ]

past_range : (a n k : ℕ) → a + n ≤ k → has (range_with_len a n) k ≡ false
past_range a zero k high = refl
past_range a (suc n) k high =
    ap (λ (c : Bool). c || has (range_with_len (a + 1) n) k) (ne_eqb a k (λ same. absurd (omega (arith, same)))) ∙ past_range (a + 1) n k (omega arith)

filter_all : (p : ℕ → Bool) (a n : ℕ) → ((k : ℕ) → a ≤ k → k < a + n → p k ≡ true) → filter p (range_with_len a n) ≡ range_with_len a n
filter_all p a zero h = refl
filter_all p a (suc n) h =
    ap (λ (c : Bool). cond c (a ∷ filter p (range_with_len (a + 1) n)) (filter p (range_with_len (a + 1) n))) (h a (omega arith) (omega arith))
    ∙ ap (λ (l : List ℕ). a ∷ l) (filter_all p (a + 1) n (λ k low high. h k (omega arith) (omega arith)))

places_range : (p : ℕ → Bool) (n : ℕ) → n ≤ 512 → ((k : ℕ) → k < n → p k ≡ true) → ((k : ℕ) → n ≤ k → p k ≡ false) → places_where p ≡ range_with_len 0 n
unfolding places_where
places_range p n le inside outside =
    filter_cut p 0 n 512 le (λ k high. outside k (omega (arith, high)))
    ∙ filter_all p 0 n (λ k low high. inside k (omega arith))

-- one more number
pub first_more : (row : List ℕ) (n : ℕ) → n < 512 → row ≡ range_with_len 0 n → places_where (λ k. has_place row k || eqb k n) ≡ range_with_len 0 (n + 1)
first_more row n le is =
    ap (λ (r : List ℕ). places_where (λ k. has_place r k || eqb k n)) is
    ∙ places_range (λ k. has_place (range_with_len 0 n) k || eqb k n) (n + 1) (omega arith)
    (λ k low. elim (cases_lt k n) [
      | inl less ↦ or_left (has (range_with_len 0 n) k) (eqb k n) (in_range 0 n k (omega arith) (omega arith))
      | inr more ↦ (let same : k ≡ n = omega arith in or_right (has (range_with_len 0 n) k) (eqb k n) (eq-eqb k n same))
    ])
    (λ k high. ap (λ (c : Bool). c || eqb k n) (past_range 0 n k (omega arith)) ∙ ne_eqb k n (λ same. absurd (omega (arith, same))))

-- they hold the past of each
pub first_closed : (table : Numbered) (n : ℕ) (set : List ℕ) → AreInOrder table.parents → n ≤ length table.parents → set ≡ range_with_len 0 n → IsClosed (graph_of table) (length table.parents) set
first_closed table n set order few e = subst (λ (s : List ℕ). IsClosed (graph_of table) (length table.parents) s) (sym e) (record {
  below = λ z there. omega (arith, below z there, few);
  closed = λ z a there reached. let lower : a < z = ancestors_lower table a z order (omega (arith, below z there, few)) reached in
      in_range 0 n a (omega arith) (omega (arith, lower, below z there));
})
  where
    below : (z : ℕ) → has (range_with_len 0 n) z ≡ true → z < n
    below z there = elim (cases_lt z n) [
      | inl less ↦ less
      | inr more ↦ absurd (false≢true (sym (past_range 0 n z (omega arith)) ∙ there))
    ]
