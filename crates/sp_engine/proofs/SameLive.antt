-- Rows that are counted alike are as many.
use Rattle.std.proofs.Common.{◌≡◌, ℕ, ◌+◌, ◌<◌, ◌≤◌, Bool, cond, List, [], ◌∷◌, length, refl, sym, ap, ◌∙◌, inl, inr, arith}
use Rattle.std.proofs.lemmas.Bool.{cases_lt, eq-eqb, ne_eqb}
use Rattle.sp_rows.specs.Pool.{AreRows, count_of, Counted}

-- none is below the first of them
none_below : (from : ℕ) (rows : List Counted) (r : ℕ) → AreRows from rows → r < from → count_of rows r ≡ 0
none_below from [] r are lt = refl
none_below from (row ∷ rows) r are lt =
    ap (λ (c : Bool). cond c row.count (count_of rows r)) (ne_eqb row.id r (λ e. absurd (omega (arith, e, lt, are.0))))
    ∙ none_below (row.id + 1) rows r are.3 (omega (arith, lt, are.0))

own : (row : Counted) (rows : List Counted) → count_of (row ∷ rows) row.id ≡ row.count
own row rows = ap (λ (c : Bool). cond c row.count (count_of rows row.id)) (eq-eqb row.id row.id refl)

other : (row : Counted) (rows : List Counted) (r : ℕ) → row.id < r → count_of (row ∷ rows) r ≡ count_of rows r
other row rows r lt = ap (λ (c : Bool). cond c row.count (count_of rows r)) (ne_eqb row.id r (λ e. absurd (omega (arith, e, lt))))

pub live_same : (from from' : ℕ) (xs ys : List Counted) → AreRows from xs → AreRows from' ys → ((r : ℕ) → count_of xs r ≡ count_of ys r) → length xs ≡ length ys
live_same from from' [] [] one two same = refl
live_same from from' [] (y ∷ ys) one two same = absurd (omega (arith, same y.id, own y ys, two.1))
live_same from from' (x ∷ xs) [] one two same = absurd (omega (arith, same x.id, own x xs, one.1))
live_same from from' (x ∷ xs) (y ∷ ys) one two same =
    let below : x.id < y.id → ⊥ = λ lt. absurd (omega (
      arith,
      same x.id,
      own x xs,
      one.1,
      none_below y.id (y ∷ ys) x.id (let le : y.id ≤ y.id = omega arith in (le, two.1, two.2, two.3)) lt,
    )) in
    let above : y.id < x.id → ⊥ = λ lt. absurd (omega (
      arith,
      same y.id,
      own y ys,
      two.1,
      none_below x.id (x ∷ xs) y.id (let le : x.id ≤ x.id = omega arith in (le, one.1, one.2, one.3)) lt,
    )) in
    let one_id : x.id ≡ y.id = elim (cases_lt x.id y.id) [
      | inl lt ↦ absurd (below lt)
      | inr more ↦ elim (cases_lt y.id x.id) [
        | inl lt ↦ absurd (above lt)
        | inr less ↦ omega (arith, more, less)
      ]
    ] in
    let rest : length xs ≡ length ys = live_same (x.id + 1) (y.id + 1) xs ys one.3 two.3 (λ r. elim (cases_lt x.id r) [
      | inl lt ↦ sym (other x xs r lt) ∙ same r ∙ other y ys r (omega (arith, lt, one_id))
      | inr more ↦ none_below (x.id + 1) xs r one.3 (omega (arith, more)) ∙ sym (none_below (y.id + 1) ys r two.3 (omega (arith, more, one_id)))
    ]) in
    omega (arith, rest)
