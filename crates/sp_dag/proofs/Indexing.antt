-- The indices of pairs, kept as blocks and pairs are added.
use Rattle.std.proofs.Common.{◌≡◌, ℕ, zero, suc, ◌+◌, ◌<◌, ◌≤◌, ◌⊎◌, true, List, [], ◌∷◌, ◌++◌, length, get_or, refl, sym, ap, subst, ◌∙◌, inl, inr, Option, Some, None, arith, length-append}
use Rattle.std.specs.Prelude.{slice_get, unwrap_or}
use Rattle.std.proofs.lemmas.Bool.{cases_lt}
use Rattle.std.proofs.lemmas.Option.{slice_get_within}
use Rattle.std.proofs.lemmas.List.{get_or_past}
use Rattle.std.proofs.Math.ListN.{get_or-append}
use Rattle.std.proofs.Math.Seq.{get_or-append_seam}
use Rattle.sp_bits.specs.Places.{has}
use Rattle.sp_dag.specs.Indexed.{AreIndexed, AreNewIndexed, index_at}

-- what stands in a list stands in a longer one
pub slice_get-longer : {A : Type 0} (xs ys : List A) (i : ℕ) (x : A) → slice_get xs i ≡ Some x → slice_get (xs ++ ys) i ≡ Some x
slice_get-longer [] ys i x there = cc
slice_get-longer (a ∷ xs) ys zero x there = there
slice_get-longer (a ∷ xs) ys (suc i) x there = slice_get-longer xs ys i x there

-- what stands in a longer list stands in the first part or behind it
pub slice_get-shorter : {A : Type 0} (xs ys : List A) (i : ℕ) (x : A) → slice_get (xs ++ ys) i ≡ Some x → i < length xs → slice_get xs i ≡ Some x
slice_get-shorter [] ys i x there le = absurd (omega arith)
slice_get-shorter (a ∷ xs) ys zero x there le = there
slice_get-shorter (a ∷ xs) ys (suc i) x there le = slice_get-shorter xs ys i x there (omega arith)

slice_get-last : {A : Type 0} (xs : List A) (y : A) (i : ℕ) → i ≡ length xs → slice_get (xs ++ y ∷ []) i ≡ Some y
slice_get-last [] y zero e = refl
slice_get-last [] y (suc i) e = absurd (omega arith)
slice_get-last (a ∷ xs) y zero e = absurd (omega arith)
slice_get-last (a ∷ xs) y (suc i) e = slice_get-last xs y i (omega arith)

-- an entry of a row is there only within it
entry_within : (row : List (Option ℕ)) (x i : ℕ) → get_or row x None ≡ Some i → x < length row
entry_within row x i there =
    elim (cases_lt x (length row)) [
      | inl less ↦ less
      | inr le ↦ (let none : get_or row x None ≡ None = get_or_past row x None le in cc)
    ]

-- an entry of a row with one more at its end
entry_cases : (row : List (Option ℕ)) (v : Option ℕ) (x i : ℕ) → get_or (row ++ v ∷ []) x None ≡ Some i
    → (get_or row x None ≡ Some i) ⊎ ((x ≡ length row) × (v ≡ Some i))
entry_cases row v x i there =
    elim (cases_lt x (length row)) [
      | inl less ↦ inl (sym (get_or-append row (v ∷ []) None x less) ∙ there)
      | inr le ↦ (let inside : x < length (row ++ v ∷ []) = entry_within (row ++ v ∷ []) x i there in
          let same : x ≡ length row = omega (arith, length-append row (v ∷ [])) in
          inr (same, sym (ap (λ (k : ℕ). get_or (row ++ v ∷ []) k None) same ∙ get_or-append_seam row v [] None) ∙ there))
    ]

entry_stays : (row : List (Option ℕ)) (v : Option ℕ) (x i : ℕ) → get_or row x None ≡ Some i → get_or (row ++ v ∷ []) x None ≡ Some i
entry_stays row v x i there = get_or-append row (v ∷ []) None x (entry_within row x i there) ∙ there

entry_last : (row : List (Option ℕ)) (v : Option ℕ) (x : ℕ) → x ≡ length row → get_or (row ++ v ∷ []) x None ≡ v
entry_last row v x e = ap (λ (k : ℕ). get_or (row ++ v ∷ []) k None) e ∙ get_or-append_seam row v [] None

-- no pairs yet
pub AreNewIndexed-none : (before : List (ℕ × ℕ)) (past : List ℕ) (number : ℕ) → AreNewIndexed before before past number 0 []
AreNewIndexed-none before past number = record {
  long = refl;
  there = λ i x y low at. (let inside : i < length before = slice_get_within before i (x, y) at in absurd (omega arith));
  back = λ i x at. cc;
  none = λ x le at. absurd (omega arith);
}

-- one number more, whose block is in the past
pub AreNewIndexed-related : (before pairs : List (ℕ × ℕ)) (past : List ℕ) (number end : ℕ) (row : List (Option ℕ)) → AreNewIndexed before pairs past number end row
    → has past end ≡ true → AreNewIndexed before pairs past number (end + 1) (row ++ None ∷ [])
AreNewIndexed-related before pairs past number end row h is = record {
  long = omega (arith, length-append row (None ∷ []), h.long);
  there = λ i x y low at. (let known = h.there i x y low at in (known.0, entry_stays row None x i known.1));
  back = λ i x at. elim (entry_cases row None x i at) [
    | inl old ↦ h.back i x old
    | inr last ↦ (let e = last.1 in cc)
  ];
  none = λ x le at. elim (cases_lt x end) [
    | inl less ↦ (let inside : x < length row = omega (arith, h.long) in h.none x less (sym (get_or-append row (None ∷ []) None x inside) ∙ at))
    | inr high ↦ (let same : x ≡ end = omega arith in ap (has past) same ∙ is)
  ];
}

-- one number more, whose block is unrelated
pub AreNewIndexed-unrelated : (before pairs : List (ℕ × ℕ)) (past : List ℕ) (number end : ℕ) (row : List (Option ℕ)) → AreNewIndexed before pairs past number end row
    → length before ≤ length pairs
    → AreNewIndexed before (pairs ++ (end, number) ∷ []) past number (end + 1) (row ++ Some (length pairs) ∷ [])
AreNewIndexed-unrelated before pairs past number end row h longer = record {
  long = omega (arith, length-append row (Some (length pairs) ∷ []), h.long);
  there = λ i x y low at. elim (cases_lt i (length pairs)) [
    | inl less ↦ (let known = h.there i x y low (slice_get-shorter pairs ((end, number) ∷ []) i (x, y) at less) in
        (known.0, entry_stays row (Some (length pairs)) x i known.1))
    | inr high ↦ (let inside : i < length (pairs ++ (end, number) ∷ []) = slice_get_within (pairs ++ (end, number) ∷ []) i (x, y) at in
        let same : i ≡ length pairs = omega (arith, length-append pairs ((end, number) ∷ [])) in
        let last : Some (end, number) ≡ Some (x, y) = sym (slice_get-last pairs (end, number) i same) ∙ at in
        let first : end ≡ x = ap (λ (o : Option (ℕ × ℕ)). (unwrap_or o (0, 0)).0) last in
        let second : number ≡ y = ap (λ (o : Option (ℕ × ℕ)). (unwrap_or o (0, 0)).1) last in
        (sym second, entry_last row (Some (length pairs)) x (sym first ∙ sym h.long) ∙ ap (λ (k : ℕ). Some k) (sym same)))
  ];
  back = λ i x at. elim (entry_cases row (Some (length pairs)) x i at) [
    | inl old ↦ slice_get-longer pairs ((end, number) ∷ []) i (x, number) (h.back i x old)
    | inr last ↦ (let e = last.1 in let same : length pairs ≡ i = cc in let first : end ≡ x = sym (last.0 ∙ h.long) in
        slice_get-last pairs (end, number) i (sym same) ∙ ap (λ (k : ℕ). Some (k, number)) first)
  ];
  none = λ x le at. elim (cases_lt x end) [
    | inl less ↦ (let inside : x < length row = omega (arith, h.long) in
        h.none x less (sym (get_or-append row (Some (length pairs) ∷ []) None x inside) ∙ at))
    | inr high ↦ (let same : x ≡ length row = omega (arith, h.long) in
        let last : Some (length pairs) ≡ None = sym (entry_last row (Some (length pairs)) x same) ∙ at in cc)
  ];
}

-- a table's row, where the table has one row more
row_old : (indices : List (List (Option ℕ))) (row : List (Option ℕ)) (y : ℕ) → y < length indices → get_or (indices ++ row ∷ []) y [] ≡ get_or indices y []
row_old indices row y le = get_or-append indices (row ∷ []) [] y le

row_new : (indices : List (List (Option ℕ))) (row : List (Option ℕ)) (y : ℕ) → y ≡ length indices → get_or (indices ++ row ∷ []) y [] ≡ row
row_new indices row y e = ap (λ (k : ℕ). get_or (indices ++ row ∷ []) k []) e ∙ get_or-append_seam indices row [] []

index_within : (indices : List (List (Option ℕ))) (x y i : ℕ) → index_at indices x y ≡ Some i → y < length indices
index_within indices x y i there =
    elim (cases_lt y (length indices)) [
      | inl less ↦ less
      | inr le ↦ (let none : index_at indices x y ≡ None = ap (λ (l : List (Option ℕ)). get_or l x None) (get_or_past indices y [] le) in cc)
    ]

-- a table with the row of a new block
pub AreIndexed-push : (pairs more : List (ℕ × ℕ)) (indices : List (List (Option ℕ))) (past : List ℕ) (number : ℕ) (row : List (Option ℕ)) → AreIndexed pairs indices
    → number ≡ length indices → AreNewIndexed pairs (pairs ++ more) past number number row
    → AreIndexed (pairs ++ more) (indices ++ row ∷ [])
AreIndexed-push pairs more indices past number row h e new = record {
  there = λ i x y at. elim (cases_lt i (length pairs)) [
    | inl less ↦ (let old : index_at indices x y ≡ Some i = h.there i x y (slice_get-shorter pairs more i (x, y) at less) in
        ap (λ (l : List (Option ℕ)). get_or l x None) (row_old indices row y (index_within indices x y i old)) ∙ old)
    | inr high ↦ (let known = new.there i x y high at in
        ap (λ (l : List (Option ℕ)). get_or l x None) (row_new indices row y (known.0 ∙ e)) ∙ known.1)
  ];
  back = λ i x y at. elim (cases_lt y (length indices)) [
    | inl less ↦ slice_get-longer pairs more i (x, y)
        (h.back i x y (sym (ap (λ (l : List (Option ℕ)). get_or l x None) (row_old indices row y less)) ∙ at))
    | inr high ↦ (let inside : y < length (indices ++ row ∷ []) = index_within (indices ++ row ∷ []) x y i at in
        let same : y ≡ length indices = omega (arith, length-append indices (row ∷ [])) in
        new.back i x (sym (ap (λ (l : List (Option ℕ)). get_or l x None) (row_new indices row y same)) ∙ at)
        ∙ ap (λ (k : ℕ). Some (x, k)) (e ∙ sym same))
  ];
}

-- a pair of numbers without an index is one of a block and one in its past
pub unlisted-push : (indices : List (List (Option ℕ))) (before pairs : List (ℕ × ℕ)) (past : List ℕ) (number : ℕ) (row : List (Option ℕ)) (reached : ℕ → ℕ → Type 0)
    → number ≡ length indices → AreNewIndexed before pairs past number number row
    → ((x y : ℕ) → x < y → y < number → index_at indices x y ≡ None → reached x y)
    → ((x : ℕ) → x < number → has past x ≡ true → reached x number)
    → (x y : ℕ) → x < y → y < number + 1 → index_at (indices ++ row ∷ []) x y ≡ None → reached x y
unlisted-push indices before pairs past number row reached e new old mine x y lower le at =
    elim (cases_lt y number) [
      | inl less ↦ old x y lower less (sym (ap (λ (l : List (Option ℕ)). get_or l x None) (row_old indices row y (omega arith))) ∙ at)
      | inr high ↦ (let same : y ≡ number = omega arith in
          let none : get_or row x None ≡ None = sym (ap (λ (l : List (Option ℕ)). get_or l x None) (row_new indices row y (same ∙ e))) ∙ at in
          subst (reached x) (sym same) (mine x (omega arith) (new.none x (omega arith) none)))
    ]
