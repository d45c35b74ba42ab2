-- What a pool's calls do to the counts, the places and the number of live rows.
use Rattle.std.proofs.Common.{◌≡◌, ℕ, ◌+◌, ◌-◌, ◌<◌, ◌≤◌, Bool, true, false, cond, List, length, refl, sym, ap, ◌∙◌, eqb, inl, inr, arith}
use Rattle.std.specs.List.{refill}
use Rattle.std.proofs.lemmas.Bool.{cases_eq, eq-eqb, eqb-true, ne_eqb}
use Rattle.std.proofs.lemmas.List.{take_at}
use Rattle.std.specs.Prelude.{drop}
use Rattle.sp_bits.specs.Places.{places_where}
use Rattle.sp_bits.specs.Words.{bit_in}
use Rattle.sp_rows.specs.Pool.{Pool, Counted, words_of, without_row, with_count, with_words, taken_with, given, overwritten, AreRows}
use Rattle.sp_rows.specs.Pool as counted
use Rattle.sp_rows.proofs.LiveRows.{count_of-with_row, words_of-with_row, count_of-without_row, words_of-without_row, length-with_row_new, length-with_row_live, length-without_row}
use Rattle.sp_view.specs.Stored.{count_of, row_of, live, spare}

-- the same test with its sides turned
flip : (a b : ℕ) → eqb a b ≡ eqb b a
flip a b = elim (cases_eq a b) [
  | inl same ↦ eq-eqb a b same ∙ sym (eq-eqb b a (sym same))
  | inr other ↦ ne_eqb a b other ∙ sym (ne_eqb b a (λ e. other (sym e)))
]

-- rows with the same words have the same places
pub row_of_words : (pool pool' : Pool) (row : ℕ) → words_of pool'.rows row ≡ words_of pool.rows row → row_of pool' row ≡ row_of pool row
unfolding row_of
row_of_words pool pool' row same = ap (λ (ws : List ℕ). places_where (bit_in ws)) same

-- eight words in place of eight others are these
refill_eight : (old own : List ℕ) → length own ≡ 8 → refill 8 old own ≡ own
refill_eight old own long = take_at own (drop (length own) old) 8 long

-- a live row with another count or other words
module _ (rows : List Counted) (id : ℕ) where
  words_same : (count r : ℕ) → words_of (with_count rows id count) r ≡ words_of rows r
  words_same count r = words_of-with_row rows (record { id = id; count = count; words = words_of rows id }) r ∙ elim (cases_eq id r) [
    | inl same ↦ rw (eq-eqb id r same) (ap (words_of rows) same)
    | inr other ↦ rw (ne_eqb id r other) refl
  ]

  count_same : (words : List ℕ) (r : ℕ) → counted.count_of (with_words rows id words) r ≡ counted.count_of rows r
  count_same words r = count_of-with_row rows (record { id = id; count = counted.count_of rows id; words = words }) r ∙ elim (cases_eq id r) [
    | inl same ↦ rw (eq-eqb id r same) (ap (counted.count_of rows) same)
    | inr other ↦ rw (ne_eqb id r other) refl
  ]

-- ---- a row is held once more

module _ (pool pool' : Pool) (id : ℕ) (is : pool'.rows ≡ with_count pool.rows id (count_of pool id + 1)) where
  pub shared_counts : (r : ℕ) → count_of pool' r ≡ count_of pool r + cond (eqb r id) 1 0
  shared_counts r =
      ap (λ (l : List Counted). counted.count_of l r) is ∙ count_of-with_row pool.rows (record { id = id; count = count_of pool id + 1; words = words_of pool.rows id }) r
      ∙ elim (cases_eq id r) [
        | inl same ↦ rw (eq-eqb id r same, eq-eqb r id (sym same)) (ap (λ (k : ℕ). count_of pool k + 1) same)
        | inr other ↦ rw (ne_eqb id r other, ne_eqb r id (λ e. other (sym e))) (omega arith)
      ]

  pub shared_rows : (r : ℕ) → row_of pool' r ≡ row_of pool r
  shared_rows r = row_of_words pool pool' r (ap (λ (l : List Counted). words_of l r) is ∙ words_same pool.rows id (count_of pool id + 1) r)

  pub shared_live : AreRows 0 pool.rows → 0 < count_of pool id → live pool' ≡ live pool
  shared_live are some = ap length is ∙ length-with_row_live pool.rows 0 (record { id = id; count = count_of pool id + 1; words = words_of pool.rows id }) are some

-- ---- a row is held once less

by_given : (P : Pool → Type 0) (pool : Pool) (id : ℕ)
    → (eqb (count_of pool id) 1 ≡ true → P (record { rows = without_row pool.rows id; spare = pool.spare + 1 }))
    → (eqb (count_of pool id) 1 ≡ false → P (record { rows = with_count pool.rows id (count_of pool id - 1); spare = pool.spare }))
    → P (given pool id)
by_given P pool id last more = at (eqb (count_of pool id) 1) last more
  where
    at : (b : Bool) → (b ≡ true → P (record { rows = without_row pool.rows id; spare = pool.spare + 1 }))
        → (b ≡ false → P (record { rows = with_count pool.rows id (count_of pool id - 1); spare = pool.spare }))
        → P (cond b (record { rows = without_row pool.rows id; spare = pool.spare + 1 }) (record { rows = with_count pool.rows id (count_of pool id - 1); spare = pool.spare }))
    at true last more = last refl
    at false last more = more refl

module _ (pool : Pool) (id : ℕ) (are : AreRows 0 pool.rows) (some : 0 < count_of pool id) where
  pub given_counts : (r : ℕ) → count_of pool r ≡ count_of (given pool id) r + cond (eqb r id) 1 0
  given_counts r = by_given (λ p. count_of pool r ≡ count_of p r + cond (eqb r id) 1 0) pool id
      (λ one. elim (cases_eq id r) [
        | inl same ↦ rw (count_of-without_row pool.rows id r, eq-eqb id r same, eq-eqb r id (sym same)) (ap (count_of pool) (sym same) ∙ one_is one)
        | inr other ↦ rw (count_of-without_row pool.rows id r, ne_eqb id r other, ne_eqb r id (λ e. other (sym e))) (omega arith)
      ])
      (λ _. elim (cases_eq id r) [
        | inl same ↦ rw (count_of-with_row pool.rows (record { id = id; count = count_of pool id - 1; words = words_of pool.rows id }) r, eq-eqb id r same, eq-eqb r id (sym same))
            (let e : count_of pool r ≡ count_of pool id = ap (count_of pool) (sym same) in omega (arith, some))
        | inr other ↦ rw (count_of-with_row pool.rows (record { id = id; count = count_of pool id - 1; words = words_of pool.rows id }) r, ne_eqb id r other, ne_eqb r id (λ e. other (sym e))) (omega arith)
      ])
    where
      one_is : eqb (count_of pool id) 1 ≡ true → count_of pool id ≡ 1
      one_is e = eqb-true (count_of pool id) 1 e

  pub given_rows : (r : ℕ) → 0 < count_of (given pool id) r → row_of (given pool id) r ≡ row_of pool r
  given_rows r = by_given (λ p. 0 < count_of p r → row_of p r ≡ row_of pool r) pool id
      (λ _ left. row_of_words pool (record { rows = without_row pool.rows id; spare = pool.spare + 1 }) r
      (words_of-without_row pool.rows id r (λ same. absurd (let none : count_of (record { rows = without_row pool.rows id; spare = pool.spare + 1 }) r ≡ 0 = count_of-without_row pool.rows id r ∙ rw (eq-eqb id r same) refl in omega (arith, left, none)))))
      (λ _ left. row_of_words pool (record { rows = with_count pool.rows id (count_of pool id - 1); spare = pool.spare }) r (words_same pool.rows id (count_of pool id - 1) r))

  pub given_spare : spare pool ≤ spare (given pool id)
  given_spare = by_given (λ p. spare pool ≤ spare p) pool id (λ _. omega arith) (λ _. omega arith)

  pub given_live : live (given pool id) ≤ live pool
  given_live = by_given (λ p. live p ≤ live pool) pool id
      (λ _. (let less = length-without_row pool.rows 0 id are some in omega (arith, less)))
      (λ _. (let same = length-with_row_live pool.rows 0 (record { id = id; count = count_of pool id - 1; words = words_of pool.rows id }) are some in omega (arith, same)))

  pub given_shared : 1 < count_of pool id → live (given pool id) ≡ live pool
  given_shared two = by_given (λ p. live p ≡ live pool) pool id
      (λ one. absurd (let e : count_of pool id ≡ 1 = eqb-true (count_of pool id) 1 one in omega (arith, two, e)))
      (λ _. length-with_row_live pool.rows 0 (record { id = id; count = count_of pool id - 1; words = words_of pool.rows id }) are some)

-- ---- a row is written

module _ (pool : Pool) (id : ℕ) (words : List ℕ) where
  pub put_counts : (r : ℕ) → count_of (overwritten pool id words) r ≡ count_of pool r
  put_counts r = count_same pool.rows id (refill 8 (words_of pool.rows id) words) r

  pub put_row : length words ≡ 8 → row_of (overwritten pool id words) id ≡ places_where (bit_in words)
  unfolding row_of
  put_row long = ap (λ (ws : List ℕ). places_where (bit_in ws))
      (words_of-with_row pool.rows (record { id = id; count = count_of pool id; words = refill 8 (words_of pool.rows id) words }) id
      ∙ rw (eq-eqb id id refl) (refill_eight (words_of pool.rows id) words long))

  pub put_rows : (r : ℕ) → (r ≡ id → ⊥) → row_of (overwritten pool id words) r ≡ row_of pool r
  put_rows r other = row_of_words pool (overwritten pool id words) r
      (words_of-with_row pool.rows (record { id = id; count = count_of pool id; words = refill 8 (words_of pool.rows id) words }) r
      ∙ rw (ne_eqb id r (λ e. other (sym e))) refl)

  pub put_live : AreRows 0 pool.rows → 0 < count_of pool id → live (overwritten pool id words) ≡ live pool
  put_live are some = length-with_row_live pool.rows 0 (record { id = id; count = count_of pool id; words = refill 8 (words_of pool.rows id) words }) are some

-- ---- a row is taken

module _ (pool pool' : Pool) (id : ℕ) (words : List ℕ) (new : count_of pool id ≡ 0) (is : pool' ≡ taken_with pool id words) where
  abbrev row : Counted
  row = record { id = id; count = 1; words = words }

  pub taken_row : row_of pool' id ≡ places_where (bit_in words)
  unfolding row_of
  taken_row = ap (λ (p : Pool). row_of p id) is ∙ ap (λ (ws : List ℕ). places_where (bit_in ws)) (words_of-with_row pool.rows row id ∙ rw (eq-eqb id id refl) refl)

  pub taken_counts : (r : ℕ) → count_of pool' r ≡ count_of pool r + cond (eqb r id) 1 0
  taken_counts r = ap (λ (p : Pool). count_of p r) is ∙ count_of-with_row pool.rows row r ∙ elim (cases_eq id r) [
    | inl same ↦ rw (eq-eqb id r same, eq-eqb r id (sym same)) (let none : count_of pool r ≡ 0 = ap (count_of pool) (sym same) ∙ new in omega (arith, none))
    | inr other ↦ rw (ne_eqb id r other, ne_eqb r id (λ e. other (sym e))) (omega arith)
  ]

  pub taken_rows : (r : ℕ) → 0 < count_of pool r → row_of pool' r ≡ row_of pool r
  taken_rows r some = ap (λ (p : Pool). row_of p r) is ∙ row_of_words pool (taken_with pool id words) r
      (words_of-with_row pool.rows row r
      ∙ rw (ne_eqb id r (λ same. (let none : count_of pool r ≡ 0 = ap (count_of pool) (sym same) ∙ new in omega (arith, some, none)))) refl)

  pub taken_live : AreRows 0 pool.rows → live pool' ≡ live pool + 1
  taken_live are = ap live is ∙ length-with_row_new pool.rows 0 row are new
