-- What is read from counted rows after a change, for callers of the pool.
use Rattle.std.proofs.Common.{◌≡◌, ℕ, ◌+◌, ◌<◌, ◌==◌, Bool, true, false, cond, not, nat_lt, List, [], ◌∷◌, length, refl, sym, ap, ◌∙◌, arith}
use Rattle.std.proofs.lemmas.Bool.{eqb-true, eqb-false, ne_eqb, ltb-true}
use Rattle.sp_rows.specs.Pool.{Counted, count_of, words_of, with_row, without_row, AreRows}

-- the count of each row, where one has been put in
pub count_of-with_row : (rows : List Counted) (new : Counted) (id : ℕ) → count_of (with_row rows new) id ≡ cond (new.id == id) new.count (count_of rows id)
count_of-with_row [] new id = refl
count_of-with_row (row ∷ rows) new id = by (nat_lt new.id row.id) (row.id == new.id) refl (count_of-with_row rows new id)
  where
    turn : (c d : Bool) → (c ≡ true → d ≡ true → ⊥) → (x y z : ℕ) → cond c x (cond d y z) ≡ cond d y (cond c x z)
    turn true true h x y z = absurd (h refl refl)
    turn true false h x y z = refl
    turn false d h x y z = refl

    by : (less same : Bool) → (row.id == new.id) ≡ same → count_of (with_row rows new) id ≡ cond (new.id == id) new.count (count_of rows id)
        → count_of (cond less (new ∷ row ∷ rows) (cond same (new ∷ rows) (row ∷ with_row rows new))) id ≡ cond (new.id == id) new.count (cond (row.id == id) row.count (count_of rows id))
    by true same e rest = refl
    by false true e rest = (let at : row.id ≡ new.id = eqb-true row.id new.id e in skip (new.id == id) (row.id == id) (ap (λ (k : ℕ). k == id) at))
      where
        skip : (c d : Bool) → d ≡ c → cond c new.count (count_of rows id) ≡ cond c new.count (cond d row.count (count_of rows id))
        skip true d h = refl
        skip false d h = ap (λ (b : Bool). cond b row.count (count_of rows id)) (sym h)
    by false false e rest =
        ap (cond (row.id == id) row.count) rest
        ∙ turn (row.id == id) (new.id == id) (λ p q. eqb-false row.id new.id e (eqb-true row.id id p ∙ sym (eqb-true new.id id q))) row.count new.count (count_of rows id)

-- and its words
pub words_of-with_row : (rows : List Counted) (new : Counted) (id : ℕ) → words_of (with_row rows new) id ≡ cond (new.id == id) new.words (words_of rows id)
words_of-with_row [] new id = refl
words_of-with_row (row ∷ rows) new id = by (nat_lt new.id row.id) (row.id == new.id) refl (words_of-with_row rows new id)
  where
    turn : (c d : Bool) → (c ≡ true → d ≡ true → ⊥) → (x y z : List ℕ) → cond c x (cond d y z) ≡ cond d y (cond c x z)
    turn true true h x y z = absurd (h refl refl)
    turn true false h x y z = refl
    turn false d h x y z = refl

    by : (less same : Bool) → (row.id == new.id) ≡ same → words_of (with_row rows new) id ≡ cond (new.id == id) new.words (words_of rows id)
        → words_of (cond less (new ∷ row ∷ rows) (cond same (new ∷ rows) (row ∷ with_row rows new))) id ≡ cond (new.id == id) new.words (cond (row.id == id) row.words (words_of rows id))
    by true same e rest = refl
    by false true e rest = (let at : row.id ≡ new.id = eqb-true row.id new.id e in skip (new.id == id) (row.id == id) (ap (λ (k : ℕ). k == id) at))
      where
        skip : (c d : Bool) → d ≡ c → cond c new.words (words_of rows id) ≡ cond c new.words (cond d row.words (words_of rows id))
        skip true d h = refl
        skip false d h = ap (λ (b : Bool). cond b row.words (words_of rows id)) (sym h)
    by false false e rest =
        ap (cond (row.id == id) row.words) rest
        ∙ turn (row.id == id) (new.id == id) (λ p q. eqb-false row.id new.id e (eqb-true row.id id p ∙ sym (eqb-true new.id id q))) row.words new.words (words_of rows id)

-- where one has been taken out
pub count_of-without_row : (rows : List Counted) (gone id : ℕ) → count_of (without_row rows gone) id ≡ cond (gone == id) 0 (count_of rows id)
count_of-without_row [] gone id = none (gone == id) 0
  where
    none : (c : Bool) (n : ℕ) → n ≡ cond c n n
    none true n = refl
    none false n = refl
count_of-without_row (row ∷ rows) gone id = by (row.id == gone) refl (count_of-without_row rows gone id)
  where
    rest : List Counted
    rest = without_row rows gone

    by : (c : Bool) → (row.id == gone) ≡ c → count_of rest id ≡ cond (gone == id) 0 (count_of rows id)
        → count_of (cond (not c) (row ∷ rest) rest) id ≡ cond (gone == id) 0 (cond (row.id == id) row.count (count_of rows id))
    by true e h = h ∙ skip (gone == id) (row.id == id) (ap (λ (k : ℕ). k == id) (eqb-true row.id gone e))
      where
        skip : (c d : Bool) → d ≡ c → cond c 0 (count_of rows id) ≡ cond c 0 (cond d row.count (count_of rows id))
        skip true d h = refl
        skip false d h = ap (λ (b : Bool). cond b row.count (count_of rows id)) (sym h)
    by false e h = ap (cond (row.id == id) row.count) h ∙ turn (row.id == id) (gone == id) (λ p q. eqb-false row.id gone e (eqb-true row.id id p ∙ sym (eqb-true gone id q)))
      where
        turn : (c d : Bool) → (c ≡ true → d ≡ true → ⊥) → cond c row.count (cond d 0 (count_of rows id)) ≡ cond d 0 (cond c row.count (count_of rows id))
        turn true true h = absurd (h refl refl)
        turn true false h = refl
        turn false d h = refl

-- the words of another row, where one has been taken out
pub words_of-without_row : (rows : List Counted) (gone id : ℕ) → (gone ≡ id → ⊥) → words_of (without_row rows gone) id ≡ words_of rows id
words_of-without_row [] gone id other = refl
words_of-without_row (row ∷ rows) gone id other = by (row.id == gone) refl (words_of-without_row rows gone id other)
  where
    rest : List Counted
    rest = without_row rows gone

    by : (c : Bool) → (row.id == gone) ≡ c → words_of rest id ≡ words_of rows id → words_of (cond (not c) (row ∷ rest) rest) id ≡ cond (row.id == id) row.words (words_of rows id)
    by true e h = h ∙ sym (ap (λ (b : Bool). cond b row.words (words_of rows id)) (ne_eqb row.id id (λ (p : row.id ≡ id). other (sym (eqb-true row.id gone e) ∙ p))))
    by false e h = ap (cond (row.id == id) row.words) h

-- a row below all others isn't among them
count_of-below : (rows : List Counted) (from id : ℕ) → AreRows from rows → id < from → count_of rows id ≡ 0
count_of-below [] from id are le = refl
count_of-below (row ∷ rows) from id are le =
    ap (λ (b : Bool). cond b row.count (count_of rows id)) (ne_eqb row.id id (λ e. omega (arith, e, le, are.0)))
    ∙ count_of-below rows (row.id + 1) id are.3 (omega (arith, le, are.0))

-- one row more, where a new one is put in
pub length-with_row_new : (rows : List Counted) (from : ℕ) (new : Counted) → AreRows from rows → count_of rows new.id ≡ 0 → length (with_row rows new) ≡ length rows + 1
length-with_row_new [] from new are none = refl
length-with_row_new (row ∷ rows) from new are none = by (nat_lt new.id row.id) (row.id == new.id) none (λ e. length-with_row_new rows (row.id + 1) new are.3 e)
  where
    by : (less same : Bool) → cond same row.count (count_of rows new.id) ≡ 0 → (count_of rows new.id ≡ 0 → length (with_row rows new) ≡ length rows + 1)
        → length (cond less (new ∷ row ∷ rows) (cond same (new ∷ rows) (row ∷ with_row rows new))) ≡ length (row ∷ rows) + 1
    by true same e rest = omega arith
    by false true e rest = absurd (omega (arith, e, are.1))
    by false false e rest = (let more = rest e in omega (arith, more))

-- as many, where a live one is put in
pub length-with_row_live : (rows : List Counted) (from : ℕ) (new : Counted) → AreRows from rows → 0 < count_of rows new.id → length (with_row rows new) ≡ length rows
length-with_row_live [] from new are some = absurd (omega arith)
length-with_row_live (row ∷ rows) from new are some =
    by (nat_lt new.id row.id) (row.id == new.id) refl refl some (λ h. length-with_row_live rows (row.id + 1) new are.3 h)
  where
    by : (less same : Bool) → nat_lt new.id row.id ≡ less → (row.id == new.id) ≡ same → 0 < cond same row.count (count_of rows new.id)
        → (0 < count_of rows new.id → length (with_row rows new) ≡ length rows)
        → length (cond less (new ∷ row ∷ rows) (cond same (new ∷ rows) (row ∷ with_row rows new))) ≡ length (row ∷ rows)
    by true true l e h rest = absurd (let less = ltb-true new.id row.id l in let at = eqb-true row.id new.id e in omega (arith, less, at))
    by true false l e h rest =
        absurd (let less = ltb-true new.id row.id l in let none = count_of-below rows (row.id + 1) new.id are.3 (omega (arith, less)) in omega (arith, none, h))
    by false true l e h rest = refl
    by false false l e h rest = (let more = rest h in omega (arith, more))

-- one row less, where a live one is taken out
pub length-without_row : (rows : List Counted) (from id : ℕ) → AreRows from rows → 0 < count_of rows id → length (without_row rows id) + 1 ≡ length rows
length-without_row [] from id are some = absurd (omega arith)
length-without_row (row ∷ rows) from id are some = by (row.id == id) refl some (λ h. length-without_row rows (row.id + 1) id are.3 h)
  where
    rest : List Counted
    rest = without_row rows id

    by : (c : Bool) → (row.id == id) ≡ c → 0 < cond c row.count (count_of rows id) → (0 < count_of rows id → length rest + 1 ≡ length rows)
        → length (cond (not c) (row ∷ rest) rest) + 1 ≡ length (row ∷ rows)
    by true e h more = (let at = eqb-true row.id id e in let all = untouched rows (row.id + 1) are.3 (omega (arith, at)) in omega (arith, all))
      where
        untouched : (rows : List Counted) (from : ℕ) → AreRows from rows → id < from → length (without_row rows id) ≡ length rows
        untouched [] from are le = refl
        untouched (other ∷ rows) from are le =
            ap (λ (b : Bool). length (cond (not b) (other ∷ without_row rows id) (without_row rows id))) (ne_eqb other.id id (λ e. omega (arith, e, le, are.0)))
            ∙ (let kept = untouched rows (other.id + 1) are.3 (omega (arith, le, are.0)) in let more : length (other ∷ without_row rows id) ≡ length (other ∷ rows) = omega (arith, kept) in more)
    by false e h more = (let less = more h in omega (arith, less))
