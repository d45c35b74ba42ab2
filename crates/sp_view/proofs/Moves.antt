-- How many rows a set moves that grows, pair by pair.
use Rattle.std.proofs.Common.{◌≡◌, ◌≢◌, ℕ, zero, suc, ◌+◌, ◌*◌, ◌≤◌, Bool, true, false, cond, ◌&&◌, List, [], ◌∷◌, length, take, Option, Some, None, refl, sym, ap, subst, ◌∙◌, eqb, arith}
use Rattle.std.specs.Prelude.{filter, slice_get}
use Rattle.std.proofs.lemmas.Bool.{eq-eqb, and_parts, and_from, false_from_ne_true}
use Rattle.sp_bits.specs.Places.{IsRow}
use Rattle.sp_bits.proofs.RowSets.{filter_row}
use Rattle.sp_model.specs.Graph.{Graph, has}
use Rattle.sp_model.specs.Loose.{is_loose, is_plus, is_minus, plus, minus}
use Rattle.sp_model.specs.Votes.{vote}
use Rattle.sp_rows.specs.Pool.{Pool}
use Rattle.sp_view.specs.Views.{IsEntry, KeepIds, moved_of}
use Rattle.sp_view.specs.Moving.{is_same, changes_of, moves_of, moved_rows}
use Rattle.sp_view.proofs.Members.{is_row}
use Rattle.sp_view.proofs.SameRows.{rows_within, within_same}

-- the members of a row that pass a test are a row
pub side_row : (set : List ℕ) (test : ℕ → Bool) → IsRow set → IsRow (filter test set)
side_row set test row = subst IsRow (sym (filter_row set test row)) (is_row (λ z. has set z && test z))

same_rows : (one other : List ℕ) → IsRow one → IsRow other → is_same one other ≡ true → one ≡ other
unfolding is_same
same_rows one other row row' h = (let both = and_parts _ _ h in rows_within one other row row' both.0 both.1)

same_from : (one other : List ℕ) → one ≡ other → is_same one other ≡ true
unfolding is_same
same_from one other e = and_from _ _ (within_same one other e) (within_same other one (sym e))

differ_from : (one other : List ℕ) → IsRow one → IsRow other → one ≢ other → is_same one other ≡ false
differ_from one other row row' ne = false_from_ne_true (is_same one other) (λ h. ne (same_rows one other row row' h))

-- the ids that an entry keeps bound what it moves
pub moved_by : (same same' : Bool) (b a b' a' : ℕ) → (same ≡ true → a ≡ b) → (same' ≡ true → a' ≡ b')
    → cond (eqb a b) 0 1 + cond (eqb a' b') 0 1 ≤ cond same 0 1 + cond same' 0 1
moved_by same same' b a b' a' keep keep' = (let one = at same a b keep in let two = at same' a' b' keep' in omega (arith, one, two))
  where
    at : (same : Bool) (a b : ℕ) → (same ≡ true → a ≡ b) → cond {A = ℕ} (eqb a b) 0 1 ≤ cond {A = ℕ} same 0 1
    at true a b keep = rw (eq-eqb a b (keep refl)) (omega arith)
    at false a b keep = few (eqb a b)
      where
        few : (c : Bool) → cond {A = ℕ} c 0 1 ≤ 1
        few true = omega arith
        few false = omega arith

pub moved_few : (before after : Option (ℕ × ℕ)) → moved_of before after ≤ 2
moved_few None None = omega arith
moved_few (Some b) None = omega arith
moved_few None (Some a) = omega arith
moved_few (Some b) (Some a) = few (eqb a.0 b.0) (eqb a.1 b.1)
  where
    few : (p q : Bool) → cond {A = ℕ} p 0 1 + cond q 0 1 ≤ 2
    few true true = omega arith
    few true false = omega arith
    few false true = omega arith
    few false false = omega arith

pub moved_itself : (entry : Option (ℕ × ℕ)) → moved_of entry entry ≡ 0
moved_itself None = refl
moved_itself (Some e) = rw (eq-eqb e.0 e.0 refl, eq-eqb e.1 e.1 refl) refl

module _ (g : Graph) (set more : List ℕ) (x y : ℕ) (row : IsRow set) (row' : IsRow more) where
  plus_row : IsRow (plus g set x y)
  plus_row = side_row set (λ z. is_loose g z x y && is_plus (vote g set z x y)) row

  plus_row' : IsRow (plus g more x y)
  plus_row' = side_row more (λ z. is_loose g z x y && is_plus (vote g more z x y)) row'

  minus_row : IsRow (minus g set x y)
  minus_row = side_row set (λ z. is_loose g z x y && is_minus (vote g set z x y)) row

  minus_row' : IsRow (minus g more x y)
  minus_row' = side_row more (λ z. is_loose g z x y && is_minus (vote g more z x y)) row'

  pub first_changes : plus g set x y ≢ plus g more x y → 1 ≤ changes_of g set more x y
  unfolding changes_of
  first_changes ne = rw (differ_from _ _ plus_row plus_row' ne) (omega arith)

  pub second_changes : minus g set x y ≢ minus g more x y → 1 ≤ changes_of g set more x y
  unfolding changes_of
  second_changes ne = rw (differ_from _ _ minus_row minus_row' ne) (omega arith)

  pub both_change : plus g set x y ≢ plus g more x y → minus g set x y ≢ minus g more x y → 2 ≤ changes_of g set more x y
  unfolding changes_of
  both_change ne ne' = rw (differ_from _ _ plus_row plus_row' ne, differ_from _ _ minus_row minus_row' ne') (omega arith)

  pub none_change : plus g set x y ≡ plus g more x y → minus g set x y ≡ minus g more x y → changes_of g set more x y ≡ 0
  unfolding changes_of
  none_change e e' = rw (same_from _ _ e, same_from _ _ e') refl

  pub moved_changes : (b a : ℕ × ℕ) → KeepIds g set more x y (Some b) (Some a) → moved_of (Some b) (Some a) ≤ changes_of g set more x y
  unfolding changes_of
  moved_changes b a keep =
      moved_by (is_same (plus g set x y) (plus g more x y)) (is_same (minus g set x y) (minus g more x y)) b.0 a.0 b.1 a.1
      (λ h. keep.0 (same_rows _ _ plus_row plus_row' h)) (λ h. keep.1 (same_rows _ _ minus_row minus_row' h))

  pub changes_few : changes_of g set more x y ≤ 2
  unfolding changes_of
  changes_few = few (is_same (plus g set x y) (plus g more x y)) (is_same (minus g set x y) (minus g more x y))
    where
      few : (p q : Bool) → cond {A = ℕ} p 0 1 + cond q 0 1 ≤ 2
      few true true = omega arith
      few true false = omega arith
      few false true = omega arith
      few false false = omega arith

-- what an old pair moves, and a new one
pub moves_old : (g : Graph) (set more : List ℕ) (x y : ℕ) → (has set x && has set y) ≡ true → moves_of g set more x y ≡ changes_of g set more x y
moves_old g set more x y h = rw h refl

pub moves_new : (g : Graph) (set more : List ℕ) (x y : ℕ) (b : Bool) → (has set x && has set y) ≡ false → (has more x && has more y) ≡ b → moves_of g set more x y ≡ cond b 2 0
moves_new g set more x y b h k = rw (h, k) refl

-- one pair more of the first ones
pub moved_take : (g : Graph) (set more : List ℕ) (pairs : List (ℕ × ℕ)) (i x y : ℕ) → slice_get pairs i ≡ Some (x, y)
    → moved_rows g set more (take (i + 1) pairs) ≡ moved_rows g set more (take i pairs) + moves_of g set more x y
moved_take g set more [] i x y at = cc
moved_take g set more (p ∷ ps) zero x y at = ap (λ (q : ℕ × ℕ). moves_of g set more q.0 q.1 + 0) same ∙ (omega arith)
  where
    same : p ≡ (x, y)
    same = (cc)
moved_take g set more (p ∷ ps) (suc i) x y at =
    (let next : suc i + 1 ≡ suc (i + 1) = omega arith in
    let rest : moved_rows g set more (take (i + 1) ps) ≡ moved_rows g set more (take i ps) + moves_of g set more x y = moved_take g set more ps i x y at in
    rw next (omega (arith, rest)))

pub moved_take_le : (g : Graph) (set more : List ℕ) (pairs : List (ℕ × ℕ)) (i : ℕ) → moved_rows g set more (take i pairs) ≤ moved_rows g set more pairs
moved_take_le g set more pairs zero = omega arith
moved_take_le g set more [] (suc i) = omega arith
moved_take_le g set more (p ∷ ps) (suc i) = (let rest = moved_take_le g set more ps i in omega (arith, rest))

-- each pair moves two rows at most
pub all_moved_few : (g : Graph) (set more : List ℕ) (pairs : List (ℕ × ℕ)) → IsRow set → IsRow more → moved_rows g set more pairs ≤ 2 * length pairs
all_moved_few g set more [] row row' = omega arith
all_moved_few g set more (p ∷ ps) row row' =
    at (has set p.0 && has set p.1) (has more p.0 && has more p.1) (changes_of g set more p.0 p.1) (changes_few g set more p.0 p.1 row row') (all_moved_few g set more ps row row')
  where
    at : (s m : Bool) (c : ℕ) → c ≤ 2 → moved_rows g set more ps ≤ 2 * length ps → cond s c (cond m 2 0) + moved_rows g set more ps ≤ 2 * suc (length ps)
    at true m c few rest = omega (arith, few, rest)
    at false true c few rest = omega (arith, rest)
    at false false c few rest = omega (arith, rest)

pub take_whole : {A : Type 0} (xs : List A) (i : ℕ) → length xs ≤ i → take i xs ≡ xs
take_whole [] zero h = refl
take_whole [] (suc i) h = refl
take_whole (x ∷ xs) zero h = absurd (omega arith)
take_whole (x ∷ xs) (suc i) h = ap (λ l. x ∷ l) (take_whole xs i (omega arith))

-- an entry moves no more rows than its pair
pub moved_moves : (g : Graph) (set more : List ℕ) (x y : ℕ) (pool pool' : Pool) (before after : Option (ℕ × ℕ)) → IsRow set → IsRow more
    → IsEntry g set x y pool before → IsEntry g more x y pool' after → KeepIds g set more x y before after → moved_of before after ≤ moves_of g set more x y
moved_moves g set more x y pool pool' (Some b) (Some a) row row' is is' keep =
    omega (arith, moves_old g set more x y is.0, moved_changes g set more x y row row' b a keep)
moved_moves g set more x y pool pool' None (Some a) row row' is is' keep = omega (arith, moves_new g set more x y true is is'.0)
moved_moves g set more x y pool pool' None None row row' is is' keep = omega arith
moved_moves g set more x y pool pool' (Some b) None row row' is is' keep = omega arith

-- whether a name is another one
pub kept_id : {a b : ℕ} → a ≡ b → cond {A = ℕ} (eqb a b) 0 1 ≡ 0
kept_id {a} {b} same = rw (eq-eqb a b same) refl

pub moved_id : (c : Bool) → cond {A = ℕ} c 0 1 ≤ 1
moved_id true = omega arith
moved_id false = omega arith
