-- One of some views is let go.
use Rattle.std.proofs.Common.{◌≡◌, ℕ, zero, suc, ◌+◌, ◌<◌, ◌≤◌, Bool, true, false, cond, List, [], ◌∷◌, ◌++◌, length, get_or, take, drop, refl, sym, ap, subst, ◌∙◌, arith}
use Rattle.std.specs.Prelude.{filter}
use Rattle.std.proofs.Math.Seq.{drop-append_seam, take-append_seam}
use Rattle.sp_dag.specs.Numbered.{Numbered}
use Rattle.sp_rows.specs.Pool.{Pool}
use Rattle.sp_view.specs.Stored.{count_of, row_of}
use Rattle.sp_view.specs.Views.{Viewed, held}
use Rattle.sp_engine.specs.Votes.{held_by, AreViews}
use Rattle.sp_engine.proofs.Sharing.{views_move}

held_rest : (xs : List Viewed) (i : ℕ) (d : Viewed) (r : ℕ) → i < length xs → held_by xs r ≡ held_by (take i xs ++ drop (suc i) xs) r + held (get_or xs i d).entries r
held_rest [] i d r lt = absurd (omega (arith, lt))
held_rest (v ∷ vs) zero d r lt = omega arith
held_rest (v ∷ vs) (suc i) d r lt = (let rest = held_rest vs i d r (omega (arith, lt)) in omega (arith, rest))

views_rest : (table : Numbered) (pool : Pool) (n : ℕ) (xs : List Viewed) (i : ℕ) → AreViews table pool n xs → AreViews table pool n (take i xs ++ drop (suc i) xs)
views_rest table pool n [] zero are = tt
views_rest table pool n [] (suc i) are = tt
views_rest table pool n (v ∷ vs) zero are = are.2
views_rest table pool n (v ∷ vs) (suc i) are = (are.0, are.1, views_rest table pool n vs i are.2)

one_more : (xs : List Viewed) (i : ℕ) (new : List Viewed) → new ≡ take i xs ++ drop (i + 1) xs → new ≡ take i xs ++ drop (suc i) xs
one_more xs i new is = is ∙ ap (λ (k : ℕ). take i xs ++ drop k xs) (let e : i + 1 ≡ suc i = omega arith in e)

module _ (xs new : List Viewed) (i : ℕ) (d : Viewed) (is : new ≡ take i xs ++ drop (i + 1) xs) (lt : i < length xs) where
  -- its rows are held by one less
  pub held_without : (r : ℕ) → held_by xs r ≡ held_by new r + held (get_or xs i d).entries r
  held_without r = held_rest xs i d r lt ∙ ap (λ (l : List Viewed). held_by l r + held (get_or xs i d).entries r) (sym (one_more xs i new is))

  -- the others stay
  pub views_without : (table : Numbered) (pool pool' : Pool) (n : ℕ) → ((r : ℕ) → held_by new r ≤ count_of pool' r)
      → ((r : ℕ) → 0 < held_by new r → row_of pool' r ≡ row_of pool r) → AreViews table pool n xs → AreViews table pool' n new
  views_without table pool pool' n counts rows are =
      views_move table pool n pool' new counts rows (subst (λ (l : List Viewed). AreViews table pool n l) (sym (one_more xs i new is)) (views_rest table pool n xs i are))

-- ---- those that pass a test, up to a place and behind it

module _ (test : Viewed → Bool) where
  -- the next one passes
  next_passes : (xs : List Viewed) (i : ℕ) (d : Viewed) → i < length xs → test (get_or xs i d) ≡ true
      → take i xs ++ filter test (drop i xs) ≡ take (suc i) xs ++ filter test (drop (suc i) xs)
  next_passes [] i d lt e = absurd (omega (arith, lt))
  next_passes (v ∷ vs) zero d lt e = ap (λ (b : Bool). cond b (v ∷ filter test vs) (filter test vs)) e
  next_passes (v ∷ vs) (suc i) d lt e = ap (λ (l : List Viewed). v ∷ l) (next_passes vs i d (omega (arith, lt)) e)

  -- the next one doesn't, and is taken out
  next_fails : (xs : List Viewed) (i : ℕ) (d : Viewed) → i < length xs → test (get_or xs i d) ≡ false
      → take i xs ++ filter test (drop i xs) ≡ take i (take i xs ++ drop (suc i) xs) ++ filter test (drop i (take i xs ++ drop (suc i) xs))
  next_fails [] i d lt e = absurd (omega (arith, lt))
  next_fails (v ∷ vs) zero d lt e = ap (λ (b : Bool). cond b (v ∷ filter test vs) (filter test vs)) e
  next_fails (v ∷ vs) (suc i) d lt e = ap (λ (l : List Viewed). v ∷ l) (next_fails vs i d (omega (arith, lt)) e)

  pub goes_on : (left xs : List Viewed) (i : ℕ) (d : Viewed) → i < length xs → test (get_or xs i d) ≡ true → left ≡ take i xs ++ filter test (drop i xs)
      → left ≡ take (i + 1) xs ++ filter test (drop (i + 1) xs)
  goes_on left xs i d lt e h = h ∙ next_passes xs i d lt e ∙ ap (λ (k : ℕ). take k xs ++ filter test (drop k xs)) (let s : suc i ≡ i + 1 = omega arith in s)

  pub without_it : (left xs new : List Viewed) (i : ℕ) (d : Viewed) → new ≡ take i xs ++ drop (i + 1) xs → i < length xs → test (get_or xs i d) ≡ false
      → left ≡ take i xs ++ filter test (drop i xs) → left ≡ take i new ++ filter test (drop i new)
  without_it left xs new i d is lt e h =
      h ∙ next_fails xs i d lt e ∙ ap (λ (l : List Viewed). take i l ++ filter test (drop i l)) (sym (one_more xs i new is))

  pub at_end : (left xs : List Viewed) (i : ℕ) → length xs ≤ i → left ≡ take i xs ++ filter test (drop i xs) → xs ≡ left
  at_end left xs i le h = sym (h ∙ ended xs i le)
    where
      ended : (xs : List Viewed) (i : ℕ) → length xs ≤ i → take i xs ++ filter test (drop i xs) ≡ xs
      ended [] zero le = refl
      ended [] (suc i) le = refl
      ended (v ∷ vs) zero le = absurd (omega (arith, le))
      ended (v ∷ vs) (suc i) le = ap (λ (l : List Viewed). v ∷ l) (ended vs i (omega (arith, le)))

  -- at first none behind a front was looked at
  pub at_first : (front back xs : List Viewed) (i : ℕ) → i ≡ length front → xs ≡ front ++ back → front ++ filter test back ≡ take i xs ++ filter test (drop i xs)
  at_first front back xs i at is =
      sym (ap (λ (l : List Viewed). take i l ++ filter test (drop i l)) is ∙ ap (λ (k : ℕ). take k (front ++ back) ++ filter test (drop k (front ++ back))) at
      ∙ ap (λ (l : List Viewed). l ++ filter test (drop (length front) (front ++ back))) (take-append_seam front back)
      ∙ ap (λ (l : List Viewed). front ++ filter test l) (drop-append_seam front back))
