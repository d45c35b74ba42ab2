-- One of some views is replaced, and the last one stays behind those before it.
use Rattle.std.proofs.Common.{◌≡◌, ℕ, Bool, true, false, zero, suc, ◌+◌, ◌<◌, ◌≤◌, List, [], ◌∷◌, ◌++◌, length, get_or, set, take, drop, refl, ap, ◌∙◌, arith, length-append}
use Rattle.std.specs.Prelude.{not}
use Rattle.std.proofs.lemmas.Bool.{false≢true}
use Rattle.sp_dag.specs.Numbered.{Numbered}
use Rattle.sp_model.specs.Graph.{has}
use Rattle.sp_bits.specs.Places.{places_where}
use Rattle.sp_bits.specs.Words.{bit_in}
use Rattle.sp_rows.specs.Pool.{Counted, Pool, words_of}
use Rattle.sp_view.specs.Stored.{row_of}
use Rattle.sp_view.specs.Views.{Viewed, held}
use Rattle.sp_engine.specs.Votes.{AreViews, held_by}

pub held_at : (views : List Viewed) (k : ℕ) (d : Viewed) (r : ℕ) → k < length views → held (get_or views k d).entries r ≤ held_by views r
held_at [] k d r lt = absurd (omega (arith, lt))
held_at (v ∷ vs) zero d r lt = omega arith
held_at (v ∷ vs) (suc k) d r lt = (let rest = held_at vs k d r (omega (arith, lt)) in omega (arith, rest))

pub held_set : (views : List Viewed) (k : ℕ) (d new : Viewed) (r : ℕ) → k < length views → held_by (set views k new) r + held (get_or views k d).entries r ≡ held_by views r + held new.entries r
held_set [] k d new r lt = absurd (omega (arith, lt))
held_set (v ∷ vs) zero d new r lt = omega arith
held_set (v ∷ vs) (suc k) d new r lt = (let rest = held_set vs k d new r (omega (arith, lt)) in omega (arith, rest))

set_seam : (front : List Viewed) (last new : Viewed) → set (front ++ last ∷ []) (length front) new ≡ front ++ new ∷ []
set_seam [] last new = refl
set_seam (v ∷ vs) last new = ap (λ (l : List Viewed). v ∷ l) (set_seam vs last new)

pub last_is : (views front : List Viewed) (last d : Viewed) (k : ℕ) → views ≡ front ++ last ∷ [] → k + 1 ≡ length views → get_or views k d ≡ last
last_is views front last d k is at =
    let place : k ≡ length front = omega (arith, at, ap length is, length-append front (last ∷ [])) in
    ap (λ (i : ℕ). get_or views i d) place ∙ ap (λ (l : List Viewed). get_or l (length front) d) is ∙ seam front
  where
    seam : (front : List Viewed) → get_or (front ++ last ∷ []) (length front) d ≡ last
    seam [] = refl
    seam (v ∷ vs) = seam vs

pub set_last : (views front : List Viewed) (last new new' : Viewed) (k : ℕ) → views ≡ front ++ last ∷ [] → k + 1 ≡ length views → new ≡ new' → set views k new ≡ front ++ new' ∷ []
set_last views front last new new' k is at same =
    let place : k ≡ length front = omega (arith, at, ap length is, length-append front (last ∷ [])) in
    ap (λ (v : Viewed). set views k v) same ∙ ap (λ (i : ℕ). set views i new') place ∙ ap (λ (l : List Viewed). set l (length front) new') is ∙ set_seam front last new'

-- what stands between a front and what is behind goes by one
pub one_less : (front joined back : List Viewed) (now new : List Viewed) (place : ℕ) → place ≡ length front → now ≡ front ++ (joined ++ back) → place + length back < length now
    → new ≡ take place now ++ drop (place + 1) now → (rest : List Viewed) × (new ≡ front ++ (rest ++ back))
one_less front [] back now new place at is more new_is = absurd (omega (arith, at, more, ap length is, length-append front back))
one_less front (j ∷ joined) back now new place at is more new_is = (
  joined,
  new_is ∙ ap (λ (k : ℕ). take k now ++ drop (k + 1) now) at ∙ ap (λ (l : List Viewed). take (length front) l ++ drop (length front + 1) l) is
      ∙ ap (λ (l : List Viewed). l ++ drop (length front + 1) (front ++ (j ∷ (joined ++ back)))) (take_seam front (j ∷ (joined ++ back)))
      ∙ ap (λ (k : ℕ). front ++ drop k (front ++ (j ∷ (joined ++ back)))) (let e : length front + 1 ≡ suc (length front) = omega arith in e)
      ∙ ap (λ (l : List Viewed). front ++ l) (drop_seam front j (joined ++ back)),
)
  where
    take_seam : (front rest : List Viewed) → take (length front) (front ++ rest) ≡ front
    take_seam [] rest = refl
    take_seam (v ∷ vs) rest = ap (λ (l : List Viewed). v ∷ l) (take_seam vs rest)

    drop_seam : (front : List Viewed) (j : Viewed) (rest : List Viewed) → drop (suc (length front)) (front ++ j ∷ rest) ≡ rest
    drop_seam [] j rest = refl
    drop_seam (v ∷ vs) j rest = drop_seam vs j rest

-- nothing stands there any more
pub none_left : (front joined back : List Viewed) (now : List Viewed) (place : ℕ) → place ≡ length front → now ≡ front ++ (joined ++ back) → length now ≤ place + length back
    → now ≡ front ++ back
none_left front [] back now place at is less = is
none_left front (j ∷ joined) back now place at is less =
    absurd (omega (arith, at, less, ap length is, length-append front (j ∷ (joined ++ back)), length-append joined back))

-- each is of blocks of the table
pub below_at : (table : Numbered) (pool : Pool) (n : ℕ) (views : List Viewed) (i : ℕ) (d : Viewed) → AreViews table pool n views → i < length views → (z : ℕ) → has (get_or views i d).members z ≡ true → z < length table.parents
below_at table pool n [] i d are lt z h = absurd (omega (arith, lt))
below_at table pool n (v ∷ vs) zero d are lt z h = are.0.below z h
below_at table pool n (v ∷ vs) (suc i) d are lt z h = below_at table pool n vs i d are.2 (omega (arith, lt)) z h

pub not_covered : (b : Bool) → not b ≡ true → b ≡ false
not_covered true e = absurd (false≢true e)
not_covered false e = refl

-- the places come from the rows alone
pub same_row : (pool pool' : Pool) (r : ℕ) → pool'.rows ≡ pool.rows → row_of pool' r ≡ row_of pool r
unfolding row_of
same_row pool pool' r e = ap (λ (rows : List Counted). places_where (bit_in (words_of rows r))) e
