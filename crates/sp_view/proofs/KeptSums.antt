-- Sums that are kept pair by pair, while a block joins the set and where it stays.
use Rattle.std.proofs.Common.{◌≡◌, ◌≢◌, ◌⊎◌, ℕ, zero, suc, ◌+◌, ◌<◌, ◌≤◌, ◌&&◌, true, cond, List, [], ◌∷◌, ◌++◌, get_or, length, Option, Some, None, sym, ap, subst, ◌∙◌, ltb, inl, inr, arith}
use Rattle.std.specs.Prelude.{ℤ, pos, slice_get}
use Rattle.std.proofs.lemmas.Option.{get_or_from_slice_get, slice_get-get_or, slice_get_within}
use Rattle.std.proofs.lemmas.Bool.{and_parts, cases_eq, cases_lt, lt-ltb, le-ltb}
use Rattle.sp_dag.specs.Numbered.{AreInOrder, IsNumbered, Numbered, graph_of, pairs_of, with_next}
use Rattle.sp_frozen.proofs.Growth.{pair_before, vote_stays}
use Rattle.sp_model.specs.Graph.{Graph, has}
use Rattle.sp_model.specs.Votes.{sgn, virt}
use Rattle.sp_model.proofs.Sets.{total_same}
use Rattle.sp_view.specs.Settled.{IsAsked}
use Rattle.sp_view.specs.Summed.{AreRight, AreSums, IsSum}
use Rattle.sp_view.specs.Sums.{sum_of}
use Rattle.sp_view.proofs.Gains.{virt_sum}
use Rattle.sp_view.proofs.Members.{row_distinct}

-- no sums are right
pub none_right : (table : Numbered) (set : List ℕ) → AreRight table set []
none_right table set zero x y at = tt
none_right table set (suc i) x y at = tt

-- the sums up to i are those of the one set, and the others those of the other one
abbrev pub AreSumsTo : Numbered → List ℕ → List ℕ → ℕ → List ℤ → Type 0
AreSumsTo table before more i sums = (j x y : ℕ) → slice_get (pairs_of table) j ≡ Some (x, y) → IsSum (graph_of table) (cond (ltb j i) more before) x y (slice_get sums j)

-- one sum more
pub sums_step : (table : Numbered) (before more : List ℕ) (i : ℕ) (sums sums' : List ℤ) → ((j : ℕ) → j ≢ i → slice_get sums' j ≡ slice_get sums j)
    → ((x y : ℕ) → slice_get (pairs_of table) i ≡ Some (x, y) → IsSum (graph_of table) more x y (slice_get sums' i))
    → AreSumsTo table before more i sums → AreSumsTo table before more (i + 1) sums'
sums_step table before more i sums sums' others turned known j x y at =
    elim (cases_eq j i) [
      | inl same ↦ rw (lt-ltb j (i + 1) (omega (arith, same)), same) (turned x y (ap (slice_get (pairs_of table)) (sym same) ∙ at))
      | inr other ↦ elsewhere other (cases_lt j i)
    ]
  where
    elsewhere : j ≢ i → (j < i) ⊎ (i ≤ j) → IsSum (graph_of table) (cond (ltb j (i + 1)) more before) x y (slice_get sums' j)
    elsewhere other side =
        let tests : ltb j (i + 1) ≡ ltb j i = elim side [
          | inl less ↦ lt-ltb j (i + 1) (omega arith) ∙ sym (lt-ltb j i less)
          | inr le ↦ le-ltb j (i + 1) (omega arith) ∙ sym (le-ltb j i le)
        ] in
        rw (tests, others j other) (known j x y at)

-- what is said only of a pair inside may be shown for one
pub inside_sum : (g : Graph) (set : List ℕ) (x y : ℕ) (sum : Option ℤ) → ((has set x && has set y) ≡ true → IsSum g set x y sum) → IsSum g set x y sum
inside_sum g set x y None h = tt
inside_sum g set x y (Some sum) h = λ inside. h inside inside

-- more sums behind
pub sums_longer : (table : Numbered) (set : List ℕ) (sums sums' : List ℤ) → length sums ≤ length sums' → ((i : ℕ) → i < length sums → slice_get sums' i ≡ slice_get sums i) → AreSums table set sums
    → AreSums table set sums'
sums_longer table set sums sums' more same are = record {
  right = λ i x y at.
      inside_sum (graph_of table) set x y (slice_get sums' i) (λ inside.
      subst (λ (o : Option ℤ). IsSum (graph_of table) set x y o) (sym (same i (are.long i x y at inside))) (are.right i x y at));
  long = λ i x y at inside. (let lt : i < length sums = are.long i x y at inside in omega (arith, lt, more));
}

-- as many as there are pairs
pub sums_all : (table : Numbered) (set : List ℕ) (sums : List ℤ) → length (pairs_of table) ≤ length sums → AreRight table set sums → AreSums table set sums
sums_all table set sums enough right = record {
  right = right;
  long = λ i x y at inside. (let lt : i < length (pairs_of table) = slice_get_within (pairs_of table) i (x, y) at in omega (arith, lt, enough));
}

-- one block more in the graph, beside the set
pub sums_stay : (table : Numbered) (id salt : ℕ) (ps : List ℕ) (set : List ℕ) (sums : List ℤ) → IsNumbered table → AreInOrder (table.parents ++ ps ∷ []) → IsAsked (graph_of table) set
    → ((z : ℕ) → has set z ≡ true → z < length table.parents) → AreSums table set sums → AreSums (with_next table id salt ps) set sums
sums_stay table id salt ps set sums numbered order' asked below are = record {
  right = λ i x y at.
      inside_sum (graph_of more) set x y (slice_get sums i) (λ inside.
      moved x y (slice_get sums i) (are.right i x y (before i x y at inside)));
  long = λ i x y at inside. are.long i x y (before i x y at inside) inside;
}
  where
    more : Numbered
    more = with_next table id salt ps

    before : (i x y : ℕ) → slice_get (pairs_of more) i ≡ Some (x, y) → (has set x && has set y) ≡ true → slice_get (pairs_of table) i ≡ Some (x, y)
    before i x y at inside = elim (pair_before table id salt ps numbered order' i x y at) [
      | inl old ↦ old
      | inr new ↦ absurd (let lt : y < length table.parents = below y (and_parts (has set x) (has set y) inside).1 in omega (arith, lt, new.1))
    ]

    moved : (x y : ℕ) (o : Option ℤ) → IsSum (graph_of table) set x y o → IsSum (graph_of more) set x y o
    moved x y None is = tt
    moved x y (Some sum) is = λ inside.
        is inside
        ∙ sym (total_same _ _ set (λ z member. vote_stays table id salt ps numbered order' set z x y below asked.down (row_distinct set asked.row) member))

-- each sum of a pair inside, and what its sign says
pub sum_there : (table : Numbered) (set : List ℕ) (sums : List ℤ) (i x y : ℕ) → AreSums table set sums → slice_get (pairs_of table) i ≡ Some (x, y) → (has set x && has set y) ≡ true
    → slice_get sums i ≡ Some (sum_of (graph_of table) set x y)
sum_there table set sums i x y are at inside =
    let some : slice_get sums i ≡ Some (get_or sums i (pos 0)) = slice_get-get_or sums i (pos 0) (are.long i x y at inside) in
    some ∙ ap (λ (z : ℤ). Some z) (subst (λ (o : Option ℤ). IsSum (graph_of table) set x y o) some (are.right i x y at) inside)

pub sign_there : (table : Numbered) (set : List ℕ) (sums : List ℤ) (i x y : ℕ) → AreSums table set sums → slice_get (pairs_of table) i ≡ Some (x, y) → (has set x && has set y) ≡ true
    → sgn (get_or sums i (pos 0)) ≡ virt (graph_of table) set x y
sign_there table set sums i x y are at inside =
    ap sgn (get_or_from_slice_get sums i (sum_of (graph_of table) set x y) (pos 0) (sum_there table set sums i x y are at inside)) ∙ sym (virt_sum (graph_of table) set x y)
