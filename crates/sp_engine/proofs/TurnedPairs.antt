-- Each pair of a smaller set on which all blocks vote otherwise stands among the changed ones.
use Rattle.std.proofs.Common.{◌≡◌, ◌≢◌, ℕ, zero, suc, ◌+◌, ◌<◌, ◌≤◌, true, false, List, [], ◌∷◌, length, map, sym, ap, subst, ◌∙◌, eqb, inl, inr, Some, arith}
use Rattle.std.specs.Prelude.{ℤ, Contains, not, slice_get, flat_map}
use Rattle.std.specs.List.{range_with_len}
use Rattle.std.proofs.lemmas.Bool.{and_from, cases_lt, eqb-true, false≢true, or_cases}
use Rattle.std.proofs.lemmas.List.Elements.{Contains-append_left, Contains-append_right}
use Rattle.std.proofs.lemmas.Option.{slice_get-get_or}
use Rattle.sp_model.specs.Graph.{Graph, has, related}
use Rattle.sp_model.specs.Votes.{sgn, virt}
use Rattle.sp_model.proofs.Sets.{has-filter_from}
use Rattle.sp_dag.specs.Numbered.{Numbered, graph_of, pairs_of, unrelated_below}
use Rattle.sp_dag.proofs.Ranked.{keys_are_numbers}
use Rattle.sp_view.specs.Summed.{AreSums}
use Rattle.sp_view.specs.Sums.{sum_of}
use Rattle.sp_view.proofs.Gains.{virt_sum}
use Rattle.sp_view.proofs.KeptSums.{sum_there}
use Rattle.sp_accept.specs.Acceptance.{first_blocks}
use Rattle.sp_accept.specs.Changes.{TellsChanges}
use Rattle.sp_engine.proofs.Ranges.{in_range}

-- ---- an unrelated pair is listed

in_map : (xs : List ℕ) (x y : ℕ) → has xs x ≡ true → Contains {X = ℕ × ℕ} (map (λ z. (z, y)) xs) (x, y)
in_map [] x y there = absurd (false≢true there)
in_map (z ∷ zs) x y there = elim (or_cases (eqb z x) (has zs x) there) [
  | inl same ↦ Contains-append_left ((z, y) ∷ []) (map (λ w. (w, y)) zs) (x, y) (0, omega arith, ap (λ (w : ℕ). (w, y)) (eqb-true z x same))
  | inr later ↦ Contains-append_right ((z, y) ∷ []) (map (λ w. (w, y)) zs) (x, y) (in_map zs x y later)
]

in_flat : (f : ℕ → List (ℕ × ℕ)) (a n y : ℕ) (pair : ℕ × ℕ) → a ≤ y → y < a + n → Contains (f y) pair → Contains (flat_map f (range_with_len a n)) pair
in_flat f a zero y pair low high there = absurd (omega (arith, low, high))
in_flat f a (suc n) y pair low high there = elim (cases_lt a y) [
  | inl less ↦ Contains-append_right (f a) (flat_map f (range_with_len (a + 1) n)) pair (in_flat f (a + 1) n y pair (omega (arith, less)) (omega (arith, high)) there)
  | inr le ↦ Contains-append_left (f a) (flat_map f (range_with_len (a + 1) n)) pair (subst (λ (k : ℕ). Contains (f k) pair) (let e : y ≡ a = omega (arith, low, le) in e) there)
]

pair_listed : (table : Numbered) (x y : ℕ) → x < y → y < length table.parents → related (graph_of table) x y ≡ false → (i : ℕ) × (slice_get (pairs_of table) i ≡ Some (x, y))
pair_listed table x y lt within apart =
    let row : has (unrelated_below (graph_of table) y) x ≡ true =
    has-filter_from (λ z. not (related (graph_of table) z y)) (range_with_len 0 y) x (in_range 0 y x (omega arith) (omega (arith, lt))) (ap not apart) in
    let there : Contains (pairs_of table) (x, y) =
    in_flat (λ w. map (λ z. (z, w)) (unrelated_below (graph_of table) w)) 0 (length table.parents) y (x, y) (omega arith) (omega (arith, within)) (in_map (unrelated_below (graph_of table) y) x y row) in
    (there.0, slice_get-get_or (pairs_of table) there.0 (x, y) there.1 ∙ ap Some there.2)

-- ---- so what is asked of the sums tells the changes

pub tells : (table : Numbered) (n : ℕ) (older set : List ℕ) (sums_before sums : List ℤ) (pairs : List (ℕ × ℕ)) → older ≡ first_blocks n → set ≡ range_with_len 0 (length table.parents)
    → ((z : ℕ) → has older z ≡ true → z < length table.parents) → AreSums table older sums_before → AreSums table set sums
    → ((i : ℕ) (a b : ℤ) (pair : ℕ × ℕ) → slice_get sums_before i ≡ Some a → slice_get sums i ≡ Some b → sgn a ≢ sgn b → slice_get (pairs_of table) i ≡ Some pair → Contains pairs pair)
    → TellsChanges table n pairs
tells table n older set sums_before sums pairs was now below summed_before summed found = λ x y lt under apart differ.
    let g : Graph = graph_of table in
    let before : (z : ℕ) → z < n → has older z ≡ true = λ z less. ap (λ (l : List ℕ). has l z) was ∙ in_range 0 n z (omega arith) (omega (arith, less)) in
    let there : (z : ℕ) → z < n → has set z ≡ true = λ z less. ap (λ (l : List ℕ). has l z) now ∙ in_range 0 (length table.parents) z (omega arith) (omega (arith, below z (before z less))) in
    let one = pair_listed table x y lt (below y (before y under)) apart in
    let low : x < n = omega (arith, lt, under) in
    let turned : sgn (sum_of g older x y) ≡ sgn (sum_of g set x y) → ⊥ =
    λ e. differ (
    ap (λ (l : List ℕ). virt g l x y) (sym was) ∙ virt_sum g older x y ∙ e ∙ sym (virt_sum g set x y) ∙ ap (λ (l : List ℕ). virt g l x y) (now ∙ sym (keys_are_numbers table))
    ) in
    found one.0 (sum_of g older x y) (sum_of g set x y) (x, y)
    (sum_there table older sums_before one.0 x y summed_before one.1 (and_from (has older x) (has older y) (before x low) (before y under)))
    (sum_there table set sums one.0 x y summed one.1 (and_from (has set x) (has set y) (there x low) (there y under)))
    turned one.1
