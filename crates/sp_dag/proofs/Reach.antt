-- The row of a past from the rows of the parents.
use Rattle.std.proofs.Common.{◌≡◌, ℕ, ◌+◌, ◌<◌, Bool, true, false, ◌||◌, List, [], length, take, get_or, refl, sym, ap, ◌∙◌, eqb}
use Rattle.std.proofs.lemmas.List.Folds.{list_any_more}
use Rattle.sp_bits.specs.Places.{has, places_where}
use Rattle.sp_bits.specs.Members.{has-places_where}
use Rattle.sp_bits.proofs.Sets.{places_same}
use Rattle.sp_dag.specs.Rows.{is_reached}
use Rattle.sp_dag.proofs.Bools.{eqb_flip}

turned : (a b c : Bool) → ((a || b) || c) ≡ (a || (c || b))
turned true b c = refl
turned false true true = refl
turned false true false = refl
turned false false true = refl
turned false false false = refl

-- one more parent
pub reached_more : (pasts : List (List ℕ)) (parents : List ℕ) (i p : ℕ) (row with_past with_parent past : List ℕ) → i < length parents → p ≡ get_or parents i 0 → past ≡ get_or pasts p []
    → row ≡ places_where (is_reached pasts (take i parents)) → with_past ≡ places_where (λ k. has row k || has past k) → with_parent ≡ places_where (λ k. has with_past k || eqb k p)
    → with_parent ≡ places_where (is_reached pasts (take (i + 1) parents))
reached_more pasts parents i p row with_past with_parent past within parent its before first second =
    second ∙ places_same (λ k. has with_past k || eqb k p) (is_reached pasts (take (i + 1) parents)) each
  where
    each : (k : ℕ) → k < 512 → (has with_past k || eqb k p) ≡ is_reached pasts (take (i + 1) parents) k
    each k le =
        let one : has with_past k ≡ (has row k || has past k) = ap (λ (l : List ℕ). has l k) first ∙ has-places_where (λ k. has row k || has past k) k le in
        let old : has row k ≡ is_reached pasts (take i parents) k = ap (λ (l : List ℕ). has l k) before ∙ has-places_where (is_reached pasts (take i parents)) k le in
        let more = list_any_more (λ p. eqb p k || has (get_or pasts p []) k) parents i 0 within in
        let here : (eqb p k || has past k) ≡ (eqb (get_or parents i 0) k || has (get_or pasts (get_or parents i 0) []) k) =
        ap (λ (l : List ℕ). eqb p k || has l k) its ∙ ap (λ (q : ℕ). eqb q k || has (get_or pasts q []) k) parent in
        ap (λ (c : Bool). c || eqb k p) one ∙ ap (λ (c : Bool). (c || has past k) || eqb k p) old ∙ turned (is_reached pasts (take i parents) k) (has past k) (eqb k p)
        ∙ ap (λ (c : Bool). is_reached pasts (take i parents) k || (c || has past k)) (eqb_flip k p) ∙ ap (λ (c : Bool). is_reached pasts (take i parents) k || c) here ∙ sym more
