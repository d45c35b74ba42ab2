-- The voters that are asked anew when several blocks join a set, by rows.
use Rattle.std.proofs.Common.{◌≡◌, ℕ, ◌<◌, Bool, true, false, ◌||◌, ◌&&◌, List, [], refl, sym, ap, ◌∙◌}
use Rattle.std.specs.Prelude.{not}
use Rattle.std.proofs.lemmas.Bool.{and_parts, and_from, not_from_false, or_left, or_right}
use Rattle.sp_bits.specs.Places.{difference, meet, places_where, union}
use Rattle.sp_bits.proofs.RowSets.{has_difference, has_places, has_union}
use Rattle.sp_model.specs.Graph.{Graph, IsDownset, has}
use Rattle.sp_model.specs.Loose.{is_loose}
use Rattle.sp_view.specs.Seen.{HasAbove}

-- the places that two rows share
pub meet_there : (one other both : List ℕ) (z : ℕ) → (has one z ≡ true → z < 512) → both ≡ meet one other → has one z ≡ true → has other z ≡ true → has both z ≡ true
meet_there one other both z small e h h' =
    ap (λ (l : List ℕ). has l z) e ∙ has_places (λ p. has one p && has other p) z (λ k. small (and_parts (has one z) (has other z) k).0) ∙ and_from (has one z) (has other z) h h'

pub meet_from : (one other both : List ℕ) (z : ℕ) → (has one z ≡ true → z < 512) → both ≡ meet one other → has both z ≡ true → (has one z ≡ true) × (has other z ≡ true)
meet_from one other both z small e h =
    and_parts (has one z) (has other z)
    (sym (ap (λ (l : List ℕ). has l z) e ∙ has_places (λ p. has one p && has other p) z (λ k. small (and_parts (has one z) (has other z) k).0)) ∙ h)

-- a place of a row that another one hasn't
pub left_there : (row other left : List ℕ) (z : ℕ) → (has row z ≡ true → z < 512) → left ≡ difference row other → has row z ≡ true → has other z ≡ false → has left z ≡ true
left_there row other left z small e h out =
    ap (λ (l : List ℕ). has l z) e ∙ has_difference row other z small ∙ and_from (has row z) (not (has other z)) h (not_from_false (has other z) out)

pub left_from : (row other left : List ℕ) (z : ℕ) → (has row z ≡ true → z < 512) → left ≡ difference row other → has left z ≡ true → has row z ≡ true
left_from row other left z small e h =
    (and_parts (has row z) (not (has other z)) (sym (ap (λ (l : List ℕ). has l z) e ∙ has_difference row other z small) ∙ h)).0

pub left_out : (row other left : List ℕ) (z : ℕ) → (has row z ≡ true → z < 512) → left ≡ difference row other → has left z ≡ true → has other z ≡ false
left_out row other left z small e h =
    not_true (has other z) (and_parts (has row z) (not (has other z)) (sym (ap (λ (l : List ℕ). has l z) e ∙ has_difference row other z small) ∙ h)).1
  where
    not_true : (b : Bool) → not b ≡ true → b ≡ false
    not_true true h = sym h
    not_true false h = refl

-- a set that holds the past of each member holds what has members above it
pub above_within : (g : Graph) (set : List ℕ) (test : ℕ → Bool) → IsDownset g set → ((b : ℕ) → test b ≡ true → has set b ≡ true) → (z : ℕ) → HasAbove g test z → has set z ≡ true
above_within g set test down among z above = down.closed above.0 z (among above.0 above.1) above.2

-- those of some voters that are loose
pub loose_is : (g : Graph) (x y : ℕ) (voters bound loose : List ℕ) → ((z : ℕ) → has voters z ≡ true → z < 512) → bound ≡ places_where (λ z. not (is_loose g z x y)) → loose ≡ difference voters bound
    → (z : ℕ) → has loose z ≡ (has voters z && is_loose g z x y)
loose_is g x y voters bound loose small e e' z = ap (λ (l : List ℕ). has l z) e' ∙ has_difference voters bound z (small z) ∙ at (has voters z) refl
  where
    twice : (c : Bool) → not (not c) ≡ c
    twice true = refl
    twice false = refl

    at : (c : Bool) → has voters z ≡ c → (c && not (has bound z)) ≡ (c && is_loose g z x y)
    at true h = ap not (ap (λ (l : List ℕ). has l z) e ∙ has_places (λ z. not (is_loose g z x y)) z (λ _. small z h)) ∙ twice (is_loose g z x y)
    at false h = refl

pub none_loose : (g : Graph) (x y : ℕ) (voters : List ℕ) → voters ≡ [] → (z : ℕ) → has voters z ≡ (has voters z && is_loose g z x y)
none_loose g x y voters e z = rw e refl

-- both sides together
module _ (one other both : List ℕ) (small : (z : ℕ) → has one z ≡ true → z < 512) (small' : (z : ℕ) → has other z ≡ true → z < 512)
    (e : both ≡ union one other) where
  both_is : (z : ℕ) → has both z ≡ (has one z || has other z)
  both_is z = ap (λ (l : List ℕ). has l z) e ∙ has_union one other z (small z) (small' z)

  pub both_parts : (P : Type 0) (z : ℕ) → (has one z ≡ true → P) → (has other z ≡ true → P) → has both z ≡ true → P
  both_parts P z first second h = at (has one z) refl (sym (both_is z) ∙ h)
    where
      at : (c : Bool) → has one z ≡ c → (c || has other z) ≡ true → P
      at true e h = first e
      at false e h = second h

  pub first_in : (z : ℕ) → has one z ≡ true → has both z ≡ true
  first_in z h = both_is z ∙ or_left (has one z) (has other z) h

  pub second_in : (z : ℕ) → has other z ≡ true → has both z ≡ true
  second_in z h = both_is z ∙ or_right (has one z) (has other z) h
