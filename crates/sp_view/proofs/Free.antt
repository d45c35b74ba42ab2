-- Beside a block that joins: the blocks of its past that a pair's second block doesn't bind, and those of them whose votes may change.
use Rattle.std.proofs.Common.{◌≡◌, ℕ, ◌<◌, ◌≤◌, Bool, true, false, ◌||◌, ◌&&◌, List, Some, length, not, refl, sym, ap, ◌∙◌, inl, inr, arith}
use Rattle.std.specs.Prelude.{slice_get}
use Rattle.std.proofs.lemmas.Bool.{and_parts, cases_lt}
use Rattle.std.proofs.lemmas.Option.{slice_get_within}
use Rattle.sp_bits.specs.Places.{difference, union}
use Rattle.sp_bits.specs.Members.{has-places_where}
use Rattle.sp_bits.proofs.RowSets.{has_difference}
use Rattle.sp_dag.specs.Closed.{closed}
use Rattle.sp_dag.specs.Numbered.{Numbered, pairs_of}
use Rattle.sp_model.specs.Graph.{Graph, has, in_past}
use Rattle.sp_model.specs.Loose.{in_bar, is_loose}
use Rattle.sp_view.specs.Idle.{IsPlace}

-- the past without the blocks that the second one binds
pub free_told : (g : Graph) (b y : ℕ) (below bound free : List ℕ) → ((z : ℕ) → has below z ≡ in_past g z b) → bound ≡ closed g y
    → ((z : ℕ) → in_past g z b ≡ true → z < 512) → free ≡ difference below bound → (z : ℕ) → has free z ≡ (in_past g z b && not (in_bar g y z))
free_told g b y below bound free below_is bound_is small e z =
    ap (λ (l : List ℕ). has l z) e ∙ has_difference below bound z (λ h. small z (sym (below_is z) ∙ h))
    ∙ ap (λ (c : Bool). c && not (has bound z)) (below_is z) ∙ at (in_past g z b) refl
  where
    at : (p : Bool) → in_past g z b ≡ p → (p && not (has bound z)) ≡ (p && not (in_bar g y z))
    at true ep = ap not (ap (λ (l : List ℕ). has l z) bound_is ∙ has-places_where (λ p. in_bar g y p) z (small z ep))
    at false ep = refl

-- ---- those whose votes may change

module _ (g : Graph) (b x y : ℕ) (free agree bound two : List ℕ) (free_is : (z : ℕ) → has free z ≡ (in_past g z b && not (in_bar g y z)))
    (small : (z : ℕ) → in_past g z b ≡ true → z < 512) (bound_is : bound ≡ closed g x) (e : two ≡ union agree bound) where
  two_is : (z : ℕ) → z < 512 → has two z ≡ (has agree z || in_bar g x z)
  two_is z less =
      ap (λ (l : List ℕ). has l z) e ∙ has-places_where (λ p. has agree p || has bound p) z less
      ∙ ap (λ (c : Bool). has agree z || c) (ap (λ (l : List ℕ). has l z) bound_is ∙ has-places_where (λ p. in_bar g x p) z less)

  small_free : (z : ℕ) → has free z ≡ true → z < 512
  small_free z h = small z (and_parts (in_past g z b) (not (in_bar g y z)) (sym (free_is z) ∙ h)).0

  pub todo_told : (todo : List ℕ) → todo ≡ difference free two → (z : ℕ) → has todo z ≡ ((in_past g z b && is_loose g z x y) && not (has agree z))
  todo_told todo is z =
      ap (λ (l : List ℕ). has l z) is ∙ has_difference free two z (small_free z)
      ∙ ap (λ (c : Bool). c && not (has two z)) (free_is z) ∙ at (in_past g z b) refl
    where
      turn : (d a i : Bool) → (not d && not (a || i)) ≡ (not (i || d) && not a)
      turn true true true = refl
      turn true true false = refl
      turn true false true = refl
      turn true false false = refl
      turn false true true = refl
      turn false true false = refl
      turn false false true = refl
      turn false false false = refl

      at : (p : Bool) → in_past g z b ≡ p → ((p && not (in_bar g y z)) && not (has two z)) ≡ ((p && is_loose g z x y) && not (has agree z))
      at true ep = ap (λ (c : Bool). not (in_bar g y z) && not c) (two_is z (small z ep)) ∙ turn (in_bar g y z) (has agree z) (in_bar g x z)
      at false ep = refl

-- ---- the pair of a place

module _ (table : Numbered) (b pair y end : ℕ) (above : Bool) (free : List ℕ) (place : IsPlace table b pair y end above free) where
  pub second_is : (x z : ℕ) → slice_get (pairs_of table) pair ≡ Some (x, z) → z ≡ y
  second_is x z at =
      let less : pair < length (pairs_of table) = slice_get_within (pairs_of table) pair (x, z) at in
      let low : y ≤ z = place.low pair x z at (omega arith) in
      elim (cases_lt y z) [
        | inl more ↦ absurd (let ended : end ≤ pair = place.from pair x z at more in let within = place.within less in omega (arith, ended, within.0))
        | inr le ↦ omega (arith, low, le)
      ]

  pub pair_is : (p : ℕ × ℕ) → slice_get (pairs_of table) pair ≡ Some p → slice_get (pairs_of table) pair ≡ Some (p.0, y)
  pair_is p at = at ∙ ap (λ (n : ℕ). Some (p.0, n)) (second_is p.0 p.1 at)
