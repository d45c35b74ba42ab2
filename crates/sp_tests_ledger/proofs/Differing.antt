-- The pairs on which the votes of two sets differ, and the number of carriers, as loops find them.
use Rattle.std.proofs.Common.{◌≡◌, ℕ, ◌+◌, ◌<◌, ◌≤◌, cond, List, [], ◌∷◌, ◌++◌, length, take, refl, sym, ap, subst, ◌∙◌, inl, inr, arith, ltb}
use Rattle.std.specs.Prelude.{◌≢◌, Contains, filter, slice_get, Some}
use Rattle.std.specs.List.{range_with_len}
use Rattle.std.proofs.lemmas.Bool.{cases_lt}
use Rattle.std.proofs.lemmas.List.Filters.{length-filter_more}
use Rattle.std.proofs.lemmas.Option.{get_or_from_slice_get}
use Rattle.sp_model.specs.Votes.{virt}
use Rattle.sp_dag.specs.Numbered.{Numbered, graph_of}
use Rattle.sp_dag.proofs.Ranked.{keys_are_numbers}
use Rattle.sp_plain.specs.Virts.{entry, HasVirts, Virts}
use Rattle.sp_carry.specs.declared.carrier.Carrier.{Carrier}
use Rattle.sp_carry.proofs.Members.{contains_from_in, in_append_left, in_append_right, in_from_contains}
use Rattle.sp_accept.specs.Changes.{carriers_below, TellsChanges}

-- what is in a list is in a longer one
pub stays_in : (pairs : List (ℕ × ℕ)) (new pair : ℕ × ℕ) → Contains pairs pair → Contains (pairs ++ new ∷ []) pair
stays_in pairs new pair there = contains_from_in (pairs ++ new ∷ []) pair (in_append_left pairs (new ∷ []) pair (in_from_contains pairs pair there))

pub is_last : (pairs : List (ℕ × ℕ)) (pair : ℕ × ℕ) → Contains (pairs ++ pair ∷ []) pair
is_last pairs pair = contains_from_in (pairs ++ pair ∷ []) pair (in_append_right pairs (pair ∷ []) pair (inl refl))

-- the votes of the first blocks, and those of all, tell on which pairs they differ
pub told : (table : Numbered) (n : ℕ) (pairs : List (ℕ × ℕ)) (before now : Virts) → n ≤ length table.parents
    → HasVirts (graph_of table) (range_with_len 0 n) (length table.parents) before → HasVirts (graph_of table) (range_with_len 0 (length table.parents)) (length table.parents) now
    → ((x y : ℕ) → x < y → y < n → entry before x y ≢ entry now x y → Contains pairs (x, y)) → TellsChanges table n pairs
told table n pairs before now few first all differing = λ x y lower within unrelated other.
    let x_in : x < length table.parents = omega (arith, lower, within, few) in
    let y_in : y < length table.parents = omega (arith, within, few) in
    differing x y lower within (λ same. other
    (sym (first.each x y x_in y_in) ∙ same ∙ all.each x y x_in y_in ∙ ap (λ (s : List ℕ). virt (graph_of table) s x y) (sym (keys_are_numbers table))))

-- ---- the pairs so far

-- the pairs of blocks below a number on which two matrices differ
abbrev pub AreTold : Virts → Virts → ℕ → List (ℕ × ℕ) → Type 0
AreTold one other n pairs = (x y : ℕ) → x < y → y < n → entry one x y ≢ entry other x y → Contains pairs (x, y)

-- the pairs of y and a block below a number on which they do
abbrev pub AreToldOf : Virts → Virts → ℕ → ℕ → List (ℕ × ℕ) → Type 0
AreToldOf one other y n pairs = (x : ℕ) → x < n → entry one x y ≢ entry other x y → Contains pairs (x, y)

abbrev pub StayIn : List (ℕ × ℕ) → List (ℕ × ℕ) → Type 0
StayIn before after = (pair : ℕ × ℕ) → Contains before pair → Contains after pair

pub block_more : (one other : Virts) (n : ℕ) (before after : List (ℕ × ℕ)) → AreTold one other n before → AreToldOf one other n n after → StayIn before after → AreTold one other (n + 1) after
block_more one other n before after told new stay = λ x y lower within differ. elim (cases_lt y n) [
  | inl less ↦ stay (x, y) (told x y lower less differ)
  | inr ge ↦ (let last : n ≡ y = omega (arith, ge, within) in at y last x lower differ)
]
  where
    at : (y : ℕ) → n ≡ y → (x : ℕ) → x < y → entry one x y ≢ entry other x y → Contains after (x, y)
    at y last = subst (λ (z : ℕ). (x : ℕ) → x < z → entry one x z ≢ entry other x z → Contains after (x, z)) last new

pub pair_more : (one other : Virts) (y n : ℕ) (before after : List (ℕ × ℕ)) → AreToldOf one other y n before → StayIn before after
    → (entry one n y ≢ entry other n y → Contains after (n, y)) → AreToldOf one other y (n + 1) after
pair_more one other y n before after told stay new = λ x within differ. elim (cases_lt x n) [
  | inl less ↦ stay (x, y) (told x less differ)
  | inr ge ↦ (let last : n ≡ x = omega (arith, ge, within) in
      (subst (λ (z : ℕ). entry one z y ≢ entry other z y → Contains after (z, y)) last new) differ)
]

-- ---- the carriers so far

pub carrier_more : (rows : List Carrier) (n c : ℕ) (r : Carrier) (before after : ℕ) → c < length rows → slice_get rows c ≡ Some r → before ≡ carriers_below (take c rows) n
    → after ≡ before + cond (ltb r.block n) 1 0 → after ≡ carriers_below (take (c + 1) rows) n
carrier_more rows n c r before after lt is so_far more =
    more ∙ ap (λ (k : ℕ). k + cond (ltb r.block n) 1 0) so_far
    ∙ ap (λ (q : Carrier). length (filter (λ (p : Carrier). ltb p.block n) (take c rows)) + cond (ltb q.block n) 1 0) (sym (get_or_from_slice_get rows c r r is))
    ∙ sym (length-filter_more (λ (p : Carrier). ltb p.block n) rows c r lt)
