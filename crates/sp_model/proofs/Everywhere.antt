-- Other keys that are told apart everywhere: what stands of every block, complete or not, and of every set.
use Rattle.std.proofs.Common.{◌≡◌, ℕ, zero, suc, Bool, true, false, not, ◌||◌, ◌&&◌, List, [], ◌∷◌, map, length, refl, sym, ap, ◌∙◌, inl, inr, eqb, arith}
use Rattle.std.specs.Prelude.{filter, pos}
use Rattle.std.specs.List.{list_any, list_all}
use Rattle.std.proofs.lemmas.Bool.{cases_eq, eq-eqb, ne_eqb, and_from, and_parts}
use Rattle.std.proofs.lemmas.Int.{ints}
use Rattle.std.proofs.lemmas.List.{length-map}
use Rattle.sp_model.specs.Graph.{Graph, Block, has, keys, parents_of, rounds, complete, reaches_within, in_past, past, bar, future, related, anticone}
use Rattle.sp_model.specs.Renaming.{AreRenamed, IsWhollyRenamed}
use Rattle.sp_model.specs.Votes.{total}
use Rattle.sp_model.proofs.Sets.{has-filter, has-filter_from, no_parents, same_truth}
use Rattle.sp_model.proofs.Match.{total_matched}

-- the members that pass are those that are members and pass
has-filter_is : (p : ℕ → Bool) (xs : List ℕ) (x : ℕ) → has (filter p xs) x ≡ (has xs x && p x)
has-filter_is p xs x =
    same_truth (has (filter p xs) x) (has xs x && p x)
    (λ h. let both = has-filter p xs x h in and_from (has xs x) (p x) both.0 both.1)
    (λ h. let both = and_parts (has xs x) (p x) h in has-filter_from p xs x both.0 both.1)

any_mapped : (r : ℕ → ℕ) (p q : ℕ → Bool) (xs : List ℕ) → ((x : ℕ) → q (r x) ≡ p x) → list_any q (map r xs) ≡ list_any p xs
any_mapped r p q [] h = refl
any_mapped r p q (x ∷ xs) h =
    let here : q (r x) ≡ p x = h x in
    let rest : list_any q (map r xs) ≡ list_any p xs = any_mapped r p q xs h in
    cc

all_mapped : (r : ℕ → ℕ) (p q : ℕ → Bool) (xs : List ℕ) → ((x : ℕ) → q (r x) ≡ p x) → list_all q (map r xs) ≡ list_all p xs
all_mapped r p q [] h = refl
all_mapped r p q (x ∷ xs) h =
    let here : q (r x) ≡ p x = h x in
    let rest : list_all q (map r xs) ≡ list_all p xs = all_mapped r p q xs h in
    cc

total_of_ones : (xs : List ℕ) → total (λ x. pos 1) xs ≡ pos (length xs)
total_of_ones [] = refl
total_of_ones (x ∷ xs) = let rest : total (λ x. pos 1) xs ≡ pos (length xs) = total_of_ones xs in omega (arith, ints)

module _ (r : ℕ → ℕ) (g g' : Graph) (same : IsWhollyRenamed r g g') where
  eqb_same : (a b : ℕ) → eqb (r a) (r b) ≡ eqb a b
  eqb_same a b =
      elim (cases_eq a b) [
        | inl e ↦ eq-eqb (r a) (r b) (ap r e) ∙ sym (eq-eqb a b e)
        | inr ne ↦ ne_eqb (r a) (r b) (λ e. ne (same.one_to_one a b e)) ∙ sym (ne_eqb a b ne)
      ]

  has_same : (s s' : List ℕ) (k : ℕ) → AreRenamed r s s' → has s' (r k) ≡ has s k
  has_same s s' k sets =
      same_truth (has s' (r k)) (has s k)
      (λ h. let found = sets.onto (r k) h in ap (has s) (sym (same.one_to_one found.0 k found.2)) ∙ found.1)
      (sets.into k)

  parents_same : (k : ℕ) → parents_of g' (r k) ≡ map r (parents_of g k)
  parents_same k = at (has (keys g) k) refl
    where
      at : (b : Bool) → has (keys g) k ≡ b → parents_of g' (r k) ≡ map r (parents_of g k)
      at true h = same.named.parents k h
      at false h =
          no_parents g'.blocks (r k) (has_same (keys g) (keys g') k same.whole ∙ h)
          ∙ sym (ap (map r) (no_parents g.blocks k h))

  long_same : length g'.blocks ≡ length g.blocks
  long_same =
      let ones : total (λ x. pos 1) (keys g') ≡ total (λ x. pos 1) (keys g) =
      total_matched r (λ x. pos 1) (λ x. pos 1) (keys g) (keys g') (λ a b ha hb e. same.one_to_one a b e) same.named.distinct same.named.other_distinct
      (record { into = same.whole.into; onto = same.whole.onto }) (λ x h. refl) in
      omega (arith, ints, ones, total_of_ones (keys g), total_of_ones (keys g'), length-map g.blocks (λ (b : Block). b.key), length-map g'.blocks (λ (b : Block). b.key))

  reach_same : (m a z : ℕ) → reaches_within m g' (r a) (r z) ≡ reaches_within m g a z
  unfolding reaches_within
  reach_same zero a z = refl
  reach_same (suc m) a z =
      rw (parents_same z) (any_mapped r (λ p. eqb p a || reaches_within m g a p) (λ p. eqb p (r a) || reaches_within m g' (r a) p) (parents_of g z)
      (λ p. rw (eqb_same p a, reach_same m a p) refl))

  pub in_past_everywhere : (a z : ℕ) → in_past g' (r a) (r z) ≡ in_past g a z
  unfolding in_past
  in_past_everywhere a z = rw long_same (reach_same (length g.blocks) a z)

  rounds_same : (m z : ℕ) → has (rounds m g') (r z) ≡ has (rounds m g) z
  unfolding rounds
  rounds_same zero z = refl
  rounds_same (suc m) z =
      has-filter_is (λ z. list_all (λ p. has (rounds m g') p) (parents_of g' z)) (keys g') (r z)
      ∙ rw (has_same (keys g) (keys g') z same.whole, parents_same z, all_mapped r (λ p. has (rounds m g) p) (λ p. has (rounds m g') p) (parents_of g z) (λ p. rounds_same m p)) refl
      ∙ sym (has-filter_is (λ z. list_all (λ p. has (rounds m g) p) (parents_of g z)) (keys g) z)

  pub complete_everywhere : (z : ℕ) → has (complete g') (r z) ≡ has (complete g) z
  unfolding complete
  complete_everywhere z = rw long_same (rounds_same (length g.blocks) z)

  pub past_everywhere : (z a : ℕ) → has (past g' (r z)) (r a) ≡ has (past g z) a
  past_everywhere z a =
      has-filter_is (λ a. in_past g' a (r z)) (keys g') (r a)
      ∙ rw (has_same (keys g) (keys g') a same.whole, in_past_everywhere a z) refl
      ∙ sym (has-filter_is (λ a. in_past g a z) (keys g) a)

  pub bar_everywhere : (z a : ℕ) → has (bar g' (r z)) (r a) ≡ has (bar g z) a
  bar_everywhere z a = rw (eqb_same z a, past_everywhere z a) refl

  pub future_everywhere : (s s' : List ℕ) (z a : ℕ) → AreRenamed r s s' → has (future g' s' (r z)) (r a) ≡ has (future g s z) a
  future_everywhere s s' z a sets =
      has-filter_is (λ w. in_past g' (r z) w) s' (r a)
      ∙ rw (has_same s s' a sets, in_past_everywhere z a) refl
      ∙ sym (has-filter_is (λ w. in_past g z w) s a)

  pub related_everywhere : (a b : ℕ) → related g' (r a) (r b) ≡ related g a b
  related_everywhere a b = rw (eqb_same a b, in_past_everywhere a b, in_past_everywhere b a) refl

  pub anticone_everywhere : (s s' : List ℕ) (z a : ℕ) → AreRenamed r s s' → has (anticone g' s' (r z)) (r a) ≡ has (anticone g s z) a
  anticone_everywhere s s' z a sets =
      has-filter_is (λ w. not (eqb w (r z)) && not (related g' w (r z))) s' (r a)
      ∙ rw (has_same s s' a sets, eqb_same a z, in_past_everywhere a z, in_past_everywhere z a) refl
      ∙ sym (has-filter_is (λ w. not (eqb w z) && not (related g w z)) s a)
