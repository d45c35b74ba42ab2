-- A path of any length leads into the past of its block, complete or not: the keys that reach a block in so
-- many steps grow with the number of steps, or no further step adds one.
use Rattle.std.proofs.Common.{◌≡◌, ℕ, zero, suc, ◌+◌, ◌-◌, ◌≤◌, ◌<◌, ◌⊎◌, Bool, true, false, ◌||◌, List, length, refl, sym, ap, ◌∙◌, inl, inr, eqb, arith, zero-add, suc-add}
use Rattle.std.specs.Prelude.{filter}
use Rattle.std.specs.List.{list_any}
use Rattle.std.proofs.lemmas.List.{length-map}
use Rattle.std.proofs.lemmas.Bool.{cases_lt, false≢true, or_cases, or_left, or_right}
use Rattle.sp_model.specs.Graph.{Graph, Block, has, keys, parents_of, reaches_within, in_past}
use Rattle.sp_model.proofs.Sets.{any_some, some_any, has-filter, has-filter_from, no_parents, same_truth}
use Rattle.sp_model.proofs.Rounds.{filter_grows, length-filter-le}
use Rattle.sp_model.proofs.Paths.{reaches_more, reaches_up}

module _ (g : Graph) (a : ℕ) where
  -- the keys that reach a in so many steps
  reaching : ℕ → List ℕ
  reaching k = filter (λ z. reaches_within k g a z) (keys g)

  only_keys : (m z : ℕ) → has (keys g) z ≡ false → reaches_within m g a z ≡ false
  unfolding reaches_within
  only_keys zero z h = refl
  only_keys (suc m) z h = ap (list_any (λ p. eqb p a || reaches_within m g a p)) (no_parents g.blocks z h)

  -- each step adds a key, or some step added none
  reaching_grow : (k : ℕ) → ((j : ℕ) × (j < k) × (reaching j ≡ reaching (suc j))) ⊎ (k ≤ length (reaching k))
  unfolding reaching
  reaching_grow zero = inr (omega arith)
  reaching_grow (suc k) =
      elim (reaching_grow k) [
        | inl found ↦ inl (found.0, omega (arith, found.1), found.2)
        | inr long ↦ elim (filter_grows (λ z. reaches_within k g a z) (λ z. reaches_within (suc k) g a z) (keys g) (λ z. reaches_more k g a z)) [
          | inl same ↦ inl (k, omega arith, same)
          | inr less ↦ inr (omega arith)
        ]
      ]

  -- where a step adds no key, it finds no path from any block
  no_new : (j z : ℕ) → reaching j ≡ reaching (suc j) → reaches_within (suc j) g a z ≡ true → reaches_within j g a z ≡ true
  unfolding reaching
  no_new j z same h = at (has (keys g) z) refl
    where
      at : (b : Bool) → has (keys g) z ≡ b → reaches_within j g a z ≡ true
      at true key =
          (has-filter (λ z. reaches_within j g a z) (keys g) z
          (ap (λ (l : List ℕ). has l z) same ∙ has-filter_from (λ z. reaches_within (suc j) g a z) (keys g) z key h)).1
      at false none = absurd (false≢true (sym (only_keys (suc j) z none) ∙ h))

  no_later : (j : ℕ) → reaching j ≡ reaching (suc j) → (m z : ℕ) → reaches_within (m + j) g a z ≡ true → reaches_within j g a z ≡ true
  unfolding reaches_within
  no_later j same zero z h = rw zero-add at h
  no_later j same (suc m) z h =
      let step : reaches_within (suc (m + j)) g a z ≡ true = rw suc-add at h in
      let found : (p : ℕ) × (has (parents_of g z) p ≡ true) × ((eqb p a || reaches_within (m + j) g a p) ≡ true) = any_some _ (parents_of g z) step in
      no_new j z same
      (some_any (λ p. eqb p a || reaches_within j g a p) (parents_of g z) found.0 found.1
      (elim (or_cases (eqb found.0 a) (reaches_within (m + j) g a found.0) found.2) [
        | inl here ↦ or_left (eqb found.0 a) (reaches_within j g a found.0) here
        | inr there ↦ or_right (eqb found.0 a) (reaches_within j g a found.0) (no_later j same m found.0 there)
      ]))

  up : (k z : ℕ) → k ≤ length g.blocks → reaches_within k g a z ≡ true → reaches_within (length g.blocks) g a z ≡ true
  up k z le h =
      let e : (length g.blocks - k) + k ≡ length g.blocks = omega arith in
      rw e at (reaches_up (length g.blocks - k) k g a z h)

  pub in_past_by_any_path : (m z : ℕ) → reaches_within m g a z ≡ true → in_past g a z ≡ true
  unfolding in_past reaching
  in_past_by_any_path m z h =
      elim (cases_lt (length g.blocks) m) [
        | inr le ↦ up m z le h
        | inl more ↦ elim (reaching_grow (suc (length g.blocks))) [
          | inl found ↦ at_stop found.0 (omega (arith, found.1)) (omega (arith, found.1)) found.2
          | inr long ↦ absurd (omega (arith, length-filter-le (λ z. reaches_within (suc (length g.blocks)) g a z) (keys g), length-map g.blocks (λ (b : Block). b.key)))
        ]
      ]
    where
      at_stop : (j : ℕ) → j ≤ length g.blocks → j ≤ m → reaching j ≡ reaching (suc j) → reaches_within (length g.blocks) g a z ≡ true
      at_stop j le le' same =
          let e : (m - j) + j ≡ m = omega arith in
          up j z le (no_later j same (m - j) z (ap (λ (k : ℕ). reaches_within k g a z) e ∙ h))

  -- the past of any block is its parents and their pasts
  pub in_past_any_step : (z : ℕ) → in_past g a z ≡ list_any (λ p. eqb p a || in_past g a p) (parents_of g z)
  unfolding in_past reaches_within
  in_past_any_step z =
      same_truth (reaches_within (length g.blocks) g a z) (reaches_within (suc (length g.blocks)) g a z)
      (λ h. reaches_more (length g.blocks) g a z h)
      (λ h. in_past_by_any_path (suc (length g.blocks)) z h)
