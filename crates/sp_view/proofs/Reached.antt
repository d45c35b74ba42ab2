-- The pasts of some blocks, taken from the highest one down, where those that are in the past of another one are passed over.
use Rattle.std.proofs.Common.{◌≡◌, ◌⊎◌, ℕ, suc, ◌<◌, ◌≤◌, Bool, true, false, ◌||◌, ◌&&◌, List, [], length, Option, Some, None, refl, sym, ap, ◌∙◌, eqb, ltb, inl, inr, arith}
use Rattle.std.specs.Prelude.{not, IfSome, IsNone, ◌↔◌}
use Rattle.std.proofs.lemmas.Bool.{false≢true, eqb-true, and_parts, and_from, or_left, or_right, not_from_false}
use Rattle.sp_bits.specs.Places.{difference, members_below, union, IsGreatest}
use Rattle.sp_bits.proofs.RowSets.{has_difference, has_union}
use Rattle.sp_dag.specs.Numbered.{Numbered, graph_of, AreInOrder}
use Rattle.sp_dag.proofs.Ranked.{ancestors_lower, complete_numbered, past_members}
use Rattle.sp_model.specs.Graph.{has, in_past, past}
use Rattle.sp_model.proofs.Pasts.{past_trans}
use Rattle.sp_view.specs.Seen.{HasAbove}
use Rattle.sp_view.specs.Settled.{left_of}
use Rattle.sp_view.proofs.Downward.{left_first, left_next}

-- each block is left, or its past is there
abbrev pub AreCovered : Numbered → List ℕ → List ℕ → Option ℕ → List ℕ → Type 0
AreCovered table blocks left next below =
    (b : ℕ) → has blocks b ≡ true → (left_of left next b ≡ true) ⊎ ((z : ℕ) → in_past (graph_of table) z b ≡ true → has below z ≡ true)

pub covered_first : (table : Numbered) (blocks below : List ℕ) (next : Option ℕ) → IfSome next (IsGreatest blocks) → IsNone next ↔ (blocks ≡ []) → AreCovered table blocks blocks next below
covered_first table blocks below next some none b h = inl (sym (left_first blocks next some none b) ∙ h)

pub covered_last : (table : Numbered) (blocks left below : List ℕ) → AreCovered table blocks left None below
    → (b z : ℕ) → has blocks b ≡ true → in_past (graph_of table) z b ≡ true → has below z ≡ true
covered_last table blocks left below covered b z h r = elim (covered b h) [
  | inl there ↦ absurd (false≢true (and_parts (has left b) false there).1)
  | inr all ↦ all z r
]

module _ (table : Numbered) (order : AreInOrder table.parents) (few : length table.parents ≤ 512) (block : ℕ) (within : block < length table.parents)
    (below left : List ℕ) (small : (z : ℕ) → has below z ≡ true → z < 512) (left_small : (z : ℕ) → has left z ≡ true → z < 512) where
  past_small : (z : ℕ) → has (past (graph_of table) block) z ≡ true → z < 512
  past_small z h =
      (let lower : z < block = ancestors_lower table z block order within (sym (past_members table z block order within) ∙ h) in omega (arith, lower, few, within))

  pub has_joined : (z : ℕ) → has (union below (past (graph_of table) block)) z ≡ (has below z || in_past (graph_of table) z block)
  has_joined z = has_union below (past (graph_of table) block) z (small z) (past_small z) ∙ ap (λ (c : Bool). has below z || c) (past_members table z block order within)

  pub has_left : (z : ℕ) → has (difference left (past (graph_of table) block)) z ≡ (has left z && not (in_past (graph_of table) z block))
  has_left z = has_difference left (past (graph_of table) block) z (left_small z) ∙ ap (λ (c : Bool). has left z && not c) (past_members table z block order within)

  pub joined_small : (z : ℕ) → has (union below (past (graph_of table) block)) z ≡ true → z < 512
  joined_small z h = at (has below z) refl (sym (has_joined z) ∙ h)
    where
      at : (c : Bool) → has below z ≡ c → (c || in_past (graph_of table) z block) ≡ true → z < 512
      at true e h = small z e
      at false e h = past_small z (past_members table z block order within ∙ h)

  -- what was taken has one of the blocks above it
  pub joined_only : (test : ℕ → Bool) → test block ≡ true → ((z : ℕ) → has below z ≡ true → HasAbove (graph_of table) test z)
      → (z : ℕ) → has (union below (past (graph_of table) block)) z ≡ true → HasAbove (graph_of table) test z
  joined_only test there inner z h = at (has below z) refl (sym (has_joined z) ∙ h)
    where
      at : (c : Bool) → has below z ≡ c → (c || in_past (graph_of table) z block) ≡ true → HasAbove (graph_of table) test z
      at true e h = inner z e
      at false e h = (block, there, h)

  pub left_parts : (z : ℕ) → has (difference left (past (graph_of table) block)) z ≡ true → has left z ≡ true
  left_parts z h = (and_parts (has left z) (not (in_past (graph_of table) z block)) (sym (has_left z) ∙ h)).0

  -- one block more
  pub covered_next : (blocks : List ℕ) (next : Option ℕ) → AreCovered table blocks left (Some block) below
      → IfSome next (IsGreatest (members_below (difference left (past (graph_of table) block)) block))
      → IsNone next ↔ (members_below (difference left (past (graph_of table) block)) block ≡ [])
      → AreCovered table blocks (difference left (past (graph_of table) block)) next (union below (past (graph_of table) block))
  covered_next blocks next covered some none b h = elim (covered b h) [
    | inl there ↦ by there (eqb b block) (in_past (graph_of table) b block) refl refl
    | inr all ↦ inr (λ z r. has_joined z ∙ or_left (has below z) (in_past (graph_of table) z block) (all z r))
  ]
    where
      below_block : (z : ℕ) → in_past (graph_of table) z block ≡ true → has (union below (past (graph_of table) block)) z ≡ true
      below_block z r = has_joined z ∙ or_right (has below z) (in_past (graph_of table) z block) r

      by : left_of left (Some block) b ≡ true → (same lower : Bool) → eqb b block ≡ same → in_past (graph_of table) b block ≡ lower
          → (left_of (difference left (past (graph_of table) block)) next b ≡ true) ⊎ ((z : ℕ) → in_past (graph_of table) z b ≡ true → has (union below (past (graph_of table) block)) z ≡ true)
      by there true lower es el = inr (λ z r. below_block z (ap (in_past (graph_of table) z) (sym (eqb-true b block es)) ∙ r))
      by there false true es el = inr (λ z r. below_block z (past_trans (graph_of table) z b block (complete_numbered table block order within) r el))
      by there false false es el =
          (let parts : (has left b ≡ true) × (ltb b (suc block) ≡ true) = and_parts (has left b) (ltb b (suc block)) there in
          let still : has (difference left (past (graph_of table) block)) b ≡ true = has_left b ∙ and_from (has left b) (not (in_past (graph_of table) b block)) parts.0 (not_from_false (in_past (graph_of table) b block) el) in
          inl (sym (left_next (difference left (past (graph_of table) block)) block next some none b)
          ∙ and_from (has (difference left (past (graph_of table) block)) b && ltb b (suc block)) (not (eqb b block))
          (and_from (has (difference left (past (graph_of table) block)) b) (ltb b (suc block)) still parts.1) (not_from_false (eqb b block) es)))
