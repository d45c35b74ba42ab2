-- What the votes say of two numbers, in whichever order they are given.
use Rattle.std.proofs.Common.{◌≡◌, ◌≢◌, ℕ, ◌<◌, Bool, true, false, cond, not, ◌&&◌, ◌||◌, List, length, sym, ap, subst, ◌∙◌, eqb, ltb, inl, inr, arith}
use Rattle.std.specs.Prelude.{ℤ, neg_ℤ, min, max}
use Rattle.std.proofs.lemmas.Bool.{cases_lt, false≢true, lt-ltb, le-ltb, ne_eqb}
use Rattle.std.specs.List.{range_with_len}
use Rattle.sp_dag.specs.Numbered.{Numbered, graph_of, AreInOrder}
use Rattle.sp_dag.proofs.Ranked.{downset_numbered, keys_are_numbers}
use Rattle.sp_model.specs.Graph.{in_past, related, IsDownset}
use Rattle.sp_model.specs.Votes.{virt, word_of}
use Rattle.sp_model.specs.declared.word.Word.TheVariants.{Before, After}
use Rattle.sp_model.proofs.Ancestors.{virt_ancestor}
use Rattle.sp_model.proofs.Exchange.{virt_neg}
use Rattle.sp_engine.proofs.Ranges.{in_range}

pub all_down : (table : Numbered) → AreInOrder table.parents → IsDownset (graph_of table) (range_with_len 0 (length table.parents))
all_down table order = subst (λ (l : List ℕ). IsDownset (graph_of table) l) (keys_are_numbers table) (downset_numbered table order)

other_way : (e c d : Bool) → (e || (not e && (c || d))) ≡ true → e ≡ false → c ≡ false → d ≡ true
other_way true c d h apart none = absurd (false≢true (sym apart))
other_way false true d h apart none = absurd (false≢true (sym none))
other_way false false d h apart none = h

module _ (table : Numbered) (order : AreInOrder table.parents) (x y : ℕ) (x_in : x < length table.parents) (y_in : y < length table.parents) where
  pub ancestor_first : in_past (graph_of table) x y ≡ true → Before ≡ word_of (virt (graph_of table) (range_with_len 0 (length table.parents)) x y)
  ancestor_first r = sym (ap word_of (virt_ancestor (graph_of table) (range_with_len 0 (length table.parents)) x y (all_down table order) (in_range 0 (length table.parents) y (omega arith) (omega (arith, y_in))) r))

  turned : x ≢ y → virt (graph_of table) (range_with_len 0 (length table.parents)) x y ≡ neg_ℤ (virt (graph_of table) (range_with_len 0 (length table.parents)) y x)
  turned apart = virt_neg (graph_of table) (range_with_len 0 (length table.parents)) x y (all_down table order) apart

  pub ancestor_second : x ≢ y → (eqb x y || related (graph_of table) x y) ≡ true → in_past (graph_of table) x y ≡ false → After ≡ word_of (virt (graph_of table) (range_with_len 0 (length table.parents)) x y)
  ancestor_second apart are none =
      let back : in_past (graph_of table) y x ≡ true = other_way (eqb x y) (in_past (graph_of table) x y) (in_past (graph_of table) y x) are (ne_eqb x y apart) none in
      sym (ap word_of (turned apart ∙ ap neg_ℤ (virt_ancestor (graph_of table) (range_with_len 0 (length table.parents)) y x (all_down table order) (in_range 0 (length table.parents) x (omega arith) (omega (arith, x_in))) back)))

  pub either_way : x ≢ y → (vote : ℤ) → vote ≡ virt (graph_of table) (range_with_len 0 (length table.parents)) (min x y) (max x y)
      → cond (ltb x y) vote (neg_ℤ vote) ≡ virt (graph_of table) (range_with_len 0 (length table.parents)) x y
  either_way apart vote is = elim (cases_lt x y) [
    | inl less ↦ ap (λ (b : Bool). cond b vote (neg_ℤ vote)) (lt-ltb x y less) ∙ is
        ∙ ap (λ (k : ℕ). virt (graph_of table) (range_with_len 0 (length table.parents)) k (max x y)) (let e : min x y ≡ x = omega (arith, less) in e)
        ∙ ap (λ (k : ℕ). virt (graph_of table) (range_with_len 0 (length table.parents)) x k) (let e : max x y ≡ y = omega (arith, less) in e)
    | inr more ↦ ap (λ (b : Bool). cond b vote (neg_ℤ vote)) (le-ltb x y (omega (arith, more))) ∙ ap neg_ℤ (is
        ∙ ap (λ (k : ℕ). virt (graph_of table) (range_with_len 0 (length table.parents)) k (max x y)) (let e : min x y ≡ y = omega (arith, more) in e)
        ∙ ap (λ (k : ℕ). virt (graph_of table) (range_with_len 0 (length table.parents)) y k) (let e : max x y ≡ x = omega (arith, more) in e))
        ∙ sym (turned apart)
  ]
