-- One block more in the graph: the virtual votes of the pasts of the blocks before it stay.
use Rattle.std.proofs.Common.{◌≡◌, ◌∙◌, ℕ, zero, suc, ◌+◌, ◌<◌, Bool, true, List, [], ◌∷◌, map, filter, length, ap, arith, length-append, refl, subst, sym}
use Rattle.std.specs.List.{flat_map, range_with_len}
use Rattle.std.specs.Prelude.{ℤ}
use Rattle.std.proofs.Math.ListN.{get_or-append}
use Rattle.std.proofs.lemmas.List.{append-nil}
use Rattle.sp_dag.specs.Numbered.{AreInOrder, IsNumbered, Numbered, graph_of, with_next}
use Rattle.sp_dag.proofs.Ranked.{key_in, keys_are_numbers, parents_numbered, past_old, past-no_new, rank_numbered, rank_old}
use Rattle.sp_dag.proofs.Whole.{AreDistinct-range}
use Rattle.sp_model.specs.Agreement.{AgreesOn}
use Rattle.sp_model.specs.Graph.{AreDistinct, has, in_past, past}
use Rattle.sp_model.specs.Votes.{virt}
use Rattle.sp_model.proofs.Distinct.{past_distinct}
use Rattle.sp_model.proofs.Match.{virt_restricted}
use Rattle.sp_plain.specs.Plain.{HoldsPasts}
use Rattle.sp_plain.specs.Virts.{Virts, past_virts, virts_in}
use Rattle.sp_plain.proofs.Downsets.{past_below, past_closed}
use Rattle.sp_plain.proofs.Ranges.{filter_last}

-- what is the same of each number of a range
map_same : {A : Type 0} (f g : ℕ → A) (a n : ℕ) → ((k : ℕ) → k < a + n → f k ≡ g k) → map f (range_with_len a n) ≡ map g (range_with_len a n)
map_same f g a zero same = refl
map_same f g a (suc n) same =
    let first : f a ≡ g a = same a (omega arith) in
    let rest : map f (range_with_len (a + 1) n) ≡ map g (range_with_len (a + 1) n) = map_same f g (a + 1) n (λ k lt. same k (omega arith)) in
    λ i. first i ∷ rest i

module _ (table : Numbered) (id salt : ℕ) (ps : List ℕ) (numbered : IsNumbered table) where
  abbrev more : Numbered
  more = with_next table id salt ps

  order : AreInOrder table.parents
  order = numbered.order

  long : length more.parents ≡ length table.parents + 1
  long = omega (arith, length-append table.parents (ps ∷ []))

  agrees : (set : List ℕ) → ((z : ℕ) → has set z ≡ true → z < length table.parents) → AgreesOn set (graph_of table) (graph_of more)
  agrees set below = record {
    distinct = subst AreDistinct (sym (keys_are_numbers table)) (AreDistinct-range 0 (length table.parents));
    other_distinct = subst AreDistinct (sym (keys_are_numbers more)) (AreDistinct-range 0 (length more.parents));
    there = λ z h. (let lt : z < length table.parents = below z h in key_in more z (omega (arith, long)));
    parents = λ z h.
        let lt : z < length table.parents = below z h in
        parents_numbered more z (omega (arith, long)) ∙ get_or-append table.parents (ps ∷ []) [] z lt ∙ sym (parents_numbered table z lt);
    ranks = λ z h.
        let lt : z < length table.parents = below z h in
        rank_numbered more z (omega (arith, long)) ∙ rank_old table id salt ps z numbered lt ∙ sym (rank_numbered table z lt);
    profile = refl;
  }

  past_stays : (z : ℕ) → z < length table.parents → past (graph_of more) z ≡ past (graph_of table) z
  past_stays z lt =
      let p = λ (a : ℕ). in_past (graph_of more) a z in
      let p' = λ (a : ℕ). in_past (graph_of table) a z in
      let same : p ≡ p' = λ i a. past_old table id salt ps a z order lt i in
      ap (filter p) (keys_are_numbers more ∙ ap (range_with_len 0) long) ∙ filter_last p (length table.parents)
      ∙ rw (past-no_new table id salt ps z order lt) (append-nil (filter p (range_with_len 0 (length table.parents))))
      ∙ ap (λ (q : ℕ → Bool). filter q (range_with_len 0 (length table.parents))) same ∙ ap (filter p') (sym (keys_are_numbers table))

  virts_stay : (z : ℕ) → z < length table.parents → past_virts (graph_of more) z ≡ past_virts (graph_of table) z
  virts_stay z lt =
      let distinct : AreDistinct (past (graph_of table) z) = past_distinct (graph_of table) z (subst AreDistinct (sym (keys_are_numbers table)) (AreDistinct-range 0 (length table.parents))) in
      let below : (w : ℕ) → has (past (graph_of table) z) w ≡ true → w < length table.parents = λ w h. (let lower : w < z = past_below table z w order lt h in omega arith) in
      let same : virt (graph_of more) (past (graph_of table) z) ≡ virt (graph_of table) (past (graph_of table) z) =
      λ i x y. virt_restricted (graph_of table) (graph_of more) (past (graph_of table) z) x y (agrees (past (graph_of table) z) below) (past_closed table z order lt) distinct i in
      ap (λ (s : List ℕ). virts_in (graph_of more) s z) (past_stays z lt)
      ∙ ap (λ (f : ℕ → ℕ → ℤ). record { width = z; votes = flat_map (λ x. map (f x) (range_with_len 0 z)) (range_with_len 0 z) }) same

  pub pasts_stay : (pasts : List Virts) → HoldsPasts table pasts → HoldsPasts more pasts
  pasts_stay pasts holds = record {
    are = holds.are ∙ sym (map_same (past_virts (graph_of more)) (past_virts (graph_of table)) 0 (length pasts) (λ k lt. virts_stay k (omega (arith, holds.few, lt))));
    few = omega (arith, long, holds.few);
  }
