-- The numbered blocks with their ranks as a graph of the model. Its pasts and pairs are those of the table of parents.
use Rattle.std.proofs.Common.{◌≡◌, ℕ, zero, suc, ◌+◌, ◌<◌, ◌≤◌, Bool, true, false, cond, not, List, [], ◌∷◌, ◌++◌, length, map, get_or, refl, sym, ap, subst, ◌∙◌, inl, inr, eqb, Some, arith, zero-add}
use Rattle.std.specs.Prelude.{filter, find, slice_get}
use Rattle.std.specs.List.{range_with_len, flat_map}
use Rattle.std.proofs.Math.ListN.{get_or-append}
use Rattle.std.proofs.lemmas.Bool.{cases_lt, eqb-true, eq-eqb, false≢true}
use Rattle.std.proofs.lemmas.Option.{slice_get-get_or}
use Rattle.sp_model.specs.Graph.{Block, IsGraph, IsDownset, AreDistinct, Rank, has, keys, parents_of, parents_or_none, rank_of, rank_or_least, complete, in_past, past, future, related}
use Rattle.sp_model.specs.Agreement.{AreShapedAlike}
use Rattle.sp_model.proofs.Shapes.{complete_alike, downset_alike, future_alike, in_past_alike, past_alike, related_alike}
use Rattle.sp_dag.specs.Numbered.{Numbered, IsNumbered, AreInOrder, IsPair, blocks_from, graph_of, pairs_below, pairs_of, rank_at, unrelated_below, with_next}
use Rattle.sp_dag.specs.Shapes.{no_rank, pairs_in, shape_of}
use Rattle.sp_dag.proofs.Fronts as fronts
use Rattle.sp_dag.proofs.Keys as shape
use Rattle.sp_dag.proofs.Whole as shapes
use Rattle.sp_dag.proofs.Grown as grown
use Rattle.sp_dag.proofs.Whole.{AreDistinct-range}
use Rattle.sp_dag.proofs.Ids.{one_place}

abbrev node : (ℕ → Rank) → ℕ → List ℕ → Block
node rank number parents = record { key = number; parents = parents; rank = rank number }

same_keys_from : (r r' : ℕ → Rank) (from : ℕ) (table : List (List ℕ)) → map (λ (b : Block). b.key) (blocks_from r from table) ≡ map (λ (b : Block). b.key) (blocks_from r' from table)
same_keys_from r r' from [] = refl
same_keys_from r r' from (row ∷ table) = ap (λ (l : List ℕ). from ∷ l) (same_keys_from r r' (from + 1) table)

same_parents_from : (r r' : ℕ → Rank) (from : ℕ) (table : List (List ℕ)) (z : ℕ)
    → parents_or_none (find (λ (b : Block). eqb b.key z) (blocks_from r from table)) ≡ parents_or_none (find (λ (b : Block). eqb b.key z) (blocks_from r' from table))
same_parents_from r r' from [] z = refl
same_parents_from r r' from (row ∷ table) z = at (eqb from z) (same_parents_from r r' (from + 1) table z)
  where
    at : (c : Bool)
        → parents_or_none (find (λ (b : Block). eqb b.key z) (blocks_from r (from + 1) table)) ≡ parents_or_none (find (λ (b : Block). eqb b.key z) (blocks_from r' (from + 1) table))
        → parents_or_none (cond c (Some (node r from row)) (find (λ (b : Block). eqb b.key z) (blocks_from r (from + 1) table)))
        ≡ parents_or_none (cond c (Some (node r' from row)) (find (λ (b : Block). eqb b.key z) (blocks_from r' (from + 1) table)))
    at true rest = refl
    at false rest = rest

rank_from : (r : ℕ → Rank) (from : ℕ) (table : List (List ℕ)) (k : ℕ) → k < length table
    → rank_or_least (find (λ (b : Block). eqb b.key (from + k)) (blocks_from r from table)) ≡ r (from + k)
rank_from r from [] k le = absurd (omega arith)
rank_from r from (row ∷ table) zero le = at (eqb from (from + zero)) (eq-eqb from (from + zero) (omega arith))
  where
    at : (c : Bool) → c ≡ true → rank_or_least (cond c (Some (node r from row)) (find (λ (b : Block). eqb b.key (from + zero)) (blocks_from r (from + 1) table))) ≡ r (from + zero)
    at true e = (let same : from ≡ from + zero = omega arith in ap r same)
    at false e = absurd (false≢true e)
rank_from r from (row ∷ table) (suc k) le = at (eqb from (from + suc k)) refl (next (rank_from r (from + 1) table k (omega arith)))
  where
    next : rank_or_least (find (λ (b : Block). eqb b.key ((from + 1) + k)) (blocks_from r (from + 1) table)) ≡ r ((from + 1) + k)
        → rank_or_least (find (λ (b : Block). eqb b.key (from + suc k)) (blocks_from r (from + 1) table)) ≡ r (from + suc k)
    next h = (let e : from + suc k ≡ (from + 1) + k = omega arith in rw e h)

    at : (c : Bool) → eqb from (from + suc k) ≡ c → rank_or_least (find (λ (b : Block). eqb b.key (from + suc k)) (blocks_from r (from + 1) table)) ≡ r (from + suc k)
        → rank_or_least (cond c (Some (node r from row)) (find (λ (b : Block). eqb b.key (from + suc k)) (blocks_from r (from + 1) table))) ≡ r (from + suc k)
    at true e rest = (let same : from ≡ from + suc k = eqb-true from (from + suc k) e in absurd (omega arith))
    at false e rest = rest

module _ (blocks : Numbered) where
  pub shaped : AreShapedAlike (shape_of blocks.parents) (graph_of blocks)
  shaped = record {
    same_keys = same_keys_from (rank_at blocks) no_rank 0 blocks.parents;
    parents = same_parents_from (rank_at blocks) no_rank 0 blocks.parents;
  }

  pub in_past_shaped : (a z : ℕ) → in_past (graph_of blocks) a z ≡ in_past (shape_of blocks.parents) a z
  in_past_shaped = in_past_alike (shape_of blocks.parents) (graph_of blocks) shaped

  pub past_shaped : (z : ℕ) → past (graph_of blocks) z ≡ past (shape_of blocks.parents) z
  past_shaped = past_alike (shape_of blocks.parents) (graph_of blocks) shaped

  pub future_shaped : (z : ℕ) → future (graph_of blocks) (keys (graph_of blocks)) z ≡ future (shape_of blocks.parents) (keys (shape_of blocks.parents)) z
  future_shaped z =
      future_alike (shape_of blocks.parents) (graph_of blocks) shaped (keys (graph_of blocks)) z
      ∙ ap (λ (set : List ℕ). future (shape_of blocks.parents) set z) shaped.same_keys

  pub related_shaped : (x y : ℕ) → related (graph_of blocks) x y ≡ related (shape_of blocks.parents) x y
  related_shaped = related_alike (shape_of blocks.parents) (graph_of blocks) shaped

  unrelated_shaped : (y : ℕ) → unrelated_below (graph_of blocks) y ≡ unrelated_below (shape_of blocks.parents) y
  unrelated_shaped y = λ k. filter (λ x. not (related_shaped x y k)) (range_with_len 0 y)

  -- the pairs below a number
  pub below_shaped : (n : ℕ) → pairs_below (graph_of blocks) n ≡ pairs_below (shape_of blocks.parents) n
  below_shaped n = λ k. flat_map (λ y. map (λ x. (x, y)) (unrelated_shaped y k)) (range_with_len 0 n)

  pub pairs_shaped : pairs_of blocks ≡ pairs_in blocks.parents
  pairs_shaped = λ k. flat_map (λ y. map (λ x. (x, y)) (unrelated_shaped y k)) (range_with_len 0 (length blocks.parents))

  -- ---- keys and parents

  pub key_in : (z : ℕ) → z < length blocks.parents → has (keys (graph_of blocks)) z ≡ true
  key_in z le = ap (λ (l : List ℕ). has l z) shaped.same_keys ∙ shape.key_in blocks.parents z le

  pub key_out : (z : ℕ) → length blocks.parents ≤ z → has (keys (graph_of blocks)) z ≡ false
  key_out z le = ap (λ (l : List ℕ). has l z) shaped.same_keys ∙ shape.key_out blocks.parents z le

  -- the keys are the numbers
  pub keys_are_numbers : keys (graph_of blocks) ≡ range_with_len 0 (length blocks.parents)
  keys_are_numbers = shaped.same_keys ∙ shapes.keys_are_numbers blocks.parents

  pub parents_numbered : (z : ℕ) → z < length blocks.parents → parents_of (graph_of blocks) z ≡ get_or blocks.parents z []
  parents_numbered z le = shaped.parents z ∙ shapes.parents_numbered blocks.parents z le

  -- the rank of a number
  pub rank_numbered : (z : ℕ) → z < length blocks.parents → rank_of (graph_of blocks) z ≡ rank_at blocks z
  rank_numbered z le = (let e : 0 + z ≡ z = zero-add z in rw e at (rank_from (rank_at blocks) 0 blocks.parents z le))

  -- ---- complete blocks

  pub complete_numbered : (z : ℕ) → AreInOrder blocks.parents → z < length blocks.parents → has (complete (graph_of blocks)) z ≡ true
  complete_numbered z order le =
      ap (λ (l : List ℕ). has l z) (complete_alike (shape_of blocks.parents) (graph_of blocks) shaped)
      ∙ shapes.complete_numbered blocks.parents z order le

  pub all_complete : AreInOrder blocks.parents → (z : ℕ) → z < length blocks.parents → has (complete (graph_of blocks)) z ≡ true
  all_complete order z le = complete_numbered z order le

  -- all numbers together are a downset
  pub downset_numbered : AreInOrder blocks.parents → IsDownset (graph_of blocks) (keys (graph_of blocks))
  downset_numbered order =
      subst (IsDownset (graph_of blocks)) (sym shaped.same_keys)
      (downset_alike (shape_of blocks.parents) (graph_of blocks) shaped (keys (shape_of blocks.parents)) (shapes.downset_numbered blocks.parents order))

  -- ---- pasts, futures and pairs

  -- ancestors have lower numbers
  pub ancestors_lower : (a z : ℕ) → AreInOrder blocks.parents → z < length blocks.parents → in_past (graph_of blocks) a z ≡ true → a < z
  ancestors_lower a z order le reached = shapes.ancestors_lower blocks.parents a z order le (sym (in_past_shaped a z) ∙ reached)

  -- the members of the rows are those that the graph says
  pub past_members : (a z : ℕ) → AreInOrder blocks.parents → z < length blocks.parents → has (past (graph_of blocks) z) a ≡ in_past (graph_of blocks) a z
  past_members a z order le =
      ap (λ (l : List ℕ). has l a) (past_shaped z) ∙ shapes.past_members blocks.parents a z order le ∙ sym (in_past_shaped a z)

  pub future_members : (z w : ℕ) → has (future (graph_of blocks) (keys (graph_of blocks)) z) w ≡ in_past (graph_of blocks) z w
  future_members z w =
      ap (λ (l : List ℕ). has l w) (future_shaped z) ∙ shapes.future_members blocks.parents z w ∙ sym (in_past_shaped z w)

  -- each pair of the list is one of unrelated blocks
  pub pair_kind : (i : ℕ) (pair : ℕ × ℕ) → slice_get (pairs_of blocks) i ≡ Some pair → IsPair blocks pair
  pair_kind i pair there =
      let kind = shapes.pair_kind blocks.parents i pair (ap (λ (l : List (ℕ × ℕ)). slice_get l i) (sym pairs_shaped) ∙ there) in
      record { order = kind.order; within = kind.within; unrelated = related_shaped pair.0 pair.1 ∙ kind.unrelated }

  -- pairs stand by their higher numbers
  pub pairs_ascend : (i j : ℕ) (pair later : ℕ × ℕ) → AreInOrder blocks.parents → i ≤ j → slice_get (pairs_of blocks) i ≡ Some pair
      → slice_get (pairs_of blocks) j ≡ Some later → pair.1 ≤ later.1
  pairs_ascend i j pair later order le here there =
      fronts.pairs_ascend blocks.parents i j pair later order le (ap (λ (l : List (ℕ × ℕ)). slice_get l i) (sym pairs_shaped) ∙ here)
      (ap (λ (l : List (ℕ × ℕ)). slice_get l j) (sym pairs_shaped) ∙ there)

  key_below : (z : ℕ) → has (keys (graph_of blocks)) z ≡ true → z < length blocks.parents
  key_below z there = elim (cases_lt z (length blocks.parents)) [ inl less ↦ less | inr le ↦ absurd (false≢true (sym (key_out z le) ∙ there)) ]

  -- the numbered blocks are a graph, and block 0 is genesis
  pub IsGraph_numbered : IsNumbered blocks → IsGraph (graph_of blocks) 0
  IsGraph_numbered h = record {
    distinct = subst AreDistinct (sym keys_are_numbers) (AreDistinct-range 0 (length blocks.parents));
    ranks = λ a b a_in b_in same. one_rank a b (key_below a a_in) (key_below b b_in) same;
    there = key_in 0 h.some;
    rootless = parents_numbered 0 h.some ∙ h.genesis;
    one = λ z there none.
        let inside : z < length blocks.parents = key_below z there in
        elim (cases_lt 0 z) [
          | inl less ↦ (let long : 0 < length (get_or blocks.parents z []) = h.rooted z less inside in
              let short : length (get_or blocks.parents z []) ≡ 0 = ap length (sym (parents_numbered z inside) ∙ none) in
              absurd (omega arith))
          | inr le ↦ omega arith
        ];
  }
    where
      -- ids tell ranks apart
      one_rank : (a b : ℕ) → a < length blocks.parents → b < length blocks.parents → rank_of (graph_of blocks) a ≡ rank_of (graph_of blocks) b → a ≡ b
      one_rank a b a_in b_in same =
          let ids : get_or blocks.ids a 0 ≡ get_or blocks.ids b 0 =
          sym (ap (λ (r : Rank). r.id) (rank_numbered a a_in)) ∙ ap (λ (r : Rank). r.id) same ∙ ap (λ (r : Rank). r.id) (rank_numbered b b_in) in
          let a_there : a < length blocks.ids = omega (arith, h.long, a_in) in
          let b_there : b < length blocks.ids = omega (arith, h.long, b_in) in
          one_place blocks.ids (get_or blocks.ids b 0) a b h.distinct
          (slice_get-get_or blocks.ids a 0 a_there ∙ ap (λ (k : ℕ). Some k) ids) (slice_get-get_or blocks.ids b 0 b_there)

-- ---- one block more

module _ (blocks : Numbered) (id salt : ℕ) (parents : List ℕ) where
  -- a block that was there keeps its past
  pub past_old : (a z : ℕ) → AreInOrder blocks.parents → z < length blocks.parents
      → in_past (graph_of (with_next blocks id salt parents)) a z ≡ in_past (graph_of blocks) a z
  past_old a z order le =
      in_past_shaped (with_next blocks id salt parents) a z ∙ grown.past_old blocks.parents parents a z order le ∙ sym (in_past_shaped blocks a z)

  -- the new block isn't in the past of one that was there
  pub past-no_new : (z : ℕ) → AreInOrder blocks.parents → z < length blocks.parents
      → in_past (graph_of (with_next blocks id salt parents)) (length blocks.parents) z ≡ false
  past-no_new z order le =
      in_past_shaped (with_next blocks id salt parents) (length blocks.parents) z ∙ grown.past-no_new blocks.parents parents z order le

  -- its pairs stand behind those from before
  pub pairs_behind : AreInOrder blocks.parents
      → pairs_of (with_next blocks id salt parents)
      ≡ pairs_of blocks ++ map (λ x. (x, length blocks.parents)) (unrelated_below (graph_of (with_next blocks id salt parents)) (length blocks.parents))
  pairs_behind order =
      pairs_shaped (with_next blocks id salt parents) ∙ grown.pairs_behind blocks.parents parents order
      ∙ (λ k. sym (pairs_shaped blocks) k ++ map (λ x. (x, length blocks.parents)) (sym (unrelated_shaped (with_next blocks id salt parents) (length blocks.parents)) k))

  -- a block that was there keeps its rank
  pub rank_old : (z : ℕ) → IsNumbered blocks → z < length blocks.parents → rank_at (with_next blocks id salt parents) z ≡ rank_at blocks z
  rank_old z h le =
      let id_in : z < length blocks.ids = omega (arith, h.long, le) in
      let salt_in : z < length blocks.salts = omega (arith, h.salts_long, le) in
      λ k. record { salt = get_or-append blocks.salts (salt ∷ []) 0 z salt_in k; id = get_or-append blocks.ids (id ∷ []) 0 z id_in k }
