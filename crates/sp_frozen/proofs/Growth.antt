-- One block more in the graph: the votes of the blocks before it stay, and so do their frozen rows.
use Rattle.std.proofs.Common.{◌≡◌, ◌⊎◌, ℕ, zero, suc, ◌+◌, ◌<◌, ◌≤◌, Bool, true, false, ◌&&◌, List, [], ◌∷◌, ◌++◌, map, length, get_or, Option, Some, refl, sym, ap, subst, ◌∙◌, ltb, inl, inr, arith, length-append}
use Rattle.std.specs.Prelude.{not, ℤ, slice_get, unwrap_or}
use Rattle.std.proofs.Math.ListN.{get_or-append}
use Rattle.std.proofs.lemmas.Bool.{false≢true, cases_lt, ltb-true}
use Rattle.sp_dag.specs.Numbered.{Numbered, IsNumbered, graph_of, pairs_of, unrelated_below, with_next, AreInOrder}
use Rattle.sp_dag.proofs.Ranked.{past_old, pairs_behind, key_in, key_out, keys_are_numbers, complete_numbered, downset_numbered, parents_numbered, rank_numbered, rank_old}
use Rattle.sp_dag.proofs.Indexing.{slice_get-longer, slice_get-shorter}
use Rattle.sp_dag.proofs.Whole.{AreDistinct-range}
use Rattle.sp_model.specs.Agreement.{AgreesOn}
use Rattle.sp_model.specs.Graph.{AreDistinct, IsDownset, has, keys}
use Rattle.sp_model.specs.Votes.{vote}
use Rattle.sp_model.specs.Loose.{is_loose, is_plus, is_minus}
use Rattle.sp_model.proofs.Loose.{frozen_same}
use Rattle.sp_model.proofs.Match.{vote_restricted}
use Rattle.sp_frozen.specs.Voters.{FrozenRows, HoldsFrozen}

-- a pair behind those from before is one of the new block
abbrev of_block : ℕ → List ℕ → List (ℕ × ℕ)
of_block n l = map (λ k. (k, n)) l

behind_one : (l : List ℕ) (n i x y : ℕ) → slice_get (of_block n l) i ≡ Some (x, y) → y ≡ n
behind_one [] n zero x y at = (cc)
behind_one [] n (suc i) x y at = (cc)
behind_one (k ∷ l) n zero x y at = sym (ap (λ (o : Option (ℕ × ℕ)). (unwrap_or o (0, 0)).1) at)
behind_one (k ∷ l) n (suc i) x y at = behind_one l n i x y at

behind : (pairs : List (ℕ × ℕ)) (l : List ℕ) (n i x y : ℕ) → length pairs ≤ i → slice_get (pairs ++ of_block n l) i ≡ Some (x, y) → y ≡ n
behind [] l n i x y le at = behind_one l n i x y at
behind (p ∷ ps) l n zero x y le at = absurd (omega arith)
behind (p ∷ ps) l n (suc i) x y le at = behind ps l n i x y (omega arith) at

module _ (table : Numbered) (id salt : ℕ) (ps : List ℕ) (numbered : IsNumbered table) (order' : AreInOrder (table.parents ++ ps ∷ [])) where
  abbrev more : Numbered
  more = with_next table id salt ps

  order : AreInOrder table.parents
  order = numbered.order

  long : length more.parents ≡ length table.parents + 1
  long = omega (arith, length-append table.parents (ps ∷ []))

  -- a pair of the longer table is one of the table, or one of the new block
  pub pair_before : (i x y : ℕ) → slice_get (pairs_of more) i ≡ Some (x, y) → (slice_get (pairs_of table) i ≡ Some (x, y)) ⊎ ((length (pairs_of table) ≤ i) × (y ≡ length table.parents))
  pair_before i x y at =
      let new : List ℕ = unrelated_below (graph_of more) (length table.parents) in
      let whole : slice_get (pairs_of table ++ of_block (length table.parents) new) i ≡ Some (x, y) = ap (λ (l : List (ℕ × ℕ)). slice_get l i) (sym (pairs_behind table id salt ps order)) ∙ at in
      elim (cases_lt i (length (pairs_of table))) [
        | inl less ↦ inl (slice_get-shorter (pairs_of table) (of_block (length table.parents) new) i (x, y) whole less)
        | inr high ↦ inr (high, behind (pairs_of table) new (length table.parents) i x y high whole)
      ]

  pub pair_after : (i x y : ℕ) → slice_get (pairs_of table) i ≡ Some (x, y) → slice_get (pairs_of more) i ≡ Some (x, y)
  pair_after i x y at =
      ap (λ (l : List (ℕ × ℕ)). slice_get l i) (pairs_behind table id salt ps order)
      ∙ slice_get-longer (pairs_of table) (of_block (length table.parents) (unrelated_below (graph_of more) (length table.parents))) i (x, y) at

  pub more_pairs : length (pairs_of table) ≤ length (pairs_of more)
  more_pairs =
      omega (arith, ap length (pairs_behind table id salt ps order), length-append (pairs_of table) (of_block (length table.parents) (unrelated_below (graph_of more) (length table.parents))))

  pub agrees : (set : List ℕ) → ((z : ℕ) → has set z ≡ true → z < length table.parents) → AgreesOn set (graph_of table) (graph_of more)
  agrees set below = record {
    distinct = subst AreDistinct (sym (keys_are_numbers table)) (AreDistinct-range 0 (length table.parents));
    other_distinct = subst AreDistinct (sym (keys_are_numbers more)) (AreDistinct-range 0 (length more.parents));
    there = λ z h. (let lt : z < length table.parents = below z h in key_in more z (omega (arith, long)));
    parents = λ z h.
        let lt : z < length table.parents = below z h in
        parents_numbered more z (omega (arith, long)) ∙ get_or-append table.parents (ps ∷ []) [] z lt ∙ sym (parents_numbered table z lt);
    ranks = λ z h.
        let lt : z < length table.parents = below z h in
        rank_numbered more z (omega (arith, long)) ∙ rank_old table id salt ps z numbered lt ∙ sym (rank_numbered table z lt);
    profile = refl;
  }

  -- a downset stays one
  pub downset_stays : (set : List ℕ) → ((z : ℕ) → has set z ≡ true → z < length table.parents) → IsDownset (graph_of table) set → IsDownset (graph_of more) set
  downset_stays set below down = record {
    all_complete = λ z h. (let lt : z < length table.parents = below z h in complete_numbered more z order' (omega (arith, long)));
    closed = λ z a h r. down.closed z a h (sym (past_old table id salt ps a z order (below z h)) ∙ r);
  }

  pub loose_stays : (z x y : ℕ) → z < length table.parents → is_loose (graph_of more) z x y ≡ is_loose (graph_of table) z x y
  loose_stays z x y lt = rw (past_old table id salt ps x z order lt, past_old table id salt ps y z order lt) refl

  pub vote_stays : (set : List ℕ) (z x y : ℕ) → ((z : ℕ) → has set z ≡ true → z < length table.parents) → IsDownset (graph_of table) set → AreDistinct set → has set z ≡ true
      → vote (graph_of more) set z x y ≡ vote (graph_of table) set z x y
  vote_stays set z x y below down distinct member = vote_restricted (graph_of table) (graph_of more) set z x y (agrees set below) down distinct member

  keys_below : (z : ℕ) → has (keys (graph_of table)) z ≡ true → z < length table.parents
  keys_below z h = elim (cases_lt z (length table.parents)) [ inl less ↦ less | inr high ↦ absurd (false≢true (sym (key_out table z high) ∙ h)) ]

  -- a frozen vote stays
  frozen_vote_stays : (z x y : ℕ) → z < length table.parents → is_loose (graph_of table) z x y ≡ false
      → vote (graph_of more) (keys (graph_of more)) z x y ≡ vote (graph_of table) (keys (graph_of table)) z x y
  frozen_vote_stays z x y lt frozen =
      frozen_same (graph_of more) (keys (graph_of more)) (keys (graph_of table)) z x y
      (downset_numbered more order') (downset_stays (keys (graph_of table)) keys_below (downset_numbered table order))
      (key_in more z (omega (arith, long))) (key_in table z lt) (loose_stays z x y lt ∙ frozen)
      ∙ vote_stays (keys (graph_of table)) z x y keys_below (downset_numbered table order) (subst AreDistinct (sym (keys_are_numbers table)) (AreDistinct-range 0 (length table.parents))) (key_in table z lt)

  side_stays : (votes : ℤ → Bool) (n x y : ℕ) (row : List ℕ) → n ≤ length table.parents
      → ((z : ℕ) → has row z ≡ (ltb z n && (not (is_loose (graph_of table) z x y) && votes (vote (graph_of table) (keys (graph_of table)) z x y))))
      → (z : ℕ) → has row z ≡ (ltb z n && (not (is_loose (graph_of more) z x y) && votes (vote (graph_of more) (keys (graph_of more)) z x y)))
  side_stays votes n x y row le is z = is z ∙ at (ltb z n) refl
    where
      frozen : z < length table.parents → (l : Bool) → is_loose (graph_of table) z x y ≡ l
          → (not l && votes (vote (graph_of table) (keys (graph_of table)) z x y)) ≡ (not l && votes (vote (graph_of more) (keys (graph_of more)) z x y))
      frozen lt true e = refl
      frozen lt false e = ap votes (sym (frozen_vote_stays z x y lt e))

      at : (b : Bool) → ltb z n ≡ b
          → (b && (not (is_loose (graph_of table) z x y) && votes (vote (graph_of table) (keys (graph_of table)) z x y)))
          ≡ (b && (not (is_loose (graph_of more) z x y) && votes (vote (graph_of more) (keys (graph_of more)) z x y)))
      at false e = refl
      at true e =
          let lt : z < n = ltb-true z n e in
          let inside : z < length table.parents = omega arith in
          rw (loose_stays z x y inside) (frozen inside (is_loose (graph_of table) z x y) refl)

  pub frozen_stays : (frozen : FrozenRows) → HoldsFrozen table frozen → HoldsFrozen more frozen
  frozen_stays frozen holds = record {
    within = omega (arith, long, holds.within);
    few = omega (arith, holds.few, more_pairs);
    below = λ i x y at lt. elim (pair_before i x y at) [
      | inl old ↦ holds.below i x y old lt
      | inr new ↦ absurd (omega (arith, new.0, lt, holds.few))
    ];
    there = λ i x y at lt. elim (pair_before i x y at) [
      | inl old ↦ holds.there i x y old lt
      | inr new ↦ absurd (omega (arith, new.1, lt, holds.within))
    ];
    each = λ i x y at lt. elim (pair_before i x y at) [
      | inl old ↦ (let rows = holds.each i x y old lt in
          record {
            plus_is = side_stays is_plus frozen.blocks x y (get_or frozen.pluses i []) holds.within rows.plus_is;
            minus_is = side_stays is_minus frozen.blocks x y (get_or frozen.minuses i []) holds.within rows.minus_is;
          })
      | inr new ↦ absurd (omega (arith, new.0, lt, holds.few))
    ];
  }
