-- One block more in the graph, beside the set: the view stays one.
use Rattle.std.proofs.Common.{◌≡◌, ℕ, ◌<◌, ◌≤◌, Bool, true, cond, ◌&&◌, List, [], ◌∷◌, ◌++◌, length, Option, Some, None, refl, sym, ap, subst, ◌∙◌, eqb, inl, inr, arith, length-append}
use Rattle.std.specs.Prelude.{filter, ℤ}
use Rattle.std.proofs.lemmas.Bool.{false_from_ne_true, or_left, or_right, eq-eqb, and_right}
use Rattle.sp_dag.specs.Numbered.{Numbered, IsNumbered, graph_of, with_next, AreInOrder}
use Rattle.sp_model.specs.Graph.{has}
use Rattle.sp_model.specs.Votes.{vote}
use Rattle.sp_model.specs.Loose.{is_loose, is_plus, is_minus}
use Rattle.sp_frozen.proofs.Growth.{pair_before, more_pairs, downset_stays, loose_stays, vote_stays}
use Rattle.sp_rows.specs.Pool.{Pool}
use Rattle.sp_view.specs.Stored.{count_of, row_of}
use Rattle.sp_view.specs.Settled.{IsAsked}
use Rattle.sp_view.specs.Views.{Viewed, entry_at, held, IsEntry, IsView}
use Rattle.sp_view.proofs.Held.{entry_moves, holds_held}
use Rattle.sp_view.proofs.Members.{row_distinct}
use Rattle.sp_view.proofs.Votes.{none_past}

-- tests that agree on the members keep the same ones
filter_agree : (p q : ℕ → Bool) (xs : List ℕ) → ((k : ℕ) → has xs k ≡ true → p k ≡ q k) → filter p xs ≡ filter q xs
filter_agree p q [] h = refl
filter_agree p q (x ∷ xs) h =
    let here : p x ≡ q x = h x (or_left (eqb x x) (has xs x) (eq-eqb x x refl)) in
    let rest : filter p xs ≡ filter q xs = filter_agree p q xs (λ k there. h k (or_right (eqb x k) (has xs k) there)) in
    ap (λ (b : Bool). cond b (x ∷ filter p xs) (filter p xs)) here ∙ ap (λ (l : List ℕ). cond (q x) (x ∷ l) l) rest

module _ (table : Numbered) (id salt : ℕ) (ps : List ℕ) (numbered : IsNumbered table) (order' : AreInOrder (table.parents ++ ps ∷ [])) (set : List ℕ)
    (asked : IsAsked (graph_of table) set) (below : (z : ℕ) → has set z ≡ true → z < length table.parents) where
  side_agrees : (votes : ℤ → Bool) (x y : ℕ)
      → filter (λ z. is_loose (graph_of (with_next table id salt ps)) z x y && votes (vote (graph_of (with_next table id salt ps)) set z x y)) set
      ≡ filter (λ z. is_loose (graph_of table) z x y && votes (vote (graph_of table) set z x y)) set
  side_agrees votes x y =
      filter_agree _ _ set (λ z h.
      rw (loose_stays table id salt ps numbered order' z x y (below z h), vote_stays table id salt ps numbered order' set z x y below asked.down (row_distinct set asked.row) h) refl)

  entry_stays : (x y : ℕ) (pool : Pool) (entry : Option (ℕ × ℕ)) → IsEntry (graph_of table) set x y pool entry → IsEntry (graph_of (with_next table id salt ps)) set x y pool entry
  entry_stays x y pool None is = is
  entry_stays x y pool (Some e) is = (is.0, record { plus_is = is.1.plus_is ∙ sym (side_agrees is_plus x y); minus_is = is.1.minus_is ∙ sym (side_agrees is_minus x y) })

-- a view of a graph is one of the graph with a block more
pub view_stays : (table : Numbered) (id salt : ℕ) (ps : List ℕ) (view : Viewed) (pool : Pool) → IsNumbered table → AreInOrder (table.parents ++ ps ∷ [])
    → IsView table view pool → IsView (with_next table id salt ps) view pool
view_stays table id salt ps view pool numbered order' is = record {
  order = order';
  asked = record { row = is.asked.row; down = downset_stays table id salt ps numbered order' view.members is.below is.asked.down };
  below = λ z h. (let lt : z < length table.parents = is.below z h in omega (arith, length-append table.parents (ps ∷ [])));
  few = omega (arith, is.few, more_pairs table id salt ps numbered order');
  entry = λ i x y at. elim (pair_before table id salt ps numbered order' i x y at) [
    | inl old ↦ entry_stays table id salt ps numbered order' view.members is.asked is.below x y pool (entry_at view.entries i) (is.entry i x y old)
    | inr new ↦ subst (λ (e : Option (ℕ × ℕ)). IsEntry (graph_of (with_next table id salt ps)) view.members x y pool e) (sym (none_past view.entries i (omega (arith, new.0, is.few))))
        (and_right (has view.members x) (has view.members y) (false_from_ne_true (has view.members y) (λ h. (let lt : y < length table.parents = is.below y h in omega (arith, new.1)))))
  ];
  live = is.live;
  once = is.once;
}

-- a view is one in each pool whose counts suffice and which has the same rows
pub view_moves : (table : Numbered) (view : Viewed) (pool pool' : Pool) → IsView table view pool → ((row : ℕ) → held view.entries row ≤ count_of pool' row)
    → ((row : ℕ) → 0 < held view.entries row → row_of pool' row ≡ row_of pool row) → IsView table view pool'
view_moves table view pool pool' is live same = record {
  order = is.order;
  asked = is.asked;
  below = is.below;
  few = is.few;
  entry = λ i x y at. entry_moves (graph_of table) view.members x y pool pool' (entry_at view.entries i) (λ row some. same row (omega (arith, holds_held view.entries i row))) (is.entry i x y at);
  live = live;
  once = is.once;
}
