-- Where the pairs of a block begin among all: pairs stand by their higher numbers.
use Rattle.std.proofs.Common.{◌≡◌, ℕ, zero, suc, ◌+◌, ◌-◌, ◌<◌, ◌≤◌, List, [], ◌∷◌, ◌++◌, length, map, take, drop, get_or, sym, ap, subst, ◌∙◌, inl, inr, Some, arith, append-nil, append_assoc, length-append}
use Rattle.std.specs.Prelude.{All, slice_get, ◌↔◌}
use Rattle.std.specs.List.{flat_map, range_with_len}
use Rattle.std.proofs.lemmas.Bool.{cases_lt}
use Rattle.std.proofs.lemmas.Option.{get_or_from_slice_get}
use Rattle.std.proofs.lemmas.List.{get_or-take, length-take-le, take-append-drop}
use Rattle.std.proofs.lemmas.List.Concat.{flat_map-append}
use Rattle.std.proofs.lemmas.List.Elements.{All-map}
use Rattle.std.proofs.Math.ListN.{get_or-append}
use Rattle.std.proofs.Math.Seq.{get_or-append_seam}
use Rattle.sp_model.specs.Graph.{Graph}
use Rattle.sp_dag.specs.Numbered.{pairs_below, unrelated_below, AreInOrder}
use Rattle.sp_dag.specs.Shapes.{shape_of, pairs_in}
use Rattle.sp_dag.specs.Right.{AreStarts}
use Rattle.sp_dag.proofs.Fronts.{behind_is_later, order_front}
use Rattle.sp_dag.proofs.Grown.{flat_map_same, unrelated_old}
use Rattle.sp_dag.proofs.Indexing.{slice_get-shorter}
use Rattle.sp_dag.proofs.Whole.{All-flat_range}

-- the pairs of one block, as the higher one
abbrev of_block : Graph → ℕ → List (ℕ × ℕ)
of_block g y = map (λ x. (x, y)) (unrelated_below g y)

range_split : (a n m : ℕ) → range_with_len a (n + m) ≡ range_with_len a n ++ range_with_len (a + n) m
range_split a zero m =
    let none : zero + m ≡ m = omega arith in
    let same : a ≡ a + zero = omega arith in ap (range_with_len a) none ∙ ap (λ (k : ℕ). range_with_len k m) same
range_split a (suc n) m =
    let first : suc n + m ≡ suc (n + m) = omega arith in
    let same : (a + 1) + n ≡ a + suc n = omega arith in
    ap (range_with_len a) first
    ∙ ap (λ (l : List ℕ). a ∷ l) (range_split (a + 1) n m ∙ ap (λ (k : ℕ). range_with_len (a + 1) n ++ range_with_len k m) same)

-- behind the pairs below a number stand those of the later blocks
pairs_split : (g : Graph) (n m : ℕ) → pairs_below g (n + m) ≡ pairs_below g n ++ flat_map (of_block g) (range_with_len n m)
pairs_split g n m =
    let from : 0 + n ≡ n = omega arith in
    ap (flat_map (of_block g)) (range_split 0 n m ∙ ap (λ (k : ℕ). range_with_len 0 n ++ range_with_len k m) from) ∙ flat_map-append (of_block g) (range_with_len 0 n) (range_with_len n m)

-- each pair of these blocks has one of them as the higher one
later_pairs : (g : Graph) (n m : ℕ) → All (λ (pair : ℕ × ℕ). n ≤ pair.1) (flat_map (of_block g) (range_with_len n m))
later_pairs g n m =
    All-flat_range (λ (pair : ℕ × ℕ). n ≤ pair.1) (of_block g) n m
    (λ y low high. All-map (λ (pair : ℕ × ℕ). n ≤ pair.1) (λ x. (x, y)) (unrelated_below g y) (λ k d le. omega arith))

earlier_pairs : (g : Graph) (n : ℕ) → All (λ (pair : ℕ × ℕ). pair.1 < n) (pairs_below g n)
earlier_pairs g n =
    All-flat_range (λ (pair : ℕ × ℕ). pair.1 < n) (of_block g) 0 n
    (λ y low high. All-map (λ (pair : ℕ × ℕ). pair.1 < n) (λ x. (x, y)) (unrelated_below g y) (λ k d le. omega arith))

-- the pairs below a number are no more than those below a higher one
pub fewer_below : (g : Graph) (n all : ℕ) → n ≤ all → length (pairs_below g n) ≤ length (pairs_below g all)
fewer_below g n all le =
    let rest : n + (all - n) ≡ all = omega arith in
    let split : pairs_below g all ≡ pairs_below g n ++ flat_map (of_block g) (range_with_len n (all - n)) =
    ap (pairs_below g) (sym rest) ∙ pairs_split g n (all - n) in
    omega (arith, ap length split, length-append (pairs_below g n) (flat_map (of_block g) (range_with_len n (all - n))))

-- a pair stands behind those below a number exactly where its higher block isn't below it
pub stands_behind : (g : Graph) (n all i : ℕ) (pair : ℕ × ℕ) → n ≤ all → slice_get (pairs_below g all) i ≡ Some pair
    → (length (pairs_below g n) ≤ i) ↔ (n ≤ pair.1)
stands_behind g n all i pair le there =
    let more = flat_map (of_block g) (range_with_len n (all - n)) in
    let rest : n + (all - n) ≡ all = omega arith in
    let split : pairs_below g all ≡ pairs_below g n ++ more = ap (pairs_below g) (sym rest) ∙ pairs_split g n (all - n) in
    let here : slice_get (pairs_below g n ++ more) i ≡ Some pair = ap (λ (l : List (ℕ × ℕ)). slice_get l i) (sym split) ∙ there in (
      λ behind. behind_is_later (pairs_below g n) more n i pair (later_pairs g n (all - n)) behind here,
      λ later. elim (cases_lt i (length (pairs_below g n))) [
        | inl less ↦ (let own = slice_get-shorter (pairs_below g n) more i pair here less in
            let lower : pair.1 < n =
            subst (λ (q : ℕ × ℕ). q.1 < n) (get_or_from_slice_get (pairs_below g n) i pair pair own) (earlier_pairs g n i pair less) in
            absurd (omega (arith, later, lower)))
        | inr past ↦ past
      ],
    )

-- a block that is added changes no pairs of those before it
below_push : (table : List (List ℕ)) (ps : List ℕ) (y : ℕ) → AreInOrder table → y ≤ length table
    → pairs_below (shape_of (table ++ ps ∷ [])) y ≡ pairs_below (shape_of table) y
below_push table ps y order le =
    flat_map_same (of_block (shape_of (table ++ ps ∷ []))) (of_block (shape_of table)) 0 y
    (λ k less. ap (map (λ x. (x, k))) (unrelated_old table ps k order (omega arith)))

pub AreStarts-push : (table : List (List ℕ)) (starts : List ℕ) (ps : List ℕ) (start : ℕ) → AreInOrder table → AreStarts table starts
    → start ≡ length (pairs_in table) → AreStarts (table ++ ps ∷ []) (starts ++ start ∷ [])
AreStarts-push table starts ps start order h is = record {
  long = length-append starts (start ∷ []) ∙ ap (λ (k : ℕ). k + 1) h.long ∙ sym (length-append table (ps ∷ []));
  right = λ y le. elim (cases_lt y (length table)) [
    | inl less ↦ get_or-append starts (start ∷ []) 0 y (omega (arith, h.long)) ∙ h.right y less
        ∙ ap length (sym (below_push table ps y order (omega arith)))
    | inr past ↦ (let last : y ≡ length table = omega (arith, le, length-append table (ps ∷ [])) in
        let at : y ≡ length starts = omega (arith, last, h.long) in
        ap (λ (k : ℕ). get_or (starts ++ start ∷ []) k 0) at ∙ get_or-append_seam starts start [] 0 ∙ is
        ∙ ap (λ (k : ℕ). length (pairs_below (shape_of table) k)) (sym last)
        ∙ ap length (sym (below_push table ps y order (omega (arith, last)))))
  ];
}

-- the first blocks have the same pairs
below_front : (front back : List (List ℕ)) (y : ℕ) → AreInOrder (front ++ back) → y ≤ length front
    → pairs_below (shape_of (front ++ back)) y ≡ pairs_below (shape_of front) y
below_front front [] y order le = ap (λ (t : List (List ℕ)). pairs_below (shape_of t) y) (append-nil front)
below_front front (ps ∷ back) y order le =
    let whole : (front ++ ps ∷ []) ++ back ≡ front ++ ps ∷ back = append_assoc front (ps ∷ []) back in
    let order' : AreInOrder ((front ++ ps ∷ []) ++ back) = subst (λ (t : List (List ℕ)). AreInOrder t) (sym whole) order in
    ap (λ (t : List (List ℕ)). pairs_below (shape_of t) y) (sym whole)
    ∙ below_front (front ++ ps ∷ []) back y order' (omega (arith, le, length-append front (ps ∷ [])))
    ∙ below_push front ps y (order_front front (ps ∷ back) order) le

pub AreStarts-take : (table : List (List ℕ)) (starts : List ℕ) (n : ℕ) → AreInOrder table → n ≤ length table → AreStarts table starts
    → AreStarts (take n table) (take n starts)
AreStarts-take table starts n order le h =
    let long : length (take n table) ≡ n = length-take-le n table le in
    let whole : take n table ++ drop n table ≡ table = take-append-drop n table in
    let order' : AreInOrder (take n table ++ drop n table) = subst (λ (t : List (List ℕ)). AreInOrder t) (sym whole) order in
    record {
      long = length-take-le n starts (omega (arith, h.long, le)) ∙ sym long;
      right = λ y less.
          get_or-take n starts y 0 (omega (arith, less, long)) ∙ h.right y (omega (arith, less, long, le))
          ∙ ap (λ (t : List (List ℕ)). length (pairs_below (shape_of t) y)) (sym whole)
          ∙ ap length (below_front (take n table) (drop n table) y order' (omega (arith, less)));
    }

pub AreStarts-same : (t t' : List (List ℕ)) (s s' : List ℕ) → t' ≡ t → s' ≡ s → AreStarts t s → AreStarts t' s'
AreStarts-same t t' s s' is_t is_s h =
    subst (λ (x : List (List ℕ)). AreStarts x s') (sym is_t) (subst (λ (x : List ℕ). AreStarts t x) (sym is_s) h)
