-- The first blocks of a graph: their pasts, futures and pairs.
use Rattle.std.proofs.Common.{◌≡◌, ℕ, zero, suc, ◌+◌, ◌*◌, ◌<◌, ◌≤◌, Bool, true, false, ◌&&◌, List, [], ◌∷◌, ◌++◌, length, map, take, drop, refl, sym, ap, subst, ◌∙◌, inl, inr, Some, arith, add-one, append-nil, append_assoc, length-append, nat_lt}
use Rattle.std.specs.Prelude.{All, slice_get}
use Rattle.std.specs.List.{flat_map, range_with_len}
use Rattle.std.proofs.lemmas.Bool.{cases_lt, false≢true}
use Rattle.std.proofs.lemmas.Bool.Decides.{nat_tests}
use Rattle.std.proofs.lemmas.Option.{get_or_from_slice_get, slice_get_within}
use Rattle.std.proofs.lemmas.List.{get_or_past, length-take-le, take-append-drop}
use Rattle.std.proofs.lemmas.List.Concat.{flat_map-append}
use Rattle.std.proofs.lemmas.List.Elements.{All-append, All-map}
use Rattle.std.proofs.Math.ListN.{get_or-append, length-map}
use Rattle.sp_model.specs.Graph.{Graph, has, in_past}
use Rattle.sp_bits.specs.Places.{members_below, places_where}
use Rattle.sp_bits.proofs.Fronts.{members_below-places}
use Rattle.sp_bits.proofs.Sets.{places_same}
use Rattle.sp_dag.specs.Numbered.{pairs_below, unrelated_below, AreInOrder}
use Rattle.sp_dag.specs.Shapes.{shape_of, pairs_in}
use Rattle.sp_dag.proofs.Adds.{few_pass}
use Rattle.sp_dag.proofs.Grown.{past_old, pairs_behind}
use Rattle.sp_dag.proofs.Indexing.{slice_get-shorter}
use Rattle.sp_dag.proofs.Keys.{in_past-absent, key_out}
use Rattle.sp_dag.proofs.NewPairs.{range_more}
use Rattle.sp_dag.proofs.Whole.{pair_kind}

-- the first blocks stand in order
pub order_front : (front back : List (List ℕ)) → AreInOrder (front ++ back) → AreInOrder front
order_front front back order z p there =
    elim (cases_lt z (length front)) [
      | inl less ↦ order z p (ap (λ (l : List ℕ). has l p) (get_or-append front back [] z less) ∙ there)
      | inr past ↦ absurd (false≢true (sym (ap (λ (l : List ℕ). has l p) (get_or_past front z [] past)) ∙ there))
    ]

-- their pasts are the same
pub past_front : (front back : List (List ℕ)) (a z : ℕ) → AreInOrder (front ++ back) → z < length front
    → in_past (shape_of (front ++ back)) a z ≡ in_past (shape_of front) a z
past_front front [] a z order le = ap (λ (t : List (List ℕ)). in_past (shape_of t) a z) (append-nil front)
past_front front (ps ∷ back) a z order le =
    let whole : (front ++ ps ∷ []) ++ back ≡ front ++ ps ∷ back = append_assoc front (ps ∷ []) back in
    let order' : AreInOrder ((front ++ ps ∷ []) ++ back) = subst (λ (t : List (List ℕ)). AreInOrder t) (sym whole) order in
    ap (λ (t : List (List ℕ)). in_past (shape_of t) a z) (sym whole)
    ∙ past_front (front ++ ps ∷ []) back a z order' (omega (arith, length-append front (ps ∷ [])))
    ∙ past_old front ps a z (order_front front (ps ∷ back) order) le

-- what is left of a future
pub future_front : (front back : List (List ℕ)) (a : ℕ) (row : List ℕ) → AreInOrder (front ++ back)
    → row ≡ places_where (λ w. in_past (shape_of (front ++ back)) a w) → members_below row (length front) ≡ places_where (λ w. in_past (shape_of front) a w)
future_front front back a row order is =
    ap (λ (l : List ℕ). members_below l (length front)) is ∙ members_below-places (λ w. in_past (shape_of (front ++ back)) a w) (length front)
    ∙ places_same (λ w. in_past (shape_of (front ++ back)) a w && nat_lt w (length front)) (λ w. in_past (shape_of front) a w)
    (λ w le. elim (cases_lt w (length front)) [
      | inl less ↦ inside (nat_lt w (length front)) (in_past (shape_of (front ++ back)) a w) (in_past (shape_of front) a w) (grind (arith, nat_tests, less))
          (past_front front back a w order less)
      | inr past ↦ outside (nat_lt w (length front)) (in_past (shape_of (front ++ back)) a w) (in_past (shape_of front) a w) (grind (arith, nat_tests, past))
          (in_past-absent (shape_of front) a w (key_out front w past))
    ])
  where
    inside : (c d e : Bool) → c ≡ true → d ≡ e → (d && c) ≡ e
    inside true true e h k = k
    inside true false e h k = k
    inside false d e h k = absurd (false≢true h)

    outside : (c d e : Bool) → c ≡ false → e ≡ false → (d && c) ≡ e
    outside true d e h k = absurd (false≢true (sym h))
    outside false true e h k = sym k
    outside false false e h k = sym k

-- behind the pairs of the first blocks stand those of later ones
pub record AreBehind (front back : List (List ℕ)) : Type 0 where
  pub more : List (ℕ × ℕ)
  pub split : pairs_in (front ++ back) ≡ pairs_in front ++ more
  pub later : All (λ (pair : ℕ × ℕ). length front ≤ pair.1) more

pub pairs_front : (front back : List (List ℕ)) → AreInOrder (front ++ back) → AreBehind front back
pairs_front front [] order =
    record {
      more = [];
      split = ap pairs_in (append-nil front) ∙ sym (append-nil (pairs_in front));
      later = λ k d le. absurd (omega arith);
    }
pairs_front front (ps ∷ back) order =
    let whole : (front ++ ps ∷ []) ++ back ≡ front ++ ps ∷ back = append_assoc front (ps ∷ []) back in
    let rest = pairs_front (front ++ ps ∷ []) back (subst (λ (t : List (List ℕ)). AreInOrder t) (sym whole) order) in
    let below = unrelated_below (shape_of (front ++ ps ∷ [])) (length front) in
    let own : List (ℕ × ℕ) = map (λ x. (x, length front)) below in
    record {
      more = own ++ rest.more;
      split =
          ap pairs_in (sym whole) ∙ rest.split ∙ ap (λ (l : List (ℕ × ℕ)). l ++ rest.more) (pairs_behind front ps (order_front front (ps ∷ back) order))
          ∙ append_assoc (pairs_in front) own rest.more;
      later =
          All-append (λ (pair : ℕ × ℕ). length front ≤ pair.1) own rest.more
          (All-map (λ (pair : ℕ × ℕ). length front ≤ pair.1) (λ x. (x, length front)) below (λ k d le. omega arith))
          (λ k d le. (let far = rest.later k d le in omega (arith, far, length-append front (ps ∷ []))));
    }

-- a pair that stands behind those of the first blocks has a later one
pub behind_is_later : (xs more : List (ℕ × ℕ)) (n i : ℕ) (pair : ℕ × ℕ) → All (λ (pair : ℕ × ℕ). n ≤ pair.1) more → length xs ≤ i
    → slice_get (xs ++ more) i ≡ Some pair → n ≤ pair.1
behind_is_later [] more n i pair later le there =
    subst (λ (q : ℕ × ℕ). n ≤ q.1) (get_or_from_slice_get more i pair pair there) (later i pair (slice_get_within more i pair there))
behind_is_later (x ∷ xs) more n zero pair later le there = absurd (omega arith)
behind_is_later (x ∷ xs) more n (suc i) pair later le there = behind_is_later xs more n i pair later (omega arith) there

-- the pairs whose blocks are both among the first stand before all others
pub in_front : (front back : List (List ℕ)) (i : ℕ) (pair : ℕ × ℕ) → AreInOrder (front ++ back) → slice_get (pairs_in (front ++ back)) i ≡ Some pair
    → (pair.1 < length front → i < length (pairs_in front)) × (i < length (pairs_in front) → pair.1 < length front)
in_front front back i pair order there =
    let behind = pairs_front front back order in
    let here : slice_get (pairs_in front ++ behind.more) i ≡ Some pair = ap (λ (l : List (ℕ × ℕ)). slice_get l i) (sym behind.split) ∙ there in (
      λ lower. elim (cases_lt i (length (pairs_in front))) [
        | inl less ↦ less
        | inr past ↦ (let far = behind_is_later (pairs_in front) behind.more (length front) i pair behind.later past here in absurd (omega (arith, far, lower)))
      ],
      λ less. (pair_kind front i pair (slice_get-shorter (pairs_in front) behind.more i pair here less)).within,
    )

slice_get-there : (xs : List (ℕ × ℕ)) (i : ℕ) → i < length xs → (pair : ℕ × ℕ) × (slice_get xs i ≡ Some pair)
slice_get-there [] i le = absurd (omega arith)
slice_get-there (x ∷ xs) zero le = (x, refl)
slice_get-there (x ∷ xs) (suc i) le = slice_get-there xs i (omega arith)

-- where no pair from a place on is of the first blocks alone, and the one before it is, the pairs before it are theirs
pub front_length : (front back : List (List ℕ)) (left : ℕ) → AreInOrder (front ++ back) → left ≤ length (pairs_in (front ++ back))
    → ((i : ℕ) (pair : ℕ × ℕ) → i + 1 ≡ left → slice_get (pairs_in (front ++ back)) i ≡ Some pair → pair.1 < length front)
    → ((i : ℕ) (pair : ℕ × ℕ) → left ≤ i → slice_get (pairs_in (front ++ back)) i ≡ Some pair → length front ≤ pair.1)
    → left ≡ length (pairs_in front)
front_length front back left order within last others = omega (arith, low, high)
  where
    longer : length (pairs_in front) ≤ length (pairs_in (front ++ back))
    longer = (let behind = pairs_front front back order in omega (arith, ap length behind.split, length-append (pairs_in front) behind.more))

    low : left ≤ length (pairs_in front)
    low = at left within last
      where
        at : (k : ℕ) → k ≤ length (pairs_in (front ++ back)) → ((i : ℕ) (pair : ℕ × ℕ) → i + 1 ≡ k → slice_get (pairs_in (front ++ back)) i ≡ Some pair → pair.1 < length front)
            → k ≤ length (pairs_in front)
        at zero le last = omega arith
        at (suc k) le last =
            (let here = slice_get-there (pairs_in (front ++ back)) k (omega arith) in
            let inside : k < length (pairs_in front) = (in_front front back k here.0 order here.1).0 (last k here.0 (add-one k) here.1) in omega (arith, inside))

    high : length (pairs_in front) ≤ left
    high =
        elim (cases_lt left (length (pairs_in front))) [
          | inl less ↦ (let here = slice_get-there (pairs_in (front ++ back)) left (omega (arith, longer)) in
              let lower = (in_front front back left here.0 order here.1).1 less in
              let far = others left here.0 (omega arith) here.1 in absurd (omega (arith, lower, far)))
          | inr le ↦ le
        ]

-- there are few pairs
pub few_below : (g : Graph) (n : ℕ) → 2 * length (pairs_below g n) + n ≤ n * n
few_below g zero = omega arith
few_below g (suc n) =
    let of : ℕ → List (ℕ × ℕ) = λ y. map (λ x. (x, y)) (unrelated_below g y) in
    let split : pairs_below g (suc n) ≡ pairs_below g n ++ of n =
    ap (flat_map of) (range_more 0 n n (omega arith)) ∙ flat_map-append of (range_with_len 0 n) (n ∷ []) ∙ ap (λ (l : List (ℕ × ℕ)). pairs_below g n ++ l) (append-nil (of n)) in
    let passed : length (unrelated_below g n) ≤ n = few_pass _ 0 n in
    let mapped : length (of n) ≡ length (unrelated_below g n) = length-map (unrelated_below g n) (λ (x : ℕ). (x, n)) in
    let all : length (pairs_below g (suc n)) ≡ length (pairs_below g n) + length (of n) = ap length split ∙ length-append (pairs_below g n) (of n) in
    let square : (n + 1) * (n + 1) ≡ n * n + 2 * n + 1 = omega arith in
    omega (arith, few_below g n, passed, mapped, all, square)

-- pairs stand by their higher numbers
pub pairs_ascend : (table : List (List ℕ)) (i j : ℕ) (pair later : ℕ × ℕ) → AreInOrder table → i ≤ j → slice_get (pairs_in table) i ≡ Some pair
    → slice_get (pairs_in table) j ≡ Some later → pair.1 ≤ later.1
pairs_ascend table i j pair later order le here there =
    elim (cases_lt later.1 pair.1) [
      | inl less ↦ (let within = (pair_kind table i pair here).within in
          let whole : take pair.1 table ++ drop pair.1 table ≡ table = take-append-drop pair.1 table in
          let long : length (take pair.1 table) ≡ pair.1 = length-take-le pair.1 table (omega arith) in
          let order' : AreInOrder (take pair.1 table ++ drop pair.1 table) = subst (λ (t : List (List ℕ)). AreInOrder t) (sym whole) order in
          let low = (in_front (take pair.1 table) (drop pair.1 table) j later order' (ap (λ (t : List (List ℕ)). slice_get (pairs_in t) j) whole ∙ there)).0 (omega (arith, long, less)) in
          let own = (in_front (take pair.1 table) (drop pair.1 table) i pair order' (ap (λ (t : List (List ℕ)). slice_get (pairs_in t) i) whole ∙ here)).1 (omega (arith, low, le)) in
          absurd (omega (arith, own, long)))
      | inr past ↦ past
    ]
