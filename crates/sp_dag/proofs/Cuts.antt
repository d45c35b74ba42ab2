-- A table whose last blocks are taken off is right.
use Rattle.std.proofs.Common.{◌≡◌, ℕ, ◌+◌, ◌<◌, ◌≤◌, List, [], ◌++◌, length, take, drop, get_or, sym, ap, subst, ◌∙◌, inl, inr, Option, Some, None, arith, length-append}
use Rattle.std.specs.Prelude.{slice_get}
use Rattle.std.proofs.lemmas.Bool.{cases_lt}
use Rattle.std.proofs.lemmas.List.{get_or_past, get_or-take, length-take-le, take-append-drop}
use Rattle.std.proofs.Math.Seq.{take-append_seam}
use Rattle.sp_model.specs.Graph.{in_past}
use Rattle.sp_model.proofs.Sets.{AreDistinct-take}
use Rattle.sp_bits.specs.Places.{members_below}
use Rattle.sp_bits.proofs.Sets.{places_same}
use Rattle.sp_dag.specs.Numbered.{cut_to, Numbered, AreInOrder, IsNumbered}
use Rattle.sp_dag.specs.Shapes.{shape_of, pairs_in}
use Rattle.sp_dag.specs.Indexed.{AreIndexed, index_at}
use Rattle.sp_dag.specs.Right.{AreRight}
use Rattle.sp_dag.proofs.Fronts.{few_below, front_length, future_front, in_front, order_front, pairs_front, past_front}
use Rattle.sp_dag.proofs.Indexing.{slice_get-longer, slice_get-shorter}
use Rattle.sp_dag.proofs.Whole.{pair_kind}

index-take : (indices : List (List (Option ℕ))) (n x y : ℕ) → y < n → index_at (take n indices) x y ≡ index_at indices x y
index-take indices n x y le = ap (λ (row : List (Option ℕ)). get_or row x None) (get_or-take n indices y [] le)

index_within : (indices : List (List (Option ℕ))) (x y i : ℕ) → index_at indices x y ≡ Some i → y < length indices
index_within indices x y i there =
    elim (cases_lt y (length indices)) [
      | inl less ↦ less
      | inr le ↦ (let none : index_at indices x y ≡ None = ap (λ (l : List (Option ℕ)). get_or l x None) (get_or_past indices y [] le) in cc)
    ]

-- the indices of the first blocks' pairs
AreIndexed-cut : (front back : List (List ℕ)) (indices : List (List (Option ℕ))) → AreInOrder (front ++ back) → length front ≤ length indices
    → AreIndexed (pairs_in (front ++ back)) indices → AreIndexed (pairs_in front) (take (length front) indices)
AreIndexed-cut front back indices order le h =
    let behind = pairs_front front back order in
    let whole : (i x y : ℕ) → slice_get (pairs_in front) i ≡ Some (x, y) → slice_get (pairs_in (front ++ back)) i ≡ Some (x, y) = λ i x y at.
    ap (λ (l : List (ℕ × ℕ)). slice_get l i) behind.split ∙ slice_get-longer (pairs_in front) behind.more i (x, y) at in
    let long : length (take (length front) indices) ≡ length front = length-take-le (length front) indices le in
    record {
      there = λ i x y at. index-take indices (length front) x y (pair_kind front i (x, y) at).within ∙ h.there i x y (whole i x y at);
      back = λ i x y at.
          (let lower : y < length front = (let inside = index_within (take (length front) indices) x y i at in omega (arith, inside, long)) in
          let there = h.back i x y (sym (index-take indices (length front) x y lower) ∙ at) in
          let low = (in_front front back i (x, y) order there).0 lower in
          slice_get-shorter (pairs_in front) behind.more i (x, y) (ap (λ (l : List (ℕ × ℕ)). slice_get l i) (sym behind.split) ∙ there) low);
    }

pub AreRight-cut : (front back pasts futures later : List (List ℕ)) (pairs : List (ℕ × ℕ)) (indices : List (List (Option ℕ))) (left : ℕ)
    → AreRight (front ++ back) pasts futures pairs indices → length later ≡ length front
    → ((a : ℕ) → a < length front → get_or later a [] ≡ members_below (get_or futures a []) (length front)) → left ≡ length (pairs_in front)
    → AreRight front (take (length front) pasts) later (take left pairs) (take (length front) indices)
AreRight-cut front back pasts futures later pairs indices left h later_long rows left_is =
    let n = length front in
    let all : length (front ++ back) ≡ n + length back = length-append front back in
    let order = order_front front back h.order in
    let behind = pairs_front front back h.order in
    let kept : take left pairs ≡ pairs_in front =
    ap (take left) (h.pairs_right ∙ behind.split) ∙ ap (λ (k : ℕ). take k (pairs_in front ++ behind.more)) left_is ∙ take-append_seam (pairs_in front) behind.more in
    let few = few_below (shape_of front) n in
    record {
      small = omega (arith, h.small, all);
      few = (let long : length (take left pairs) ≡ length (pairs_in front) = ap length kept in rw (long) few);
      order = order;
      pasts_long = length-take-le n pasts (omega (arith, h.pasts_long, all));
      futures_long = later_long;
      indices_long = length-take-le n indices (omega (arith, h.indices_long, all));
      pasts_right = λ z le.
          get_or-take n pasts z [] le ∙ h.pasts_right z (omega (arith, all, le))
          ∙ places_same (λ a. in_past (shape_of (front ++ back)) a z) (λ a. in_past (shape_of front) a z) (λ a _. past_front front back a z h.order le);
      futures_right = λ a le. rows a le ∙ future_front front back a (get_or futures a []) h.order (h.futures_right a (omega (arith, all, le)));
      pairs_right = kept;
      indexed =
          subst (λ (l : List (ℕ × ℕ)). AreIndexed l (take n indices)) (sym kept)
          (AreIndexed-cut front back indices h.order (omega (arith, h.indices_long, all)) (subst (λ (l : List (ℕ × ℕ)). AreIndexed l indices) h.pairs_right h.indexed));
      unlisted = λ x y lower le at.
          sym (past_front front back x y h.order le)
          ∙ h.unlisted x y lower (omega (arith, all, le)) (sym (index-take indices n x y le) ∙ at);
    }

-- the same, by the values as they are read
pub AreRight-take : (table pasts futures later : List (List ℕ)) (pairs seen : List (ℕ × ℕ)) (indices : List (List (Option ℕ))) (n left : ℕ)
    → AreRight table pasts futures pairs indices → n ≤ length table → seen ≡ pairs → left ≤ length seen
    → ((i : ℕ) (pair : ℕ × ℕ) → i + 1 ≡ left → slice_get seen i ≡ Some pair → pair.1 < n)
    → ((i : ℕ) (pair : ℕ × ℕ) → left ≤ i → slice_get seen i ≡ Some pair → n ≤ pair.1) → length later ≡ length (take n futures)
    → ((a : ℕ) → a < length (take n futures) → get_or later a [] ≡ members_below (get_or (take n futures) a []) n)
    → AreRight (take n table) (take n pasts) later (take left pairs) (take n indices)
AreRight-take table pasts futures later pairs seen indices n left h le same within last others later_long rows =
    let front = take n table in
    let back = drop n table in
    let whole : front ++ back ≡ table = take-append-drop n table in
    let long : length front ≡ n = length-take-le n table le in
    let futures_long : length (take n futures) ≡ n = length-take-le n futures (omega (arith, h.futures_long, le)) in
    let right : AreRight (front ++ back) pasts futures pairs indices = subst (λ (t : List (List ℕ)). AreRight t pasts futures pairs indices) (sym whole) h in
    let listed : seen ≡ pairs_in (front ++ back) = same ∙ right.pairs_right in
    let left_is : left ≡ length (pairs_in front) =
    front_length front back left right.order (omega (arith, within, ap length listed))
    (λ i pair at there. (let lower = last i pair at (ap (λ (l : List (ℕ × ℕ)). slice_get l i) listed ∙ there) in omega (arith, lower, long)))
    (λ i pair at there. (let high = others i pair at (ap (λ (l : List (ℕ × ℕ)). slice_get l i) listed ∙ there) in omega (arith, high, long))) in
    let cut : AreRight front (take (length front) pasts) later (take left pairs) (take (length front) indices) =
    AreRight-cut front back pasts futures later pairs indices left right (omega (arith, later_long, futures_long, long))
    (λ a at. (let lower : a < n = omega (arith, at, long) in
    rows a (omega (arith, lower, futures_long)) ∙ ap (λ (l : List ℕ). members_below l n) (get_or-take n futures a [] lower)
    ∙ ap (members_below (get_or futures a [])) (sym long))) left_is in
    subst (λ (k : ℕ). AreRight front (take k pasts) later (take left pairs) (take k indices)) long cut

-- the first blocks are numbered
pub IsNumbered-cut : (blocks : Numbered) (n : ℕ) → IsNumbered blocks → 1 ≤ n → n ≤ length blocks.parents → IsNumbered (cut_to blocks n)
IsNumbered-cut blocks n h some le =
    let parents = blocks.parents in
    let long : length (take n parents) ≡ n = length-take-le n parents le in
    record {
      some = omega (arith, long, some);
      small = omega (arith, long, le, h.small);
      long = length-take-le n blocks.ids (omega (arith, h.long, le)) ∙ sym long;
      salts_long = length-take-le n blocks.salts (omega (arith, h.salts_long, le)) ∙ sym long;
      distinct = AreDistinct-take n blocks.ids h.distinct;
      order =
          order_front (take n parents) (drop n parents) (subst (λ (t : List (List ℕ)). AreInOrder t) (sym (take-append-drop n parents)) h.order);
      genesis = get_or-take n parents 0 [] some ∙ h.genesis;
      rooted = λ z less inside.
          (let lower : z < n = omega (arith, inside, long) in
          subst (λ (l : List ℕ). 0 < length l) (sym (get_or-take n parents z [] lower)) (h.rooted z less (omega (arith, lower, le))));
    }
