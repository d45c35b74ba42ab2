-- What the index of two numbers says of their pair.
use Rattle.std.proofs.Common.{◌≡◌, ℕ, ◌<◌, ◌≤◌, Bool, true, ◌||◌, ◌&&◌, not, List, [], get_or, refl, sym, ap, ◌∙◌, inl, inr, eqb, Option, Some, None, arith, length, min, max}
use Rattle.std.specs.Prelude.{slice_get, IsNone, IfSome, ◌↔◌}
use Rattle.std.proofs.lemmas.Bool.{cases_lt, eqb-true, eq-eqb, false≢true, or_left, or_right, or_cases}
use Rattle.std.proofs.lemmas.List.{get_or_default}
use Rattle.sp_model.specs.Graph.{Graph, in_past, related}
use Rattle.sp_dag.specs.Shapes.{shape_of, pairs_in, IsPairIn}
use Rattle.sp_dag.specs.Indexed.{index_at}
use Rattle.sp_dag.specs.Right.{AreRight}
use Rattle.sp_dag.proofs.Bools.{eqb_flip, eqb_apart, or_comm}
use Rattle.sp_dag.proofs.Whole.{pair_kind}

-- related blocks are related either way
related_flip : (g : Graph) (x y : ℕ) → related g x y ≡ related g y x
related_flip g x y =
    ap (λ (c : Bool). not c && (in_past g x y || in_past g y x)) (eqb_flip x y)
    ∙ ap (λ (c : Bool). not (eqb y x) && c) (or_comm (in_past g x y) (in_past g y x))

-- whether two numbers are the same or related, by the lower and the higher
abbrev pub are_joined : List (List ℕ) → ℕ → ℕ → Bool
are_joined table x y = eqb x y || related (shape_of table) x y

joined_flip : (table : List (List ℕ)) (x y : ℕ) → are_joined table x y ≡ are_joined table y x
joined_flip table x y =
    ap (λ (c : Bool). c || related (shape_of table) x y) (eqb_flip x y) ∙ ap (λ (c : Bool). eqb y x || c) (related_flip (shape_of table) x y)

pub joined_sorted : (table : List (List ℕ)) (x y : ℕ) → are_joined table (min x y) (max x y) ≡ are_joined table x y
joined_sorted table x y =
    elim (cases_lt x y) [
      | inl less ↦ (let low : min x y ≡ x = omega arith in let high : max x y ≡ y = omega arith in
          ap (λ (k : ℕ). are_joined table k (max x y)) low ∙ ap (are_joined table x) high)
      | inr le ↦ (let low : min x y ≡ y = omega arith in let high : max x y ≡ x = omega arith in
          ap (λ (k : ℕ). are_joined table k (max x y)) low ∙ ap (are_joined table y) high ∙ joined_flip table y x)
    ]

-- no index stands exactly where the two are the same or related
pub none_where_joined : (table pasts futures : List (List ℕ)) (pairs : List (ℕ × ℕ)) (indices : List (List (Option ℕ))) (low high : ℕ) (found : Option ℕ)
    → AreRight table pasts futures pairs indices → low ≤ high → high < length table → found ≡ index_at indices low high
    → IsNone found ↔ (are_joined table low high ≡ true)
none_where_joined table pasts futures pairs indices low high None h le inside is = (
  λ _. elim (cases_lt low high) [
    | inl less ↦ or_right (eqb low high) (related (shape_of table) low high)
        (ap (λ (c : Bool). not c && (in_past (shape_of table) low high || in_past (shape_of table) high low)) (eqb_apart low high less)
        ∙ or_left (in_past (shape_of table) low high) (in_past (shape_of table) high low) (h.unlisted low high less inside (sym is)))
    | inr same ↦ or_left (eqb low high) (related (shape_of table) low high) (eq-eqb low high (omega arith))
  ],
  λ _. refl,
)
none_where_joined table pasts futures pairs indices low high (Some i) h le inside is =
    let there : slice_get (pairs_in table) i ≡ Some (low, high) = ap (λ (l : List (ℕ × ℕ)). slice_get l i) (sym h.pairs_right) ∙ h.indexed.back i low high (sym is) in
    let kind : IsPairIn table (low, high) = pair_kind table i (low, high) there in (
      λ none. absurd (false≢true (sym none)),
      λ joined. absurd (elim (or_cases (eqb low high) (related (shape_of table) low high) joined) [
        | inl same ↦ (let e : low ≡ high = eqb-true low high same in let less : low < high = kind.order in omega arith)
        | inr tied ↦ false≢true (sym kind.unrelated ∙ tied)
      ]),
    )

-- an index that is found is that of the pair
pub some_is_pair : (table pasts futures : List (List ℕ)) (pairs : List (ℕ × ℕ)) (indices : List (List (Option ℕ))) (low high : ℕ) (found : Option ℕ)
    → AreRight table pasts futures pairs indices → found ≡ index_at indices low high
    → IfSome found (λ i. slice_get (pairs_in table) i ≡ Some (low, high))
some_is_pair table pasts futures pairs indices low high None h is = tt
some_is_pair table pasts futures pairs indices low high (Some i) h is =
    ap (λ (l : List (ℕ × ℕ)). slice_get l i) (sym h.pairs_right) ∙ h.indexed.back i low high (sym is)

-- and no other index is one of the pair
pub only_index : (table pasts futures : List (List ℕ)) (pairs : List (ℕ × ℕ)) (indices : List (List (Option ℕ))) (low high i : ℕ) (found : Option ℕ)
    → AreRight table pasts futures pairs indices → found ≡ index_at indices low high
    → slice_get (pairs_in table) i ≡ Some (low, high) → found ≡ Some i
only_index table pasts futures pairs indices low high i found h is there =
    is ∙ h.indexed.there i low high (ap (λ (l : List (ℕ × ℕ)). slice_get l i) h.pairs_right ∙ there)

-- an index as it is read
pub index_read : (indices : List (List (Option ℕ))) (row : List (Option ℕ)) (found : Option ℕ) (l h low high : ℕ) → l ≡ low → h ≡ high → high < length indices
    → row ≡ get_or indices h row → found ≡ get_or row l None → found ≡ index_at indices low high
index_read indices row found l h low high is_low is_high inside is_row is =
    let here : h < length indices = omega arith in
    is ∙ ap (λ (r : List (Option ℕ)). get_or r l None) (is_row ∙ get_or_default indices h row [] here)
    ∙ ap (λ (k : ℕ). index_at indices l k) is_high ∙ ap (λ (k : ℕ). index_at indices k high) is_low
