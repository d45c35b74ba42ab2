-- Two rows of a pool are written, one after the other.
use Rattle.std.proofs.Common.{◌≡◌, ◌≢◌, ◌⊎◌, ℕ, zero, suc, ◌+◌, ◌<◌, ◌≤◌, Bool, true, cond, ◌&&◌, List, [], length, get_or, Some, refl, sym, ap, ◌∙◌, eqb, inl, inr, arith}
use Rattle.std.specs.Prelude.{not, slice_get, Option, unwrap_or}
use Rattle.std.proofs.lemmas.Bool.{cases_eq, eq-eqb, ne_eqb, lt-ltb}
use Rattle.sp_dag.specs.Numbered.{Numbered, graph_of, pairs_of}
use Rattle.sp_model.specs.Graph.{has, keys}
use Rattle.sp_model.specs.Votes.{vote}
use Rattle.sp_model.specs.Loose.{is_loose, is_plus, is_minus}
use Rattle.sp_frozen.specs.Voters.{AreFrozen, AreFrozenBelow, FrozenRows, HoldsFrozen}
use Rattle.sp_view.specs.Views.{IsOnce}

-- the frozen rows of a pair serve each set of blocks that were added
pub frozen_among : (table : Numbered) (frozen : FrozenRows) (set : List ℕ) (i x y : ℕ) → HoldsFrozen table frozen
    → slice_get (pairs_of table) i ≡ Some (x, y) → i < length frozen.pluses → ((z : ℕ) → has set z ≡ true → z < frozen.blocks)
    → AreFrozen (graph_of table) set x y (get_or frozen.pluses i []) (get_or frozen.minuses i [])
frozen_among table frozen set i x y holds at lt added =
    let rows : AreFrozenBelow (graph_of table) frozen.blocks x y (get_or frozen.pluses i []) (get_or frozen.minuses i []) = holds.each i x y at lt in
    record {
      plus_is = λ z h. rows.plus_is z ∙ ap (λ (c : Bool). c && (not (is_loose (graph_of table) z x y) && is_plus (vote (graph_of table) (keys (graph_of table)) z x y))) (lt-ltb z frozen.blocks (added z h));
      minus_is = λ z h. rows.minus_is z ∙ ap (λ (c : Bool). c && (not (is_loose (graph_of table) z x y) && is_minus (vote (graph_of table) (keys (graph_of table)) z x y))) (lt-ltb z frozen.blocks (added z h));
    }

-- whether a row is another one, as a number
abbrev pub one : ℕ → ℕ → ℕ
one r p = cond (eqb r p) 1 0

pub one_if : (r p : ℕ) → r ≡ p → one r p ≡ 1
one_if r p e = rw (eq-eqb r p e) refl

pub none_if : (r p : ℕ) → r ≢ p → one r p ≡ 0
none_if r p e = rw (ne_eqb r p e) refl

-- the first row, held by p, is written to p'; then the second one, held by m, to m'
module _ (count0 count1 : ℕ → ℕ) (row0 row1 row2 : ℕ → List ℕ) (p m p' : ℕ)
    (c1 : (r : ℕ) → count1 r + one r p ≡ count0 r + one r p')
    (o1 : (r : ℕ) → 0 < count0 r → (r ≡ p → 1 < count0 r) → row1 r ≡ row0 r)
    (o2 : (r : ℕ) → 0 < count1 r → (r ≡ m → 1 < count1 r) → row2 r ≡ row1 r)
    (live : (r : ℕ) → one r p + one r m ≤ count0 r)
    (fresh : p' ≢ p → count0 p' ≡ 0) where
  pub first_lives : 0 < count1 p'
  first_lives = elim (cases_eq p' p) [
    | inl same ↦ omega (arith, c1 p', one_if p' p' refl, one_if p' p same, live p')
    | inr other ↦ omega (arith, c1 p', one_if p' p' refl, none_if p' p other)
  ]

  pub first_stays : row2 p' ≡ row1 p'
  first_stays = o2 p' first_lives more
    where
      more : p' ≡ m → 1 < count1 p'
      more e = elim (cases_eq p' p) [
        | inl same ↦ omega (arith, c1 p', one_if p' p' refl, one_if p' p same, one_if p' m e, live p')
        | inr other ↦ absurd (omega (arith, fresh other, live p', one_if p' m e))
      ]

  pub second_before : row1 m ≡ row0 m
  second_before = o1 m (omega (arith, live m, one_if m m refl)) (λ e. omega (arith, live m, one_if m m refl, one_if m p e))

  pub others_stay : (r : ℕ) → one r p + one r m < count0 r → row2 r ≡ row0 r
  others_stay r h =
      o2 r some (λ e. omega (arith, c1 r, one_if r m e, few)) ∙ o1 r (omega arith) (λ e. omega (arith, one_if r p e))
    where
      few : one r p ≤ 1
      few = elim (cases_eq r p) [ inl same ↦ omega (arith, one_if r p same) | inr other ↦ omega (arith, none_if r p other) ]

      some : 0 < count1 r
      some = omega (arith, c1 r, few)

-- a pair that is read twice
pub pair_same : (pairs : List (ℕ × ℕ)) (i x y : ℕ) (pair : ℕ × ℕ) → slice_get pairs i ≡ Some (x, y) → slice_get pairs i ≡ Some pair → (x ≡ pair.0) × (y ≡ pair.1)
pair_same pairs i x y pair at at' =
    let same : (x, y) ≡ pair = ap (λ (o : Option (ℕ × ℕ)). unwrap_or o (0, 0)) (sym at ∙ at') in
    (ap (λ (q : ℕ × ℕ). q.0) same, ap (λ (q : ℕ × ℕ). q.1) same)

pub one_few : (r p : ℕ) → one r p ≤ 1
one_few r p = elim (cases_eq r p) [ inl same ↦ omega (arith, one_if r p same) | inr other ↦ omega (arith, none_if r p other) ]

-- A row that was live is held as often as before at most, and another one once: p' and m' stand in the places of p and m.
pub once_of : (count0 count1 : ℕ → ℕ) (p m p' m' : ℕ) → (p' ≢ p → count0 p' ≡ 0) → (m' ≢ m → count1 m' ≡ 0) → ((r : ℕ) → 0 < count0 r → 0 < count1 r)
    → 0 < count1 p' → 0 < count0 m → (r : ℕ) → IsOnce (count0 r) (one r p + one r m) (one r p' + one r m')
once_of count0 count1 p m p' m' fresh fresh' alive here some r = (
  λ live. (let a = first live in let b = second live in omega (arith, a, b)),
  λ dead. last dead (cases_eq r p') (cases_eq r m'),
)
  where
    first : 0 < count0 r → one r p' ≤ one r p
    first live = elim (cases_eq r p') [
      | inl e ↦ elim (cases_eq p' p) [
        | inl same ↦ omega (arith, one_if r p (e ∙ same), one_few r p')
        | inr other ↦ absurd (omega (arith, live, ap count0 e, fresh other))
      ]
      | inr ne ↦ omega (arith, none_if r p' ne)
    ]

    second : 0 < count0 r → one r m' ≤ one r m
    second live = elim (cases_eq r m') [
      | inl e ↦ elim (cases_eq m' m) [
        | inl same ↦ omega (arith, one_if r m (e ∙ same), one_few r m')
        | inr other ↦ absurd (omega (arith, alive r live, ap count1 e, fresh' other))
      ]
      | inr ne ↦ omega (arith, none_if r m' ne)
    ]

    last : count0 r ≡ 0 → (r ≡ p') ⊎ (r ≡ p' → ⊥) → (r ≡ m') ⊎ (r ≡ m' → ⊥) → one r p' + one r m' ≤ 1
    last dead (inr ne) s = omega (arith, none_if r p' ne, one_few r m')
    last dead (inl e) (inr ne) = omega (arith, none_if r m' ne, one_few r p')
    last dead (inl e) (inl e') = elim (cases_eq m' m) [
      | inl same ↦ absurd (omega (arith, dead, some, ap count0 (e' ∙ same)))
      | inr other ↦ absurd (omega (arith, here, fresh' other, ap count1 (sym e ∙ e')))
    ]

-- two rows that weren't live, taken one after the other
pub once_new : (count0 count1 : ℕ → ℕ) (p' m' : ℕ) → count0 p' ≡ 0 → count1 m' ≡ 0 → ((r : ℕ) → 0 < count0 r → 0 < count1 r)
    → 0 < count1 p' → (r : ℕ) → IsOnce (count0 r) 0 (one r p' + one r m')
once_new count0 count1 p' m' fresh fresh' alive here r = (
  λ live. (let a : one r p' ≡ 0 = none_if r p' (λ e. omega (arith, live, ap count0 e, fresh)) in
      let b : one r m' ≡ 0 = none_if r m' (λ e. omega (arith, alive r live, ap count1 e, fresh')) in omega (arith, a, b)),
  λ dead. elim (cases_eq r p') [
    | inl e ↦ (let b : one r m' ≡ 0 = none_if r m' (λ e'. omega (arith, here, fresh', ap count1 (sym e ∙ e'))) in omega (arith, b, one_few r p'))
    | inr ne ↦ omega (arith, none_if r p' ne, one_few r m')
  ],
)

-- each row that is held afterwards was held before or wasn't live
pub results_of : (count before after : ℕ) → IsOnce count before after → 0 < after → (0 < before) ⊎ (count ≡ 0)
results_of zero before after once some = inr refl
results_of (suc n) before after once some = inl (let le = once.0 (omega arith) in omega (arith, le, some))

-- the rows of an entry are live
pub some_first : (e : ℕ × ℕ) (count : ℕ → ℕ) → ((r : ℕ) → one r e.0 + one r e.1 ≤ count r) → 0 < count e.0
some_first e count live = omega (arith, live e.0, one_if e.0 e.0 refl)

pub some_second : (e : ℕ × ℕ) (count : ℕ → ℕ) → ((r : ℕ) → one r e.0 + one r e.1 ≤ count r) → 0 < count e.1
some_second e count live = omega (arith, live e.1, one_if e.1 e.1 refl)
