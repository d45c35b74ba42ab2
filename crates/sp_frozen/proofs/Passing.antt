-- Pairs on which the last block votes 0: their rows and the list of its past's votes stay as they are.
use Rattle.std.proofs.Common.{◌≡◌, ◌∙◌, ℕ, zero, suc, ◌+◌, ◌-◌, ◌<◌, ◌≤◌, Bool, true, false, ◌&&◌, ◌||◌, not, List, [], length, get_or, min, Some, refl, sym, ap, subst, inl, inr, ltb, arith}
use Rattle.std.specs.Prelude.{ℤ, pos, slice_get}
use Rattle.std.proofs.lemmas.Bool.{cases_lt, false≢true, false_from_ne_true, lt-ltb, le-ltb, ne_eqb, or_parts, and_from}
use Rattle.std.proofs.lemmas.Option.{slice_get-get_or}
use Rattle.sp_bits.specs.Places.{difference, members_below, IsRow}
use Rattle.sp_bits.specs.Members.{has-filter}
use Rattle.sp_bits.proofs.RowSets.{has_difference, row_small}
use Rattle.sp_dag.specs.Numbered.{Numbered, graph_of, pairs_below, pairs_of, AreInOrder, IsPair}
use Rattle.sp_dag.proofs.Ranked.{pair_kind, past_members}
use Rattle.sp_dag.proofs.Starts.{stands_behind}
use Rattle.sp_model.specs.Graph.{has, keys, in_past, past}
use Rattle.sp_model.specs.Votes.{vote}
use Rattle.sp_frozen.specs.Runs.{AreCastTo, AreRest}
use Rattle.sp_frozen.proofs.LastVotes.{cast_sides, last_vote}
use Rattle.sp_frozen.proofs.Listed.{next_listed}

-- the two blocks of a pair aren't in one another's past
pub apart_in : (table : Numbered) (x y : ℕ) → IsPair table (x, y) → in_past (graph_of table) x y ≡ false
apart_in table x y kind =
    (or_parts (in_past (graph_of table) x y) (in_past (graph_of table) y x)
    (ap (λ (c : Bool). not c && (in_past (graph_of table) x y || in_past (graph_of table) y x)) (sym (ne_eqb x y (λ e. (let le : x < y = kind.order in omega arith)))) ∙ kind.unrelated)).0

-- no lower block that isn't in the past of y is in a row, where no place below y is left of the row without that past
pub none_apart : (table : Numbered) (row apart : List ℕ) (x y : ℕ) → AreInOrder table.parents → y < length table.parents → IsRow row
    → apart ≡ difference row (past (graph_of table) y) → members_below apart y ≡ [] → x < y → in_past (graph_of table) x y ≡ false → has row x ≡ false
none_apart table row apart x y order le is_row is none lower other =
    false_from_ne_true (has row x) (λ member.
    let there : has apart x ≡ true =
    ap (λ (l : List ℕ). has l x) is ∙ has_difference row (past (graph_of table) y) x (row_small row x is_row)
    ∙ and_from (has row x) (not (has (past (graph_of table) y) x)) member (ap not (past_members table x y order le ∙ other)) in
    let below : has (members_below apart y) x ≡ true =
    has-filter (λ p. ltb p y) apart x ∙ and_from (has apart x) (ltb x y) there (lt-ltb x y lower) in
    false≢true (sym (ap (λ (l : List ℕ). has l x) none) ∙ below))

module _ (table : Numbered) (b : ℕ) (order : AreInOrder table.parents) (last : length table.parents ≡ b + 1) (small : b < 512) where
  -- both blocks of each pair from one on up to another are outside the past of b
  abbrev pub AreOutside : ℕ → ℕ → Type 0
  AreOutside start stop =
      (i x y : ℕ) → start ≤ i → i < stop → slice_get (pairs_of table) i ≡ Some (x, y) → (has (past (graph_of table) b) x ≡ false) × (has (past (graph_of table) b) y ≡ false)

  -- the list of votes has none of these pairs
  pub rest_past : (start stop place : ℕ) (votes : List (ℕ × ℤ)) → start ≤ stop → stop ≤ length (pairs_of table) → AreOutside start stop
      → AreRest table b start place votes → AreRest table b stop place votes
  rest_past start stop place votes le within outside rest =
      let far : start + (stop - start) ≡ stop = omega arith in
      subst (λ (i : ℕ). AreRest table b i place votes) far (by (stop - start) (omega arith))
    where
      by : (k : ℕ) → start + k ≤ stop → AreRest table b (start + k) place votes
      by zero less = (let same : start ≡ start + zero = omega arith in subst (λ (i : ℕ). AreRest table b i place votes) same rest)
      by (suc k) less =
          let i : ℕ = start + k in
          let pair = get_or (pairs_of table) i (0, 0) in
          let at : slice_get (pairs_of table) i ≡ Some (pair.0, pair.1) = slice_get-get_or (pairs_of table) i (0, 0) (omega arith) in
          let out = outside i pair.0 pair.1 (omega arith) (omega arith) at in
          let next : i + 1 ≡ start + suc k = omega arith in
          subst (λ (j : ℕ). AreRest table b j place votes) next
          (next_listed (graph_of table) (past (graph_of table) b) (pairs_of table) votes i place pair.0 pair.1 at (by k (omega arith)) place
          (rw (out.0) refl))

  -- and their rows are right with the votes of b, which are 0
  pub cast_past : (start stop : ℕ) (pluses minuses : List (List ℕ)) → start ≤ stop
      → ((i x y : ℕ) → slice_get (pairs_of table) i ≡ Some (x, y) → i < length pluses → y < b) → AreOutside start stop
      → AreCastTo table b start pluses minuses → AreCastTo table b stop pluses minuses
  cast_past start stop pluses minuses le below outside each j x y at inside = elim (cases_lt j start) [
    | inl early ↦ (let before = each j x y at inside in
        rw (lt-ltb j stop (omega (arith, early, le))) (rw (lt-ltb j start early) at before))
    | inr past_start ↦ elim (cases_lt j stop) [
      | inr late ↦ (let before = each j x y at inside in
          rw (le-ltb j stop late) (rw (le-ltb j start past_start) at before))
      | inl own ↦ (let before = each j x y at inside in
          let out = outside j x y past_start own at in
          let y_in : y < b = below j x y at inside in
          let x_in : x < b = (let less = (pair_kind table j (x, y) at).order in omega (arith, less, y_in)) in
          let none : pos 0 ≡ vote (graph_of table) (keys (graph_of table)) b x y =
          sym (last_vote table b order last x y x_in y_in
          ∙ rw (sym (past_members table x b order (omega arith)) ∙ out.0, sym (past_members table y b order (omega arith)) ∙ out.1) refl) in
          rw (lt-ltb j stop own)
          (cast_sides table b order last x y (pos 0) (get_or pluses j []) (get_or minuses j []) (get_or pluses j []) (get_or minuses j []) small x_in y_in
          (rw (le-ltb j start past_start) at before) none refl refl))
    ]
  ]

  -- the pairs of a block that b has no part of
  pub run_outside : (y n : ℕ) → y < b → n ≤ length (pairs_of table) → has (past (graph_of table) b) y ≡ false
      → ((x : ℕ) → x < y → in_past (graph_of table) x y ≡ false → has (past (graph_of table) b) x ≡ false)
      → AreOutside (min n (length (pairs_below (graph_of table) y))) (min n (length (pairs_below (graph_of table) (y + 1))))
  run_outside y n y_in within own lower i x z le less at =
      let kind = pair_kind table i (x, z) at in
      let from = stands_behind (graph_of table) y (length table.parents) i (x, z) (omega (arith, y_in, last)) at in
      let upto = stands_behind (graph_of table) (y + 1) (length table.parents) i (x, z) (omega (arith, y_in, last)) at in
      let low : y ≤ z = from.0 (omega (arith, le, less)) in
      let same : z ≡ y = elim (cases_lt z (y + 1)) [
        | inl near ↦ omega (arith, near, low)
        | inr far ↦ (let late = upto.1 far in absurd (omega (arith, late, less)))
      ] in
      let x_low : x < y = (let order = kind.order in omega (arith, order, same)) in
      let x_apart : in_past (graph_of table) x y ≡ false = ap (in_past (graph_of table) x) (sym same) ∙ apart_in table x z kind in
      (lower x x_low x_apart, ap (has (past (graph_of table) b)) same ∙ own)
