-- The graph of a table of parents, and its rows and pairs.
use Rattle.std.proofs.Common.{◌≡◌, ℕ, zero, suc, ◌+◌, ◌<◌, ◌≤◌, Bool, true, false, cond, ◌||◌, ◌&&◌, not, List, [], ◌∷◌, length, map, get_or, refl, sym, ap, subst, ◌∙◌, inl, inr, eqb, Some, arith}
use Rattle.std.specs.Prelude.{filter, All, slice_get}
use Rattle.std.specs.List.{range_with_len, flat_map, list_any}
use Rattle.std.proofs.lemmas.Bool.{cases_lt, or_cases, eqb-true, false≢true, not-true, false_from_ne_true}
use Rattle.std.proofs.lemmas.List.Elements.{All-cons, All-append, All-map}
use Rattle.std.proofs.lemmas.Option.{slice_get_within, get_or_from_slice_get}
use Rattle.sp_model.specs.Graph.{Block, IsDownset, AreDistinct, has, keys, parents_of, complete, in_past, past, future, related}
use Rattle.sp_model.proofs.Sets.{any_some}
use Rattle.sp_model.proofs.Pasts.{complete_key, in_past_step, past_complete}
use Rattle.sp_bits.specs.Places.{places_where}
use Rattle.sp_bits.specs.Members.{has-filter}
use Rattle.sp_dag.specs.Numbered.{AreInOrder, blocks_from, unrelated_below}
use Rattle.sp_dag.specs.Shapes.{IsPairIn, no_rank, shape_of, pairs_in}
use Rattle.sp_dag.proofs.Keys.{key_out, parents_of-shape_of, all_complete, in_past-absent}

keys_from : (from : ℕ) (table : List (List ℕ)) → map (λ (b : Block). b.key) (blocks_from no_rank from table) ≡ range_with_len from (length table)
keys_from from [] = refl
keys_from from (row ∷ table) = ap (λ (l : List ℕ). from ∷ l) (keys_from (from + 1) table)

-- the keys are the numbers
pub keys_are_numbers : (table : List (List ℕ)) → keys (shape_of table) ≡ range_with_len 0 (length table)
keys_are_numbers table = keys_from 0 table

-- the parents of a number are those of the table
pub parents_numbered : (table : List (List ℕ)) (z : ℕ) → z < length table → parents_of (shape_of table) z ≡ get_or table z []
parents_numbered = parents_of-shape_of

-- each number is complete
pub complete_numbered : (table : List (List ℕ)) (z : ℕ) → AreInOrder table → z < length table → has (complete (shape_of table)) z ≡ true
complete_numbered table z order le = all_complete table order z le

-- what is a key is a number
key_below : (table : List (List ℕ)) (z : ℕ) → has (keys (shape_of table)) z ≡ true → z < length table
key_below table z there =
    elim (cases_lt z (length table)) [
      | inl less ↦ less
      | inr le ↦ absurd (false≢true (sym (key_out table z le) ∙ there))
    ]

-- all numbers together are a downset
pub downset_numbered : (table : List (List ℕ)) → AreInOrder table → IsDownset (shape_of table) (keys (shape_of table))
downset_numbered table order = record {
  all_complete = λ z there. all_complete table order z (key_below table z there);
  closed = λ z a there reached.
      complete_key (shape_of table) a (past_complete (shape_of table) a z (all_complete table order z (key_below table z there)) reached);
}

not_in_range : (a b n : ℕ) → a < b → has (range_with_len b n) a ≡ false
not_in_range a b zero le = refl
not_in_range a b (suc n) le = at (eqb b a) refl (not_in_range a (b + 1) n (omega arith))
  where
    at : (c : Bool) → eqb b a ≡ c → has (range_with_len (b + 1) n) a ≡ false → (c || has (range_with_len (b + 1) n) a) ≡ false
    at true e rest = (let same : b ≡ a = eqb-true b a e in absurd (omega arith))
    at false e rest = rest

pub AreDistinct-range : (a n : ℕ) → AreDistinct (range_with_len a n)
AreDistinct-range a zero = tt
AreDistinct-range a (suc n) = (not_in_range a (a + 1) n (omega arith), AreDistinct-range (a + 1) n)

-- ancestors have lower numbers
pub ancestors_lower : (table : List (List ℕ)) (a z : ℕ) → AreInOrder table → z < length table → in_past (shape_of table) a z ≡ true → a < z
ancestors_lower table a z order le reached = below (suc z) z (omega arith) le reached
  where
    below : (k z : ℕ) → z < k → z < length table → in_past (shape_of table) a z ≡ true → a < z
    below zero z less le reached = absurd (omega arith)
    below (suc k) z less le reached =
        let step : list_any (λ p. eqb p a || in_past (shape_of table) a p) (parents_of (shape_of table) z) ≡ true =
        sym (in_past_step (shape_of table) a z (all_complete table order z le)) ∙ reached in
        let by = any_some (λ p. eqb p a || in_past (shape_of table) a p) (parents_of (shape_of table) z) step in
        let parent : by.0 < z = order z by.0 (sym (ap (λ (l : List ℕ). has l by.0) (parents_of-shape_of table z le)) ∙ by.1) in
        elim (or_cases (eqb by.0 a) (in_past (shape_of table) a by.0) by.2) [
          | inl same ↦ (let e : by.0 ≡ a = eqb-true by.0 a same in omega arith)
          | inr there ↦ (let rest : a < by.0 = below k by.0 (omega arith) (omega arith) there in omega arith)
        ]

-- a row that no number past the last passes is one of the numbers alone
filter_none : (test : ℕ → Bool) (a n : ℕ) → ((k : ℕ) → a ≤ k → test k ≡ false) → filter test (range_with_len a n) ≡ []
filter_none test a zero h = refl
filter_none test a (suc n) h =
    ap (λ (c : Bool). cond c (a ∷ filter test (range_with_len (a + 1) n)) (filter test (range_with_len (a + 1) n))) (h a (omega arith))
    ∙ filter_none test (a + 1) n (λ k le. h k (omega arith))

pub filter_cut : (test : ℕ → Bool) (a n m : ℕ) → n ≤ m → ((k : ℕ) → a + n ≤ k → test k ≡ false) → filter test (range_with_len a m) ≡ filter test (range_with_len a n)
filter_cut test a zero m le h = filter_none test a m (λ k low. h k (omega arith))
filter_cut test a (suc n) zero le h = absurd (omega arith)
filter_cut test a (suc n) (suc m) le h =
    ap (λ (l : List ℕ). cond (test a) (a ∷ l) l) (filter_cut test (a + 1) n m (omega arith) (λ k low. h k (omega arith)))

both : (c d : Bool) → (d ≡ true → c ≡ true) → (c && d) ≡ d
both true d h = refl
both false true h = h refl
both false false h = refl

row_is : (test : ℕ → Bool) (table : List (List ℕ)) → length table ≤ 512 → ((k : ℕ) → length table ≤ k → test k ≡ false)
    → places_where test ≡ filter test (keys (shape_of table))
unfolding places_where
row_is test table small h =
    filter_cut test 0 (length table) 512 small (λ k low. h k (omega arith)) ∙ ap (filter test) (sym (keys_are_numbers table))

-- the row of a past is the model's
pub past_row : (table : List (List ℕ)) (z : ℕ) → AreInOrder table → length table ≤ 512 → z < length table
    → places_where (λ a. in_past (shape_of table) a z) ≡ past (shape_of table) z
past_row table z order small le =
    row_is (λ a. in_past (shape_of table) a z) table small
    (λ k high. false_from_ne_true (in_past (shape_of table) k z) (λ reached. (let lower : k < z = ancestors_lower table k z order le reached in absurd (omega arith))))

-- and so is the row of a future
pub future_row : (table : List (List ℕ)) (z : ℕ) → length table ≤ 512
    → places_where (λ w. in_past (shape_of table) z w) ≡ future (shape_of table) (keys (shape_of table)) z
future_row table z small =
    row_is (λ w. in_past (shape_of table) z w) table small (λ k high. in_past-absent (shape_of table) z k (key_out table k high))

-- the members of the rows are those that the graph says
pub past_members : (table : List (List ℕ)) (a z : ℕ) → AreInOrder table → z < length table → has (past (shape_of table) z) a ≡ in_past (shape_of table) a z
past_members table a z order le =
    has-filter (λ a. in_past (shape_of table) a z) (keys (shape_of table)) a
    ∙ both (has (keys (shape_of table)) a) (in_past (shape_of table) a z)
    (λ reached. complete_key (shape_of table) a (past_complete (shape_of table) a z (all_complete table order z le) reached))

pub future_members : (table : List (List ℕ)) (z w : ℕ) → has (future (shape_of table) (keys (shape_of table)) z) w ≡ in_past (shape_of table) z w
future_members table z w =
    has-filter (λ w. in_past (shape_of table) z w) (keys (shape_of table)) w
    ∙ both (has (keys (shape_of table)) w) (in_past (shape_of table) z w) (there (has (keys (shape_of table)) w) refl)
  where
    there : (c : Bool) → has (keys (shape_of table)) w ≡ c → in_past (shape_of table) z w ≡ true → c ≡ true
    there true e reached = refl
    there false e reached = absurd (false≢true (sym (in_past-absent (shape_of table) z w e) ∙ reached))

pub All-filter_range : (P : ℕ → Type 0) (test : ℕ → Bool) (a n : ℕ) → ((k : ℕ) → a ≤ k → k < a + n → test k ≡ true → P k) → All P (filter test (range_with_len a n))
All-filter_range P test a zero h = λ k d le. absurd (omega arith)
All-filter_range P test a (suc n) h = at (test a) refl (All-filter_range P test (a + 1) n (λ k low high. h k (omega arith) (omega arith)))
  where
    at : (c : Bool) → test a ≡ c → All P (filter test (range_with_len (a + 1) n))
        → All P (cond c (a ∷ filter test (range_with_len (a + 1) n)) (filter test (range_with_len (a + 1) n)))
    at true e rest = All-cons P a (filter test (range_with_len (a + 1) n)) (h a (omega arith) (omega arith) e) rest
    at false e rest = rest

pub All-flat_range : (P : ℕ × ℕ → Type 0) (f : ℕ → List (ℕ × ℕ)) (a n : ℕ) → ((y : ℕ) → a ≤ y → y < a + n → All P (f y)) → All P (flat_map f (range_with_len a n))
All-flat_range P f a zero h = λ k d le. absurd (omega arith)
All-flat_range P f a (suc n) h =
    All-append P (f a) (flat_map f (range_with_len (a + 1) n)) (h a (omega arith) (omega arith))
    (All-flat_range P f (a + 1) n (λ y low high. h y (omega arith) (omega arith)))

all_pairs : (table : List (List ℕ)) → All (IsPairIn table) (pairs_in table)
all_pairs table =
    All-flat_range (IsPairIn table) (λ y. map (λ x. (x, y)) (unrelated_below (shape_of table) y)) 0 (length table)
    (λ y low high. All-map (IsPairIn table) (λ x. (x, y)) (unrelated_below (shape_of table) y)
    (All-filter_range (λ x. IsPairIn table (x, y)) (λ x. not (related (shape_of table) x y)) 0 y
    (λ x first last apart. record { order = omega arith; within = omega arith; unrelated = not-true (related (shape_of table) x y) apart })))

-- each pair of the list is one of unrelated blocks
pub pair_kind : (table : List (List ℕ)) (i : ℕ) (pair : ℕ × ℕ) → slice_get (pairs_in table) i ≡ Some pair → IsPairIn table pair
pair_kind table i pair there =
    subst (IsPairIn table) (get_or_from_slice_get (pairs_in table) i pair pair there)
    (all_pairs table i pair (slice_get_within (pairs_in table) i pair there))
