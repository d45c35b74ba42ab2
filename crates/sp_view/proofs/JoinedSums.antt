-- The sums of the votes on a pair before a block joins a set and after are small.
use Rattle.std.proofs.Common.{◌≡◌, ℕ, ◌<◌, ◌≤◌, ◌+◌, Bool, true, ◌&&◌, List, [], length, get_or, Some, refl, sym, ap, arith}
use Rattle.std.specs.Prelude.{ℤ, pos, ◌-ℤ◌, slice_get}
use Rattle.std.proofs.lemmas.List.FromFn.{length-range_with_len}
use Rattle.std.specs.List.{range_with_len}
use Rattle.std.proofs.lemmas.Bool.{and_parts}
use Rattle.sp_bits.specs.Places.{meet, places_where, IsRow}
use Rattle.sp_dag.specs.Numbered.{AreInOrder, Numbered, graph_of, pairs_of}
use Rattle.sp_dag.proofs.Ranked.{downset_numbered}
use Rattle.sp_frozen.specs.Voters.{FrozenRows, HoldsFrozen}
use Rattle.sp_model.specs.Graph.{Graph, has}
use Rattle.sp_model.specs.Loose.{is_loose, is_plus, is_minus, plus, minus}
use Rattle.sp_model.specs.Votes.{vote}
use Rattle.sp_model.proofs.Rounds.{length-filter-le}
use Rattle.sp_view.specs.Settled.{IsAsked}
use Rattle.sp_view.specs.Sums.{sum_of}
use Rattle.sp_view.specs.Voting.{IsJoined}
use Rattle.sp_view.proofs.Tallies.{sum_is}
use Rattle.sp_view.proofs.TwoRows.{frozen_among}

-- a pair inside a set that a block joined has its frozen rows
pub inside_listed : (table : Numbered) (frozen : FrozenRows) (b : ℕ) (s t : List ℕ) (i x y : ℕ) → IsJoined table frozen b s t → slice_get (pairs_of table) i ≡ Some (x, y) → (has t x && has t y) ≡ true
    → i < length frozen.pluses
inside_listed table frozen b s t i x y j at inside = j.voting.held.there i x y at (j.voting.added y (and_parts (has t x) (has t y) inside).1)

-- and so is one inside the set before
pub inside_more : (table : Numbered) (frozen : FrozenRows) (b : ℕ) (s t : List ℕ) (x y : ℕ) → IsJoined table frozen b s t → (has s x && has s y) ≡ true → (has t x && has t y) ≡ true
inside_more table frozen b s t x y j inside =
    let parts : (has s x ≡ true) × (has s y ≡ true) = and_parts (has s x) (has s y) inside in
    rw (j.joins.into x parts.0, j.joins.into y parts.1) refl

few_places : (test : ℕ → Bool) → length (places_where test) ≤ 512
unfolding places_where
few_places test = omega (arith, length-filter-le test (range_with_len 0 512), length-range_with_len 0 512)

few_members : (s : List ℕ) → IsRow s → length s ≤ 512
unfolding IsRow
few_members s is = omega (arith, ap length is, few_places (has s))

-- a sum is the difference of two small counts
pub record IsSmall (sum : ℤ) : Type 0 where
  pub ups : ℕ
  pub downs : ℕ
  pub is : sum ≡ pos ups -ℤ pos downs
  pub few_ups : ups ≤ 1024
  pub few_downs : downs ≤ 1024

small_of : (table : Numbered) (frozen : FrozenRows) (set : List ℕ) (i x y : ℕ) → AreInOrder table.parents → HoldsFrozen table frozen → IsAsked (graph_of table) set
    → ((z : ℕ) → has set z ≡ true → z < frozen.blocks) → slice_get (pairs_of table) i ≡ Some (x, y) → i < length frozen.pluses → IsSmall (sum_of (graph_of table) set x y)
small_of table frozen set i x y order holds asked added at listed =
    let g : Graph = graph_of table in
    record {
      ups = length (meet set (get_or frozen.pluses i [])) + length (plus g set x y);
      downs = length (meet set (get_or frozen.minuses i [])) + length (minus g set x y);
      is = sym (sum_is g set x y (downset_numbered table order) asked (get_or frozen.pluses i []) (get_or frozen.minuses i []) (plus g set x y) (minus g set x y)
          (frozen_among table frozen set i x y holds at listed added) (record { plus_is = refl; minus_is = refl }));
      few_ups = omega (arith, few_places (λ w. has set w && has (get_or frozen.pluses i []) w), few_members set asked.row, length-filter-le (λ z. is_loose g z x y && is_plus (vote g set z x y)) set);
      few_downs = omega (arith, few_places (λ w. has set w && has (get_or frozen.minuses i []) w), few_members set asked.row, length-filter-le (λ z. is_loose g z x y && is_minus (vote g set z x y)) set);
    }

-- before a block joined, and after
pub sum_small : (table : Numbered) (frozen : FrozenRows) (b : ℕ) (s t : List ℕ) (i x y : ℕ) → IsJoined table frozen b s t → slice_get (pairs_of table) i ≡ Some (x, y) → i < length frozen.pluses
    → IsSmall (sum_of (graph_of table) s x y)
sum_small table frozen b s t i x y j at listed =
    small_of table frozen s i x y j.voting.order j.voting.held (record { row = j.row; down = j.joins.down }) (λ z h. j.voting.added z (j.joins.into z h)) at listed

pub sum_small_after : (table : Numbered) (frozen : FrozenRows) (b : ℕ) (s t : List ℕ) (i x y : ℕ) → IsJoined table frozen b s t → slice_get (pairs_of table) i ≡ Some (x, y) → i < length frozen.pluses
    → IsSmall (sum_of (graph_of table) t x y)
sum_small_after table frozen b s t i x y j at listed = small_of table frozen t i x y j.voting.order j.voting.held j.voting.asked j.voting.added at listed
