-- Pairs that a block which joins a set passes over: what stands of them is right for the larger set.
use Rattle.std.proofs.Common.{◌≡◌, ◌≢◌, ◌⊎◌, ℕ, zero, suc, ◌<◌, ◌≤◌, Bool, true, false, ◌||◌, ◌&&◌, cond, List, [], ◌∷◌, not, take, Option, Some, None, refl, sym, ap, ◌∙◌, eqb, ltb, inl, inr, arith}
use Rattle.std.specs.Prelude.{ℤ, slice_get, ◌+ℤ◌}
use Rattle.std.proofs.lemmas.Int.{ints}
use Rattle.std.proofs.lemmas.Bool.{and_from, and_left, and_parts, and_right, cases_Bool, cases_lt, false≢true, false_from_ne_true, le-ltb, lt-ltb, ne_eqb}
use Rattle.sp_bits.specs.Places.{difference, members_below, IsRow}
use Rattle.sp_bits.proofs.RowSets.{has_difference}
use Rattle.sp_dag.specs.Numbered.{Numbered, IsPair, graph_of, pairs_of}
use Rattle.sp_dag.proofs.Ranked.{pair_kind}
use Rattle.sp_model.specs.Graph.{Graph, has, in_past, related}
use Rattle.sp_model.specs.Joining.{Joins}
use Rattle.sp_model.specs.Votes.{vote}
use Rattle.sp_model.proofs.Joined.{tie_stays}
use Rattle.sp_rows.specs.Pool.{Pool}
use Rattle.sp_view.specs.Idle.{IsIdle}
use Rattle.sp_view.specs.Moving.{moved_rows}
use Rattle.sp_view.specs.Settled.{IsAsked}
use Rattle.sp_view.specs.Stored.{row_of}
use Rattle.sp_view.specs.Summed.{IsSum}
use Rattle.sp_view.specs.Sums.{sum_of}
use Rattle.sp_view.specs.Views.{entry_at, IsEntry}
use Rattle.sp_view.proofs.Downward.{below_from}
use Rattle.sp_view.proofs.Held.{AreEntriesTo}
use Rattle.sp_view.proofs.JoinedRows.{tie_sides}
use Rattle.sp_view.proofs.JoinedVotes.{sum_stays, vote_neither}
use Rattle.sp_view.proofs.KeptSums.{AreSumsTo}

-- the first blocks of a run aren't in the block's past, where all of that below the second one is in the second one's past
pub none_apart : (g : Graph) (b y : ℕ) (row below apart : List ℕ) (x : ℕ) → ((z : ℕ) → has row z ≡ in_past g z b) → ((z : ℕ) → has below z ≡ in_past g z y) → ((z : ℕ) → has row z ≡ true → z < 512)
    → apart ≡ difference row below → members_below apart y ≡ [] → x < y → related g x y ≡ false → x ≢ y → in_past g x b ≡ false
none_apart g b y row below apart x row_is below_is small is none less unrelated differ = false_from_ne_true (in_past g x b) (λ h.
    false≢true (ap (λ (l : List ℕ). has l x) (sym none) ∙ below_from apart y x (there h) less))
  where
    not_below : in_past g x y ≡ false
    not_below = at (eqb x y) (in_past g x y) (in_past g y x) (ne_eqb x y differ) unrelated
      where
        at : (e p q : Bool) → e ≡ false → (not e && (p || q)) ≡ false → p ≡ false
        at true p q e h = absurd (false≢true (sym e))
        at false true q e h = absurd (false≢true (sym h))
        at false false q e h = refl

    there : in_past g x b ≡ true → has apart x ≡ true
    there h =
        ap (λ (l : List ℕ). has l x) is ∙ has_difference row below x (small x)
        ∙ rw (row_is x ∙ h, below_is x ∙ not_below) refl

-- a pair whose second block isn't a member, and one on which the block has no vote
pub idle_out : (g : Graph) (b : ℕ) (s t : List ℕ) (x y : ℕ) → has t y ≡ false → IsIdle g b s t x y
idle_out g b s t x y out = inl (and_right (has t x) (has t y) out)

pub idle_first : (g : Graph) (b : ℕ) (s t : List ℕ) (x y : ℕ) → has t x ≡ false → IsIdle g b s t x y
idle_first g b s t x y out = inl (and_left (has t x) (has t y) out)

pub idle_apart : (g : Graph) (b : ℕ) (s t : List ℕ) (x y : ℕ) → Joins g b s t → has t y ≡ true → x < y → y < b → in_past g y b ≡ false → in_past g x b ≡ false → IsIdle g b s t x y
idle_apart g b s t x y j member less less' above apart = elim (cases_Bool (has t x)) [
  | inl there ↦ (let inside : (has s x && has s y) ≡ true = and_from (has s x) (has s y) (j.from x there (λ e. omega arith)) (j.from y member (λ e. omega arith)) in
      inr (inside, vote_neither g b s t x y j inside apart above))
  | inr gone ↦ inl (and_left (has t x) (has t y) gone)
]

module _ (g : Graph) (b : ℕ) (s t : List ℕ) (j : Joins g b s t) where
  more_inside : (x y : ℕ) → (has s x && has s y) ≡ true → (has t x && has t y) ≡ true
  more_inside x y inside =
      let parts : (has s x ≡ true) × (has s y ≡ true) = and_parts (has s x) (has s y) inside in
      and_from (has t x) (has t y) (j.into x parts.0) (j.into y parts.1)

  pub idle_entry : (x y : ℕ) (pool : Pool) (e : Option (ℕ × ℕ)) → x ≢ y → IsRow s → IsAsked g t → IsIdle g b s t x y → IsEntry g s x y pool e → IsEntry g t x y pool e
  idle_entry x y pool None other row asked (inl out) is = out
  idle_entry x y pool None other row asked (inr idle) is = absurd (false≢true (sym is ∙ idle.0))
  idle_entry x y pool (Some e) other row asked (inl out) is = absurd (false≢true (sym out ∙ more_inside x y is.0))
  idle_entry x y pool (Some e) other row asked (inr idle) is =
      (more_inside x y is.0, tie_sides g b s t x y (row_of pool e.0) (row_of pool e.1) j other row asked is.1 idle.1)

  pub idle_sum : (x y : ℕ) (o : Option ℤ) → x ≢ y → IsIdle g b s t x y → IsSum g s x y o → IsSum g t x y o
  idle_sum x y None other idle is = tt
  idle_sum x y (Some n) other (inl out) is = λ inside. absurd (false≢true (sym out ∙ inside))
  idle_sum x y (Some n) other (inr idle) is = λ inside.
      let same : sum_of g t x y ≡ sum_of g s x y +ℤ vote g t b x y = sum_stays g b s t x y j (tie_stays g b s t j x y other idle.1) in
      let old : n ≡ sum_of g s x y = is idle.0 in
      omega (arith, ints, same, old, idle.1)

module _ (table : Numbered) (b : ℕ) (s t : List ℕ) (j : Joins (graph_of table) b s t) (i i' : ℕ) (le : i ≤ i')
    (idle : (k x y : ℕ) → slice_get (pairs_of table) k ≡ Some (x, y) → i ≤ k → k < i' → IsIdle (graph_of table) b s t x y) where
  apart : (k x y : ℕ) → slice_get (pairs_of table) k ≡ Some (x, y) → x ≢ y
  apart k x y at e = (let kind : IsPair table (x, y) = pair_kind table k (x, y) at in let less : x < y = kind.order in omega arith)

  -- entries and sums up to a pair, where the next ones are passed over
  pub entries_idle : (pool : Pool) (entries : List (Option (ℕ × ℕ))) → IsRow s → IsAsked (graph_of table) t → AreEntriesTo table s t i pool entries → AreEntriesTo table s t i' pool entries
  entries_idle pool entries row asked known k x y at = by (cases_lt k i) (cases_lt k i')
    where
      by : (k < i) ⊎ (i ≤ k) → (k < i') ⊎ (i' ≤ k) → IsEntry (graph_of table) (cond (ltb k i') t s) x y pool (entry_at entries k)
      by (inl less) (inl less') = rw (lt-ltb k i' less') (rw (lt-ltb k i less) at (known k x y at))
      by (inl less) (inr more) = absurd (omega (arith, le, less, more))
      by (inr some) (inl less') =
          rw (lt-ltb k i' less') (idle_entry (graph_of table) b s t j x y pool (entry_at entries k) (apart k x y at) row asked (idle k x y at some less') (rw (le-ltb k i some) at (known k x y at)))
      by (inr some) (inr more) = rw (le-ltb k i' more) (rw (le-ltb k i some) at (known k x y at))

  pub sums_idle : (sums : List ℤ) → AreSumsTo table s t i sums → AreSumsTo table s t i' sums
  sums_idle sums known k x y at = by (cases_lt k i) (cases_lt k i')
    where
      by : (k < i) ⊎ (i ≤ k) → (k < i') ⊎ (i' ≤ k) → IsSum (graph_of table) (cond (ltb k i') t s) x y (slice_get sums k)
      by (inl less) (inl less') = rw (lt-ltb k i' less') (rw (lt-ltb k i less) at (known k x y at))
      by (inl less) (inr more) = absurd (omega (arith, le, less, more))
      by (inr some) (inl less') =
          rw (lt-ltb k i' less') (idle_sum (graph_of table) b s t j x y (slice_get sums k) (apart k x y at) (idle k x y at some less') (rw (le-ltb k i some) at (known k x y at)))
      by (inr some) (inr more) = rw (le-ltb k i' more) (rw (le-ltb k i some) at (known k x y at))

-- more pairs move more rows
pub moved_more : (g : Graph) (set more : List ℕ) (pairs : List (ℕ × ℕ)) (i i' : ℕ) → i ≤ i' → moved_rows g set more (take i pairs) ≤ moved_rows g set more (take i' pairs)
moved_more g set more pairs zero i' le = omega arith
moved_more g set more pairs (suc i) zero le = absurd (omega arith)
moved_more g set more [] (suc i) (suc i') le = omega arith
moved_more g set more (p ∷ ps) (suc i) (suc i') le = (let rest : moved_rows g set more (take i ps) ≤ moved_rows g set more (take i' ps) = moved_more g set more ps i i' (omega arith) in omega (arith, rest))
