-- A view whose entries are saved before they change, where it starts, grows, saves anew and is put back.
use Rattle.std.proofs.Common.{◌≡◌, ℕ, ◌+◌, ◌≤◌, ◌<◌, List, [], length, Option, sym, ap, subst, ◌∙◌, arith}
use Rattle.std.specs.Prelude.{ℤ, IsSome, slice_get}
use Rattle.std.proofs.lemmas.Bool.{false≢true}
use Rattle.sp_dag.specs.Numbered.{Numbered, AreInOrder, graph_of, pairs_of}
use Rattle.sp_frozen.specs.Voters.{FrozenRows}
use Rattle.sp_rows.specs.Pool.{Counted, Pool}
use Rattle.sp_rows.specs.Pool as counted
use Rattle.sp_view.specs.Homes.{AreHome}
use Rattle.sp_view.specs.Saved.{patched, AreCountedWith, IsSaving}
use Rattle.sp_view.specs.Stored.{count_of, row_of}
use Rattle.sp_view.specs.Summed.{AreRight, AreSums}
use Rattle.sp_view.specs.Views.{Viewed, entry_at, held, IsView}
use Rattle.sp_view.proofs.Homes.{view_home}
use Rattle.sp_view.proofs.KeptSums.{inside_sum, sums_all, sums_longer}
use Rattle.sp_view.proofs.Patched.{held_patched, held_saved, length_patched}
use Rattle.sp_view.proofs.Starting.{nothing, view_nothing}
use Rattle.sp_view.proofs.Staying.{view_moves}
use Rattle.sp_tests_views.specs.Keeping.{IsKept}
use Rattle.sp_tests_views.specs.Voting.{CanVote, IsBased}

-- any sums are those of no blocks
pub sums_nothing : (table : Numbered) (sums : List ℤ) → AreSums table [] sums
sums_nothing table sums = record {
  right = λ i x y at. inside_sum (graph_of table) [] x y (slice_get sums i) (λ inside. absurd (false≢true inside));
  long = λ i x y at inside. absurd (false≢true inside);
}

saving_nothing : (entries : List (Option (ℕ × ℕ))) → IsSaving [] entries
saving_nothing entries = record { long = omega arith; there = λ i lt. absurd (omega (arith, lt)) }

pub kept_start : (table : Numbered) (frozen : FrozenRows) (pool : Pool) (sums older : List ℤ) → IsBased table frozen → AreInOrder table.parents → pool.rows ≡ []
    → length (pairs_of table) ≤ length sums → length (pairs_of table) ≤ length older → IsKept table frozen pool nothing sums [] [] older
kept_start table frozen pool sums older based order rows long long' = record {
  based = based;
  is = view_nothing table pool order;
  summed = sums_nothing table sums;
  long = long;
  saving = saving_nothing [];
  counts = λ r. ap (λ (l : List Counted). counted.count_of l r) rows;
  was = view_nothing table pool order;
  summed_then = sums_nothing table older;
  long_then = long';
}

pub kept_first : (table : Numbered) (frozen : FrozenRows) (pool : Pool) (view : Viewed) (sums : List ℤ) (members : List ℕ) (saved : List (Option (ℕ × ℕ))) (older : List ℤ) → IsBased table frozen → AreInOrder table.parents → pool.rows ≡ []
    → length (pairs_of table) ≤ length sums → view ≡ nothing → members ≡ [] → saved ≡ [] → older ≡ sums → IsKept table frozen pool view sums members saved older
kept_first table frozen pool view sums members saved older based order rows long none bare empty same =
    subst (λ (v : Viewed). IsKept table frozen pool v sums members saved older) (sym none)
    (subst (λ (l : List ℕ). IsKept table frozen pool nothing sums l saved older) (sym bare)
    (subst (λ (l : List (Option (ℕ × ℕ))). IsKept table frozen pool nothing sums [] l older) (sym empty)
    (kept_start table frozen pool sums older based order rows long (let e = ap length same in omega (arith, e, long)))))

module _ (table : Numbered) (frozen : FrozenRows) (pool : Pool) (view : Viewed) (sums : List ℤ) (members : List ℕ) (saved : List (Option (ℕ × ℕ))) (older : List ℤ)
    (kept : IsKept table frozen pool view sums members saved older) where
  pub kept_can : CanVote table frozen pool view
  kept_can = record { based = kept.based; is = kept.is }

  -- no row is counted more than twice
  pub kept_few : (r : ℕ) → count_of pool r ≤ 2
  kept_few r =
      (let c = kept.counts r in let a : held view.entries r ≤ 1 = kept.is.once r in let b : held (patched saved view.entries) r ≤ 1 = kept.was.once r in
      omega (arith, c, a, b, held_saved saved view.entries r))

  -- beside a block more
  pub kept_grown : (more : Numbered) (frozen' : FrozenRows) (sums' older' : List ℤ) → IsBased more frozen' → ((view : Viewed) (pool : Pool) → IsView table view pool → IsView more view pool)
      → ((view : Viewed) (pool : Pool) (sums : List ℤ) → IsView table view pool → AreSums table view.members sums → AreSums more view.members sums)
      → length sums ≤ length sums' → ((i : ℕ) → i < length sums → slice_get sums' i ≡ slice_get sums i) → length (pairs_of more) ≤ length sums'
      → length older ≤ length older' → ((i : ℕ) → i < length older → slice_get older' i ≡ slice_get older i) → length (pairs_of more) ≤ length older'
      → IsKept more frozen' pool view sums' members saved older'
  kept_grown more frozen' sums' older' based views stay longer same long longer' same' long' = record {
    based = based;
    is = views view pool kept.is;
    summed = sums_longer more view.members sums sums' longer same (stay view pool sums kept.is kept.summed);
    long = long;
    saving = kept.saving;
    counts = kept.counts;
    was = views (record { members = members; entries = patched saved view.entries }) pool kept.was;
    summed_then = sums_longer more members older older' longer' same' (stay (record { members = members; entries = patched saved view.entries }) pool older kept.was kept.summed_then);
    long_then = long';
  }

  -- what was saved goes, some rows have the ids again that they had there, and all may be saved anew
  pub kept_anew : (pool' : Pool) (view' : Viewed) (saved' : List (Option (ℕ × ℕ))) → view'.members ≡ view.members → AreHome pool pool' saved view.entries view'.entries
      → ((i : ℕ) → i < length (pairs_of table) → IsSome (entry_at view'.entries i)) → patched saved' view'.entries ≡ view'.entries → ((r : ℕ) → held saved' r ≡ 0)
      → IsKept table frozen pool' view' sums view'.members saved' sums
  kept_anew pool' view' saved' members' home all same none =
      let after : (r : ℕ) → count_of pool' r ≡ held view'.entries r = λ r. (let c = kept.counts r in let d = home.counts r in omega (arith, c, d)) in
      let long : length saved' ≡ length view'.entries = sym (length_patched saved' view'.entries) ∙ ap length same in
      let is : IsView table view' pool' = view_home table pool pool' saved view view' kept.is members' home (λ r. (let c = after r in omega (arith, c))) in
      let summed : AreSums table view'.members sums = subst (λ (l : List ℕ). AreSums table l sums) (sym members') kept.summed in
      record {
        based = kept.based;
        is = is;
        summed = summed;
        long = kept.long;
        saving = record {
          long = omega (arith, long);
          there = λ i lt. subst (λ (l : List (Option (ℕ × ℕ))). IsSome (entry_at l i)) (sym same) (all i (let few : length view'.entries ≤ length (pairs_of table) = is.few in omega (arith, lt, long, few)));
        };
        counts = λ r. (let c = after r in let n = none r in omega (arith, c, n));
        was = subst (λ (l : List (Option (ℕ × ℕ))). IsView table (record { members = view'.members; entries = l }) pool') (sym same) is;
        summed_then = summed;
        long_then = kept.long;
      }

  pub kept_saving : (pool' : Pool) (view' : Viewed) (gone : List (Option (ℕ × ℕ))) (members' : List ℕ) (saved' : List (Option (ℕ × ℕ))) (older' : List ℤ) → gone ≡ saved → members' ≡ view'.members → older' ≡ sums
      → view'.members ≡ view.members → AreHome pool pool' gone view.entries view'.entries → ((i : ℕ) → i < length (pairs_of table) → IsSome (entry_at view'.entries i))
      → patched saved' view'.entries ≡ view'.entries → ((r : ℕ) → held saved' r ≡ 0) → IsKept table frozen pool' view' sums members' saved' older'
  kept_saving pool' view' gone members' saved' older' was e e' stays home all same none =
      subst (λ (l : List ℕ). IsKept table frozen pool' view' sums l saved' older') (sym e)
      (subst (λ (l : List ℤ). IsKept table frozen pool' view' sums view'.members saved' l) (sym e')
      (kept_anew pool' view' saved' stays (subst (λ (l : List (Option (ℕ × ℕ))). AreHome pool pool' l view.entries view'.entries) was home) all same none))

  -- a block joins
  pub kept_joined : (pool' : Pool) (view' : Viewed) (sums' : List ℤ) (saved' : List (Option (ℕ × ℕ))) → IsView table view' pool' → AreCountedWith pool pool' view.entries saved view'.entries saved'
      → AreRight table view'.members sums' → length sums' ≡ length sums → IsSaving saved' view'.entries → patched saved' view'.entries ≡ patched saved view.entries
      → ((r : ℕ) → 0 < held (patched saved view.entries) r → row_of pool' r ≡ row_of pool r) → IsKept table frozen pool' view' sums' members saved' older
  kept_joined pool' view' sums' saved' is counts right as_long saving same rows =
      let after : (r : ℕ) → count_of pool' r ≡ held view'.entries r + held saved' r = λ r. (let c = kept.counts r in let d = counts r in omega (arith, c, d)) in
      let long : length (pairs_of table) ≤ length sums' = omega (arith, as_long, kept.long) in
      let there : (r : ℕ) → held (patched saved view.entries) r ≤ count_of pool' r =
      λ r. (let e : held (patched saved' view'.entries) r ≡ held (patched saved view.entries) r = ap (λ (l : List (Option (ℕ × ℕ))). held l r) same in let c = after r in
      omega (arith, e, c, held_patched saved' view'.entries r)) in
      record {
        based = kept.based;
        is = is;
        summed = sums_all table view'.members sums' long right;
        long = long;
        saving = saving;
        counts = after;
        was = subst (λ (l : List (Option (ℕ × ℕ))). IsView table (record { members = members; entries = l }) pool') (sym same)
            (view_moves table (record { members = members; entries = patched saved view.entries }) pool pool' kept.was there rows);
        summed_then = kept.summed_then;
        long_then = kept.long_then;
      }

  -- the view is put back
  pub kept_back : (pool' : Pool) → ((r : ℕ) → count_of pool' r + (held view.entries r + held saved r) ≡ count_of pool r + held (patched saved view.entries) r)
      → ((r : ℕ) → 0 < count_of pool' r → row_of pool' r ≡ row_of pool r) → IsKept table frozen pool' (record { members = members; entries = patched saved view.entries }) older [] [] sums
  kept_back pool' counts rows =
      let after : (r : ℕ) → count_of pool' r ≡ held (patched saved view.entries) r = λ r. (let c = kept.counts r in let d = counts r in omega (arith, c, d)) in
      record {
        based = kept.based;
        is = view_moves table (record { members = members; entries = patched saved view.entries }) pool pool' kept.was (λ r. (let c = after r in omega (arith, c)))
            (λ r some. rows r (let c = after r in omega (arith, c, some)));
        summed = kept.summed_then;
        long = kept.long_then;
        saving = saving_nothing (patched saved view.entries);
        counts = λ r. (let c = after r in omega (arith, c));
        was = view_nothing table pool' kept.is.order;
        summed_then = sums_nothing table sums;
        long_then = kept.long;
      }

  pub kept_restored : (pool' : Pool) (view' : Viewed) (sums' : List ℤ) (members' : List ℕ) (saved' : List (Option (ℕ × ℕ))) (older' : List ℤ) → view' ≡ record { members = members; entries = patched saved view.entries }
      → members' ≡ [] → saved' ≡ [] → sums' ≡ older → older' ≡ sums → ((r : ℕ) → count_of pool' r + (held view.entries r + held saved r) ≡ count_of pool r + held view'.entries r)
      → ((r : ℕ) → 0 < count_of pool' r → row_of pool' r ≡ row_of pool r) → IsKept table frozen pool' view' sums' members' saved' older'
  kept_restored pool' view' sums' members' saved' older' e bare empty a b counts rows =
      subst (λ (v : Viewed). IsKept table frozen pool' v sums' members' saved' older') (sym e)
      (subst (λ (l : List ℕ). IsKept table frozen pool' (record { members = members; entries = patched saved view.entries }) sums' l saved' older') (sym bare)
      (subst (λ (l : List (Option (ℕ × ℕ))). IsKept table frozen pool' (record { members = members; entries = patched saved view.entries }) sums' [] l older') (sym empty)
      (subst (λ (l : List ℤ). IsKept table frozen pool' (record { members = members; entries = patched saved view.entries }) l [] [] older') (sym a)
      (subst (λ (l : List ℤ). IsKept table frozen pool' (record { members = members; entries = patched saved view.entries }) older [] [] l) (sym b)
      (kept_back pool' (λ r. (let c = counts r in let h : held view'.entries r ≡ held (patched saved view.entries) r = ap (λ (v : Viewed). held v.entries r) e in omega (arith, c, h))) rows)))))
