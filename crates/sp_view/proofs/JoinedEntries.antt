-- What holds once a block that joins a set has turned one pair more. The loop over the pairs keeps all of it; here it is said part by
-- part, of any entries and pool.
use Rattle.std.proofs.Common.{◌≡◌, ◌≢◌, ◌∙◌, ◌<◌, ◌≤◌, ◌+◌, ℕ, List, Option, Some, None, ap, arith, get_or, length, set, subst, sym, take}
use Rattle.std.specs.Prelude.{ℤ, slice_get, IfSome}
use Rattle.std.proofs.lemmas.Bool.{le-ltb}
use Rattle.sp_bits.specs.Places.{IsRow}
use Rattle.sp_dag.specs.Numbered.{Numbered, graph_of, pairs_of}
use Rattle.sp_model.specs.Graph.{Graph}
use Rattle.sp_model.specs.Joining.{Joins}
use Rattle.sp_rows.specs.Pool.{Pool}
use Rattle.sp_view.specs.Idle.{IsIdle}
use Rattle.sp_view.specs.Keeping.{IsSavingStep}
use Rattle.sp_view.specs.Moving.{moved_rows}
use Rattle.sp_view.specs.Saved.{patched, AreCountedWith, IsSaving}
use Rattle.sp_view.specs.Settled.{IsAsked}
use Rattle.sp_view.specs.Stored.{count_of, live, row_of, spare}
use Rattle.sp_view.specs.Summed.{IsSum}
use Rattle.sp_view.specs.Views.{entry_at, holds, held, moved_of, AreFresh, AreKeptIds, IsEntry, IsFresh, IsOnce, KeepIds}
use Rattle.sp_view.proofs.Fresh.{fresh_step}
use Rattle.sp_view.proofs.Held.{AreEntriesTo, entries_step, held_set, holds_held, kept_step, once_step, some_pair}
use Rattle.sp_view.proofs.Idling.{entries_idle, moved_more, sums_idle}
use Rattle.sp_view.proofs.Keeping as keeping
use Rattle.sp_view.proofs.KeptSums.{AreSumsTo, sums_step}
use Rattle.sp_view.proofs.Moves.{moved_moves, moved_take}
use Rattle.sp_view.proofs.TwoRows.{results_of}

-- Another entry comes in the place of the one that stands there, which is saved before if it changes and may be saved. The pool
-- counts all that the entries and the saved ones hold.
pub record IsTurn (pool pool' : Pool) (items : List (Option (ℕ × ℕ))) (i : ℕ) (e e' : Option (ℕ × ℕ)) (saved saved' : List (Option (ℕ × ℕ))) : Type 0 where
  pub inside : i < length items
  pub read : e ≡ entry_at items i
  pub enough : (r : ℕ) → held saved r + held items r ≤ count_of pool r
  pub step : IsSavingStep pool pool' i e e' saved saved'

module _ {pool pool' : Pool} {items : List (Option (ℕ × ℕ))} {i : ℕ} {e e' : Option (ℕ × ℕ)} {saved saved' : List (Option (ℕ × ℕ))} (t : IsTurn pool pool' items i e e' saved saved') where
  entries_counted : (r : ℕ) → held items r ≤ count_of pool r
  entries_counted r = omega (arith, t.enough r)

  entry_counted : (r : ℕ) → holds e r ≤ count_of pool r
  entry_counted r = omega (arith, ap (λ (o : Option (ℕ × ℕ)). holds o r) t.read, holds_held items i r, t.enough r)

  -- a row that is held beyond the entry stays
  pub others_stay : (r : ℕ) → holds (entry_at items i) r < count_of pool r → row_of pool' r ≡ row_of pool r
  others_stay r =
      subst (λ (o : Option (ℕ × ℕ)). holds o r < count_of pool r → row_of pool' r ≡ row_of pool r) t.read
      (keeping.others pool pool' i e e' saved saved' entry_counted t.step r)

  pub alive_still : (r : ℕ) → 0 < count_of pool r → 0 < count_of pool' r
  alive_still r = keeping.alive pool pool' i e e' saved saved' entry_counted t.step r

  -- what is saved stays saved, no row has many more holders, and no more rows are taken than the entry's that move
  pub saved_more : (r : ℕ) → held saved r ≤ held saved' r
  saved_more r = (keeping.grows pool pool' i e e' saved saved' entry_counted t.step r).0

  pub counts_few : (r : ℕ) → count_of pool' r ≤ count_of pool r + 4
  counts_few r = keeping.few_more pool pool' i e e' saved saved' entry_counted t.step r

  pub live_most : live pool' ≤ live pool + moved_of e e'
  live_most = keeping.moved_live pool pool' i e e' saved saved' entry_counted t.step

  pub spare_least : spare pool ≤ spare pool' + moved_of e e'
  spare_least = keeping.moved_spare pool pool' i e e' saved saved' entry_counted t.step

  -- what was there before the first turn is known as before
  pub patched_next : IsSaving saved items → patched saved' (set items i e') ≡ patched saved items
  patched_next saving = keeping.patched_step pool pool' i e e' saved saved' entry_counted t.step items t.read saving

  pub rows_next : IsSaving saved items → (r : ℕ) → 0 < held (patched saved items) r → row_of pool' r ≡ row_of pool r
  rows_next saving = keeping.rows_step pool pool' i e e' saved saved' entry_counted t.step items t.read saving t.enough

  pub counts_next : AreCountedWith pool pool' items saved (set items i e') saved'
  counts_next r = omega (
    arith,
    keeping.counts pool pool' i e e' saved saved' entry_counted t.step r,
    ap (λ (o : Option (ℕ × ℕ)). holds o r) t.read,
    held_set items i e' r t.inside,
  )

  held_once : (r : ℕ) → IsOnce (count_of pool r) (holds (entry_at items i) r) (holds e' r)
  held_once r =
      subst (λ (o : Option (ℕ × ℕ)). IsOnce (count_of pool r) (holds o r) (holds e' r)) t.read
      (keeping.once pool pool' i e e' saved saved' entry_counted t.step r)

  pub once_next : (r : ℕ) → held items r ≤ 1 → held (set items i e') r ≤ 1
  once_next r few = once_step items i e' (count_of pool r) r t.inside (entries_counted r) few (held_once r)

  pub fresh_next : (first : List (Option (ℕ × ℕ))) (start : Pool) → entry_at items i ≡ entry_at first i → ((r : ℕ) → 0 < count_of start r → 0 < count_of pool r)
      → (e ≡ None → IfSome e' (IsFresh pool pool')) → AreFresh first items start pool → AreFresh first (set items i e') start pool'
  fresh_next first start unturned alive fresh known =
      fresh_step first items i e' start pool pool' t.inside unturned entries_counted alive
      (λ r none none'. keeping.still pool pool' i e e' saved saved' entry_counted t.step r (omega (arith, none, ap (λ (o : Option (ℕ × ℕ)). holds o r) t.read)) none')
      (λ r some. results_of (count_of pool r) (holds (entry_at items i) r) (holds e' r) (held_once r) some)
      (subst (λ (o : Option (ℕ × ℕ)). o ≡ None → IfSome e' (IsFresh pool pool')) t.read fresh)
      known

-- a block joins the set, and after a pair only such are passed over on which it has no vote
pub record IsPassing (table : Numbered) (b : ℕ) (before members : List ℕ) (i next : ℕ) : Type 0 where
  pub joins : Joins (graph_of table) b before members
  pub row : IsRow before
  pub asked : IsAsked (graph_of table) members
  pub later : i + 1 ≤ next
  pub idle : (k x y : ℕ) → slice_get (pairs_of table) k ≡ Some (x, y) → i + 1 ≤ k → k < next → IsIdle (graph_of table) b before members x y

module _ {table : Numbered} {b : ℕ} {before members : List ℕ} {i next : ℕ} (p : IsPassing table b before members i next) where
  pub sums_next : (sums sums' : List ℤ) → ((j : ℕ) → j ≢ i → slice_get sums' j ≡ slice_get sums j)
      → ((x y : ℕ) → slice_get (pairs_of table) i ≡ Some (x, y) → IsSum (graph_of table) members x y (slice_get sums' i))
      → AreSumsTo table before members i sums → AreSumsTo table before members next sums'
  sums_next sums sums' others turned known =
      sums_idle table b before members p.joins (i + 1) next p.later p.idle sums' (sums_step table before members i sums sums' others turned known)

  module _ {pool pool' : Pool} {items : List (Option (ℕ × ℕ))} {e e' : Option (ℕ × ℕ)} {saved saved' : List (Option (ℕ × ℕ))} (t : IsTurn pool pool' items i e e' saved saved') where
    pub entries_next : ((x y : ℕ) → slice_get (pairs_of table) i ≡ Some (x, y) → IsEntry (graph_of table) members x y pool' e')
        → AreEntriesTo table before members i pool items → AreEntriesTo table before members next pool' (set items i e')
    entries_next turned known =
        entries_idle table b before members p.joins (i + 1) next p.later p.idle pool' (set items i e') p.row p.asked
        (entries_step table before members i pool pool' items e' t.inside (entries_counted t) (others_stay t) (λ x y at _. turned x y at) known)

    pub kept_next : (first : List (Option (ℕ × ℕ))) → entry_at items i ≡ entry_at first i
        → ((x y : ℕ) → slice_get (pairs_of table) i ≡ Some (x, y) → KeepIds (graph_of table) before members x y e e')
        → AreKeptIds table before members first items → AreKeptIds table before members first (set items i e')
    kept_next first unturned kept =
        kept_step table before members i first items e' t.inside
        (λ x y at. subst (λ (o : Option (ℕ × ℕ)). KeepIds (graph_of table) before members x y o e') (t.read ∙ unturned) (kept x y at))

    -- as many rows are taken as the pair's votes move
    pub moves_taken : i < length (pairs_of table)
        → ((x y : ℕ) → slice_get (pairs_of table) i ≡ Some (x, y) → IsEntry (graph_of table) members x y pool' e')
        → ((x y : ℕ) → slice_get (pairs_of table) i ≡ Some (x, y) → KeepIds (graph_of table) before members x y e e') → AreEntriesTo table before members i pool items
        → moved_of e e' + moved_rows (graph_of table) before members (take i (pairs_of table)) ≤ moved_rows (graph_of table) before members (take next (pairs_of table))
    moves_taken listed turned kept known =
        let g : Graph = graph_of table in
        let pair = get_or (pairs_of table) i (0, 0) in
        let at : slice_get (pairs_of table) i ≡ Some (pair.0, pair.1) = some_pair (pairs_of table) i listed in
        let was : IsEntry g before pair.0 pair.1 pool e =
        subst (λ (o : Option (ℕ × ℕ)). IsEntry g before pair.0 pair.1 pool o) (sym t.read) (rw (le-ltb i i (omega arith)) at (known i pair.0 pair.1 at)) in
        omega (
          arith,
          moved_moves g before members pair.0 pair.1 pool pool' e e' p.row p.asked.row was (turned pair.0 pair.1 at) (kept pair.0 pair.1 at),
          moved_take g before members (pairs_of table) i pair.0 pair.1 at,
          moved_more g before members (pairs_of table) (i + 1) next p.later,
        )
