-- What a step does that saves the entry before it changes.
use Rattle.std.proofs.Common.{◌≡◌, ◌∙◌, ℕ, zero, suc, ◌+◌, ◌<◌, ◌≤◌, Bool, true, false, cond, eqb, List, [], ◌∷◌, length, set, Option, Some, None, refl, sym, ap, subst, inl, inr, arith, get_or-set_same}
use Rattle.std.specs.Prelude.{IsSome}
use Rattle.std.proofs.lemmas.List.{length-set, set-get_or}
use Rattle.sp_bits.specs.Places.{difference}
use Rattle.sp_dag.specs.Numbered.{Numbered, graph_of}
use Rattle.sp_model.specs.Graph.{has}
use Rattle.sp_rows.specs.Pool.{Pool}
use Rattle.sp_view.specs.Keeping.{IsSave, IsSavingStep}
use Rattle.sp_view.specs.Saved.{either, patched, IsSaving}
use Rattle.sp_view.specs.Settled.{AreKept, AreSides}
use Rattle.sp_view.specs.Steps.{AreAnew, IsOld}
use Rattle.sp_view.specs.Stored.{count_of, live, row_of, spare}
use Rattle.sp_view.specs.Views.{entry_at, holds, held, moved_of, IsOnce}
use Rattle.sp_view.proofs.Held.{holds_held}
use Rattle.sp_view.proofs.Patched.{either_holds, entry_nil, held_patched, length_patched, patched_at, patched_saved, patched_set}

pub set_past : (entries : List (Option (ℕ × ℕ))) (i : ℕ) (entry : Option (ℕ × ℕ)) → length entries ≤ i → set entries i entry ≡ entries
set_past [] i entry le = refl
set_past (e ∷ es) zero entry le = absurd (omega (arith, le))
set_past (e ∷ es) (suc i) entry le = ap (λ (l : List (Option (ℕ × ℕ))). e ∷ l) (set_past es i entry (omega (arith, le)))

pub holds_few : (entry : Option (ℕ × ℕ)) (r : ℕ) → holds entry r ≤ 2
holds_few None r = omega arith
holds_few (Some e) r = omega (arith, bit (eqb r e.0), bit (eqb r e.1))
  where
    bit : (b : Bool) → cond {A = ℕ} b 1 0 ≤ 1
    bit true = omega arith
    bit false = omega arith

pub either_some : (s e : Option (ℕ × ℕ)) → IsSome s → either s e ≡ s
either_some None e some = cc
either_some (Some s) e some = refl

-- by what is saved no more is held than the entry holds
saved_more : (saved : List (Option (ℕ × ℕ))) (i : ℕ) (entry : Option (ℕ × ℕ)) (r : ℕ)
    → (held saved r ≤ held (set saved i (either (entry_at saved i) entry)) r) × (held (set saved i (either (entry_at saved i) entry)) r ≤ held saved r + holds entry r)
saved_more [] i entry r = (omega arith, omega arith)
saved_more (None ∷ ss) zero entry r = (omega arith, omega arith)
saved_more (Some s ∷ ss) zero entry r = (omega arith, omega arith)
saved_more (s ∷ ss) (suc i) entry r = (let rest = saved_more ss i entry r in (omega (arith, rest.0), omega (arith, rest.1)))

-- where an entry is saved, or can't be, none of its rows counts for what was there
apart : (saved entries : List (Option (ℕ × ℕ))) (i r : ℕ) → (i < length saved → IsSome (entry_at saved i)) → held (patched saved entries) r + holds (entry_at entries i) r ≤ held saved r + held entries r
apart [] entries i r there = (let le = holds_held entries i r in omega (arith, le))
apart (s ∷ ss) [] i r there = omega (arith, held_patched (s ∷ ss) [] r, ap (λ (o : Option (ℕ × ℕ)). holds o r) (entry_nil i))
apart (s ∷ ss) (e ∷ es) zero r there = by s (there (omega arith)) (held_patched ss es r)
  where
    by : (s : Option (ℕ × ℕ)) → IsSome s → held (patched ss es) r ≤ held ss r + held es r → holds (either s e) r + held (patched ss es) r + holds e r ≤ (holds s r + held ss r) + (holds e r + held es r)
    by None some rest = cc
    by (Some s) some rest = omega (arith, rest)
apart (s ∷ ss) (e ∷ es) (suc i) r there =
    (let rest = apart ss es i r (λ lt. there (omega (arith, lt))) in omega (arith, rest, either_holds s e r))

-- the same entries, and none behind them
pub patched_same : (saved entries entries' : List (Option (ℕ × ℕ))) → ((i : ℕ) → entry_at entries i ≡ entry_at entries' i) → patched saved entries ≡ patched saved entries'
patched_same [] entries entries' same = refl
patched_same (s ∷ ss) [] [] same = refl
patched_same (s ∷ ss) [] (e ∷ es) same =
    ap (λ (l : List (Option (ℕ × ℕ))). s ∷ l) (patched_same ss [] es (λ i. entry_nil i ∙ sym (entry_nil (suc i)) ∙ same (suc i)))
    ∙ ap (λ (o : Option (ℕ × ℕ)). o ∷ patched ss es) (sym (ap (either s) (sym (same 0)) ∙ either_bare s))
  where
    either_bare : (s : Option (ℕ × ℕ)) → either s None ≡ s
    either_bare None = refl
    either_bare (Some s) = refl
patched_same (s ∷ ss) (e ∷ es) [] same =
    ap (λ (l : List (Option (ℕ × ℕ))). either s e ∷ l) (patched_same ss es [] (λ i. same (suc i) ∙ entry_nil (suc i) ∙ sym (entry_nil i)))
    ∙ ap (λ (o : Option (ℕ × ℕ)). o ∷ patched ss []) (ap (either s) (same 0) ∙ either_bare s)
  where
    either_bare : (s : Option (ℕ × ℕ)) → either s None ≡ s
    either_bare None = refl
    either_bare (Some s) = refl
patched_same (s ∷ ss) (e ∷ es) (e' ∷ es') same =
    ap (λ (l : List (Option (ℕ × ℕ))). either s e ∷ l) (patched_same ss es es' (λ i. same (suc i))) ∙ ap (λ (o : Option (ℕ × ℕ)). either s o ∷ patched ss es') (same 0)

module _ (before mid : Pool) (place : ℕ) (entry : Option (ℕ × ℕ)) (saved saved' : List (Option (ℕ × ℕ))) (s : IsSave before mid place entry saved saved') where
  saved_up : (r : ℕ) → (held saved r ≤ held saved' r) × (held saved' r ≤ held saved r + holds entry r)
  saved_up r = subst (λ (l : List (Option (ℕ × ℕ))). (held saved r ≤ held l r) × (held l r ≤ held saved r + holds entry r)) (sym s.is) (saved_more saved place entry r)

  saved_there : (entries : List (Option (ℕ × ℕ))) → entry ≡ entry_at entries place → IsSaving saved entries → place < length saved' → IsSome (entry_at saved' place)
  saved_there entries at saving less =
      let lt : place < length saved = omega (arith, less, ap length s.is, length-set saved place (either (entry_at saved place) entry)) in
      subst IsSome
      (patched_at saved entries place lt ∙ ap (either (entry_at saved place)) (sym at) ∙ sym (get_or-set_same saved place (either (entry_at saved place) entry) None lt)
      ∙ ap (λ (l : List (Option (ℕ × ℕ))). entry_at l place) (sym s.is)) (saving.there place lt)

  saved_same : (entries : List (Option (ℕ × ℕ))) → entry ≡ entry_at entries place → patched saved' entries ≡ patched saved entries
  saved_same entries at =
      ap (λ (l : List (Option (ℕ × ℕ))). patched l entries) s.is ∙ ap (λ (o : Option (ℕ × ℕ)). patched (set saved place (either (entry_at saved place) o)) entries) at ∙ patched_saved saved entries place

-- the rows of the entry are what they were
module _ (table : Numbered) (set more : List ℕ) (pair : ℕ) (before mid : Pool) (place : ℕ) (e : ℕ × ℕ) (saved saved' : List (Option (ℕ × ℕ))) (s : IsSave before mid place (Some e) saved saved') where
  pub old_saved : IsOld table set more pair before e → IsOld table set more pair mid e
  old_saved o = record {
    counted = λ r. omega (arith, o.counted r, s.counts r, (saved_up before mid place (Some e) saved saved' s r).0);
    inside = o.inside;
    sides = λ x y at.
        subst (λ (l : List ℕ). AreSides (graph_of table) set x y l (row_of mid e.1)) (sym (s.rows e.0))
        (subst (λ (l : List ℕ). AreSides (graph_of table) set x y (row_of before e.0) l) (sym (s.rows e.1)) (o.sides x y at));
    room = λ x y at. omega (arith, o.room x y at, s.spare);
  }

  pub anew_saved : (todo : List ℕ) → AreAnew table more pair before e todo → AreAnew table more pair mid e todo
  anew_saved todo a = record {
    within = a.within;
    opened = a.opened;
    kept = λ x y at.
        subst (λ (l : List ℕ). AreKept (graph_of table) more x y (has todo) (difference l todo) (difference (row_of mid e.1) todo)) (sym (s.rows e.0))
        (subst (λ (l : List ℕ). AreKept (graph_of table) more x y (has todo) (difference (row_of before e.0) todo) (difference l todo)) (sym (s.rows e.1)) (a.kept x y at));
  }

-- so long as what was there is known
pub saving_still : (saved saved' entries entries' : List (Option (ℕ × ℕ))) → patched saved' entries' ≡ patched saved entries → length entries ≤ length entries' → IsSaving saved entries → IsSaving saved' entries'
saving_still saved saved' entries entries' same longer saving =
    let long : length saved' ≡ length saved = sym (length_patched saved' entries') ∙ ap length same ∙ length_patched saved entries in
    record {
      long = omega (arith, long, longer, saving.long);
      there = λ i lt. subst (λ (l : List (Option (ℕ × ℕ))). IsSome (entry_at l i)) (sym same) (saving.there i (omega (arith, lt, long)));
    }

-- an entry that isn't there needn't be saved
pub nothing_saved : (pool : Pool) (place : ℕ) (saved : List (Option (ℕ × ℕ))) → IsSave pool pool place None saved saved
nothing_saved pool place saved = record {
  is = sym (ap (set saved place) (bare (entry_at saved place)) ∙ set-get_or saved place None);
  counts = λ r. refl;
  rows = λ r. refl;
  spare = refl;
  live = refl;
}
  where
    bare : (s : Option (ℕ × ℕ)) → either s None ≡ s
    bare None = refl
    bare (Some s) = refl

module _ (before after : Pool) (place : ℕ) (entry entry' : Option (ℕ × ℕ)) (saved saved' : List (Option (ℕ × ℕ))) (counted : (r : ℕ) → holds entry r ≤ count_of before r)
    (h : IsSavingStep before after place entry entry' saved saved') where
  pub grows : (r : ℕ) → (held saved r ≤ held saved' r) × (held saved' r ≤ held saved r + holds entry r)
  grows r = elim h [
    | inl p ↦ saved_up before p.0 place entry saved saved' p.1 r
    | inr q ↦ (let same = ap (λ (l : List (Option (ℕ × ℕ))). held l r) q.0 in (omega (arith, same), omega (arith, same)))
  ]

  pub counts : (r : ℕ) → count_of after r + (holds entry r + held saved r) ≡ count_of before r + (holds entry' r + held saved' r)
  counts r = elim h [
    | inl p ↦ omega (arith, p.1.counts r, p.2.counts r)
    | inr q ↦ omega (arith, ap (λ (x : Pool). count_of x r) q.1, ap (λ (l : List (Option (ℕ × ℕ))). held l r) q.0, ap (λ (o : Option (ℕ × ℕ)). holds o r) q.2)
  ]

  pub still : (r : ℕ) → holds entry r ≡ 0 → holds entry' r ≡ 0 → count_of after r ≡ count_of before r
  still r none none' = omega (arith, counts r, none, none', (grows r).0, (grows r).1)

  pub own : (r : ℕ) → holds entry' r ≤ count_of after r
  own r = omega (arith, counts r, counted r, (grows r).0)

  pub few_more : (r : ℕ) → count_of after r ≤ count_of before r + 4
  few_more r = omega (arith, counts r, (grows r).1, holds_few entry r, holds_few entry' r)

  pub others : (r : ℕ) → holds entry r < count_of before r → row_of after r ≡ row_of before r
  others r less = elim h [
    | inl p ↦ p.2.others r (omega (arith, less, p.1.counts r, (grows r).0)) ∙ p.1.rows r
    | inr q ↦ ap (λ (x : Pool). row_of x r) q.1
  ]

  pub alive : (r : ℕ) → 0 < count_of before r → 0 < count_of after r
  alive r some = elim h [
    | inl p ↦ p.2.alive r (omega (arith, some, p.1.counts r, (grows r).0))
    | inr q ↦ omega (arith, some, ap (λ (x : Pool). count_of x r) q.1)
  ]

  pub once : (r : ℕ) → IsOnce (count_of before r) (holds entry r) (holds entry' r)
  once r = elim h [
    | inl p ↦ (
      λ some. (p.2.once r).0 (omega (arith, some, p.1.counts r, (grows r).0)),
      λ none. (p.2.once r).1 (omega (arith, none, p.1.counts r, (grows r).1, counted r)),
    )
    | inr q ↦ (let same = ap (λ (o : Option (ℕ × ℕ)). holds o r) q.2 in (λ _. omega (arith, same), λ none. omega (arith, same, none, counted r)))
  ]

  pub moved_spare : spare before ≤ spare after + moved_of entry entry'
  moved_spare = elim h [
    | inl p ↦ omega (arith, p.2.spare, p.1.spare)
    | inr q ↦ omega (arith, ap (λ (x : Pool). spare x) q.1)
  ]

  pub moved_live : live after ≤ live before + moved_of entry entry'
  moved_live = elim h [
    | inl p ↦ omega (arith, p.2.live, p.1.live)
    | inr q ↦ omega (arith, ap (λ (x : Pool). live x) q.1)
  ]

  -- what was there is known as before
  module _ (entries : List (Option (ℕ × ℕ))) (at : entry ≡ entry_at entries place) (saving : IsSaving saved entries) where
    pub patched_step : patched saved' (set entries place entry') ≡ patched saved entries
    patched_step = elim h [
      | inl p ↦ patched_set saved' entries place entry' (saved_there before p.0 place entry saved saved' p.1 entries at saving) ∙ saved_same before p.0 place entry saved saved' p.1 entries at
      | inr q ↦ ap (λ (l : List (Option (ℕ × ℕ))). patched l (set entries place entry')) q.0 ∙ ap (λ (o : Option (ℕ × ℕ)). patched saved (set entries place o)) (q.2 ∙ at) ∙ ap (patched saved) (set-get_or entries place None)
    ]

    pub rows_step : ((r : ℕ) → held saved r + held entries r ≤ count_of before r) → (r : ℕ) → 0 < held (patched saved entries) r → row_of after r ≡ row_of before r
    rows_step enough r some = elim h [
      | inl p ↦ p.2.others r (omega (
        arith,
        some,
        enough r,
        p.1.counts r,
        apart saved' entries place r (saved_there before p.0 place entry saved saved' p.1 entries at saving),
        ap (λ (l : List (Option (ℕ × ℕ))). held l r) (saved_same before p.0 place entry saved saved' p.1 entries at),
        ap (λ (o : Option (ℕ × ℕ)). holds o r) at,
      )) ∙ p.1.rows r
      | inr q ↦ ap (λ (x : Pool). row_of x r) q.1
    ]
