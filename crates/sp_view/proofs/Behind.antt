-- Entries that end where the pairs inside their set do.
use Rattle.std.proofs.Common.{◌≡◌, ℕ, ◌<◌, ◌≤◌, true, List, length, Option, Some, None, sym, ◌∙◌, inl, inr, arith}
use Rattle.std.specs.Prelude.{ℤ, slice_get}
use Rattle.std.proofs.lemmas.Bool.{and_from, and_parts, cases_lt, false≢true, lt-ltb}
use Rattle.sp_dag.specs.Numbered.{Numbered, graph_of, pairs_of}
use Rattle.sp_model.specs.Graph.{has}
use Rattle.sp_rows.specs.Pool.{Pool}
use Rattle.sp_view.specs.Ends.{NoneFrom}
use Rattle.sp_view.specs.Summed.{AreRight}
use Rattle.sp_view.specs.Views.{entry_at, AreEntries, AreKeptIds, IsEntry, KeepIds}
use Rattle.sp_view.proofs.KeptSums.{AreSumsTo, inside_sum}
use Rattle.sp_view.proofs.Votes.{none_past}

module _ (table : Numbered) (set : List ℕ) (n : ℕ) (none : NoneFrom table set n) where
  -- what each entry so far is, each is
  pub entries_end : (pool : Pool) (entries : List (Option (ℕ × ℕ))) → length entries ≡ n
      → ((j x y : ℕ) → j < n → slice_get (pairs_of table) j ≡ Some (x, y) → IsEntry (graph_of table) set x y pool (entry_at entries j)) → AreEntries table set pool entries
  entries_end pool entries long known i x y at = elim (cases_lt i n) [
    | inl less ↦ known i x y less at
    | inr past ↦ rw (none_past entries i (omega (arith, long, past))) (none i x y past at)
  ]

  -- so it is with ids: a pair that isn't inside has no rows in a smaller set either
  pub kept_end : (before : List ℕ) (pool : Pool) (base entries : List (Option (ℕ × ℕ))) → ((z : ℕ) → has before z ≡ true → has set z ≡ true) → AreEntries table before pool base
      → ((j x y : ℕ) → j < n → slice_get (pairs_of table) j ≡ Some (x, y) → KeepIds (graph_of table) before set x y (entry_at base j) (entry_at entries j))
      → AreKeptIds table before set base entries
  kept_end before pool base entries into are known i x y at = elim (cases_lt i n) [
    | inl less ↦ known i x y less at
    | inr past ↦ outside (entry_at base i) (entry_at entries i) (are i x y at) past
  ]
    where
      outside : (e e' : Option (ℕ × ℕ)) → IsEntry (graph_of table) before x y pool e → n ≤ i → KeepIds (graph_of table) before set x y e e'
      outside None e' is past = tt
      outside (Some e) e' is past =
          let both : (has before x ≡ true) × (has before y ≡ true) = and_parts (has before x) (has before y) is.0 in
          absurd (false≢true (sym (none i x y past at) ∙ and_from (has set x) (has set y) (into x both.0) (into y both.1)))

  -- and with sums, which tell of pairs inside alone
  pub sums_end : (before : List ℕ) (i : ℕ) (sums : List ℤ) → n ≤ i → AreSumsTo table before set i sums → AreRight table set sums
  sums_end before i sums le known j x y at = elim (cases_lt j n) [
    | inl less ↦ rw (lt-ltb j i (omega (arith, less, le))) at (known j x y at)
    | inr past ↦ inside_sum (graph_of table) set x y (slice_get sums j) (λ inside. absurd (false≢true (sym (none j x y past at) ∙ inside)))
  ]
