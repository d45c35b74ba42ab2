-- How often the entries of a view hold a row, and what becomes of the others when one is changed.
use Rattle.std.proofs.Common.{◌≡◌, ◌≢◌, ◌⊎◌, ℕ, zero, suc, ◌+◌, ◌<◌, ◌≤◌, cond, List, [], ◌∷◌, ◌++◌, length, get_or, set, take, Option, Some, None, refl, sym, ap, subst, ◌∙◌, ltb, inl, inr, arith, get_or-set_same, get_or-set_other}
use Rattle.std.specs.Prelude.{slice_get, IfSome, IsSome}
use Rattle.std.proofs.lemmas.Option.{slice_get-get_or}
use Rattle.std.proofs.lemmas.List.{get_or_default}
use Rattle.std.proofs.lemmas.Bool.{cases_eq, cases_lt, lt-ltb, le-ltb, false≢true}
use Rattle.sp_dag.specs.Numbered.{Numbered, graph_of, pairs_of}
use Rattle.sp_model.specs.Graph.{Graph}
use Rattle.sp_rows.specs.Pool.{Pool}
use Rattle.sp_view.specs.Stored.{count_of, row_of}
use Rattle.sp_view.specs.Views.{entry_at, holds, held, IsEntry, IsOnce, KeepIds, AreKeptIds}
use Rattle.sp_view.proofs.TwoRows.{one_if}

-- an entry that was read at a place stands there, whatever the read had answered behind the last one
pub read_at : (entries : List (Option (ℕ × ℕ))) (i : ℕ) (read : Option (ℕ × ℕ)) → i < length entries → read ≡ get_or entries i read → read ≡ entry_at entries i
read_at entries i read lt is = is ∙ get_or_default entries i read None lt

-- an entry holds no more than all do
pub holds_held : (entries : List (Option (ℕ × ℕ))) (i row : ℕ) → holds (entry_at entries i) row ≤ held entries row
holds_held [] zero row = omega arith
holds_held [] (suc i) row = omega arith
holds_held (e ∷ es) zero row = omega arith
holds_held (e ∷ es) (suc i) row = (let rest : holds (entry_at es i) row ≤ held es row = holds_held es i row in omega arith)

pub holds_two : (entries : List (Option (ℕ × ℕ))) (i j row : ℕ) → i ≢ j → holds (entry_at entries i) row + holds (entry_at entries j) row ≤ held entries row
holds_two [] zero zero row other = omega arith
holds_two [] zero (suc j) row other = omega arith
holds_two [] (suc i) zero row other = omega arith
holds_two [] (suc i) (suc j) row other = omega arith
holds_two (e ∷ es) zero zero row other = absurd (other refl)
holds_two (e ∷ es) zero (suc j) row other = (let rest : holds (entry_at es j) row ≤ held es row = holds_held es j row in omega arith)
holds_two (e ∷ es) (suc i) zero row other = (let rest : holds (entry_at es i) row ≤ held es row = holds_held es i row in omega arith)
holds_two (e ∷ es) (suc i) (suc j) row other =
    (let rest : holds (entry_at es i) row + holds (entry_at es j) row ≤ held es row = holds_two es i j row (λ same. other (ap suc same)) in omega arith)

-- one entry is changed
pub held_set : (entries : List (Option (ℕ × ℕ))) (i : ℕ) (entry : Option (ℕ × ℕ)) (row : ℕ) → i < length entries
    → held (set entries i entry) row + holds (entry_at entries i) row ≡ held entries row + holds entry row
held_set [] i entry row lt = absurd (omega arith)
held_set (e ∷ es) zero entry row lt = omega arith
held_set (e ∷ es) (suc i) entry row lt =
    (let rest : held (set es i entry) row + holds (entry_at es i) row ≡ held es row + holds entry row = held_set es i entry row (omega arith) in omega arith)

-- an entry whose rows stay is the same in the other pool
pub entry_moves : (g : Graph) (set : List ℕ) (x y : ℕ) (pool pool' : Pool) (entry : Option (ℕ × ℕ)) → ((row : ℕ) → 0 < holds entry row → row_of pool' row ≡ row_of pool row)
    → IsEntry g set x y pool entry → IsEntry g set x y pool' entry
entry_moves g set x y pool pool' None same is = is
entry_moves g set x y pool pool' (Some e) same is = (
  is.0,
  record {
    plus_is = same e.0 (omega (arith, one_if e.0 e.0 refl)) ∙ is.1.plus_is;
    minus_is = same e.1 (omega (arith, one_if e.1 e.1 refl)) ∙ is.1.minus_is;
  },
)

pub keeps_itself : (g : Graph) (set more : List ℕ) (x y : ℕ) (entry : Option (ℕ × ℕ)) → KeepIds g set more x y entry entry
keeps_itself g set more x y None = tt
keeps_itself g set more x y (Some e) = (λ _. refl, λ _. refl)

-- the entries up to i are those of the one set, and the others those of the other one
abbrev pub AreEntriesTo : Numbered → List ℕ → List ℕ → ℕ → Pool → List (Option (ℕ × ℕ)) → Type 0
AreEntriesTo table before more i pool entries =
    (j x y : ℕ) → slice_get (pairs_of table) j ≡ Some (x, y) → IsEntry (graph_of table) (cond (ltb j i) more before) x y pool (entry_at entries j)

-- one entry more
pub entries_step : (table : Numbered) (before more : List ℕ) (i : ℕ) (pool pool' : Pool) (entries : List (Option (ℕ × ℕ))) (entry : Option (ℕ × ℕ)) → i < length entries
    → ((row : ℕ) → held entries row ≤ count_of pool row)
    → ((row : ℕ) → holds (entry_at entries i) row < count_of pool row → row_of pool' row ≡ row_of pool row)
    → ((x y : ℕ) → slice_get (pairs_of table) i ≡ Some (x, y) → IsEntry (graph_of table) before x y pool (entry_at entries i) → IsEntry (graph_of table) more x y pool' entry)
    → AreEntriesTo table before more i pool entries → AreEntriesTo table before more (i + 1) pool' (set entries i entry)
entries_step table before more i pool pool' entries entry lt live others turned known j x y at =
    elim (cases_eq j i) [
      | inl same ↦ here same
      | inr other ↦ elsewhere other (cases_lt j i)
    ]
  where
    here : j ≡ i → IsEntry (graph_of table) (cond (ltb j (i + 1)) more before) x y pool' (entry_at (set entries i entry) j)
    here same =
        let at_i : slice_get (pairs_of table) i ≡ Some (x, y) = ap (slice_get (pairs_of table)) (sym same) ∙ at in
        let old : IsEntry (graph_of table) (cond (ltb i i) more before) x y pool (entry_at entries i) = known i x y at_i in
        rw (lt-ltb j (i + 1) (omega arith), same, get_or-set_same entries i entry None lt) (turned x y at_i (rw (le-ltb i i (omega arith)) at old))

    elsewhere : j ≢ i → (j < i) ⊎ (i ≤ j) → IsEntry (graph_of table) (cond (ltb j (i + 1)) more before) x y pool' (entry_at (set entries i entry) j)
    elsewhere other side =
        let tests : ltb j (i + 1) ≡ ltb j i = elim side [
          | inl less ↦ lt-ltb j (i + 1) (omega arith) ∙ sym (lt-ltb j i less)
          | inr more ↦ le-ltb j (i + 1) (omega arith) ∙ sym (le-ltb j i more)
        ] in
        rw (tests, get_or-set_other entries i j entry None other)
        (entry_moves (graph_of table) (cond (ltb j i) more before) x y pool pool' (entry_at entries j)
        (λ row some. others row (omega (arith, holds_two entries i j row (λ e. other (sym e)), live row))) (known j x y at))

pub kept_step : (table : Numbered) (before more : List ℕ) (i : ℕ) (first entries : List (Option (ℕ × ℕ))) (entry : Option (ℕ × ℕ)) → i < length entries
    → ((x y : ℕ) → slice_get (pairs_of table) i ≡ Some (x, y) → KeepIds (graph_of table) before more x y (entry_at first i) entry)
    → AreKeptIds table before more first entries → AreKeptIds table before more first (set entries i entry)
kept_step table before more i first entries entry lt turned known j x y at =
    elim (cases_eq j i) [
      | inl same ↦ (let at_i : slice_get (pairs_of table) i ≡ Some (x, y) = ap (slice_get (pairs_of table)) (sym same) ∙ at in
          rw (same, get_or-set_same entries i entry None lt) (turned x y at_i))
      | inr other ↦ rw (get_or-set_other entries i j entry None other) (known j x y at)
    ]

-- no row is held twice, where one entry is changed
pub once_step : (entries : List (Option (ℕ × ℕ))) (i : ℕ) (entry : Option (ℕ × ℕ)) (count row : ℕ) → i < length entries
    → held entries row ≤ count → held entries row ≤ 1 → IsOnce count (holds (entry_at entries i) row) (holds entry row) → held (set entries i entry) row ≤ 1
once_step entries i entry zero row lt enough few once =
    omega (arith, held_set entries i entry row lt, once.1 refl, enough, few)
once_step entries i entry (suc n) row lt enough few once =
    (let le = once.0 (omega arith) in omega (arith, held_set entries i entry row lt, le, few))

-- what follows from a fact about an entry that is there
pub if_there : (entry : Option (ℕ × ℕ)) (P Q : Type 0) → IfSome entry (λ _. P) → (P → Q) → IfSome entry (λ _. Q)
if_there None P Q h f = h
if_there (Some e) P Q h f = f h

-- some pair stands at each place of the list
pub some_pair : (pairs : List (ℕ × ℕ)) (i : ℕ) → i < length pairs → slice_get pairs i ≡ Some ((get_or pairs i (0, 0)).0, (get_or pairs i (0, 0)).1)
some_pair pairs i lt = slice_get-get_or pairs i (0, 0) lt

-- one entry without rows more
pub entry_pushed : (entries : List (Option (ℕ × ℕ))) (i : ℕ) → entry_at (entries ++ None ∷ []) i ≡ entry_at entries i
entry_pushed [] zero = refl
entry_pushed [] (suc i) = refl
entry_pushed (e ∷ es) zero = refl
entry_pushed (e ∷ es) (suc i) = entry_pushed es i

pub held_pushed : (entries : List (Option (ℕ × ℕ))) (row : ℕ) → held (entries ++ None ∷ []) row ≡ held entries row
held_pushed [] row = omega arith
held_pushed (e ∷ es) row = (let rest : held (es ++ None ∷ []) row ≡ held es row = held_pushed es row in omega arith)

-- an entry with rows is one of the list
pub some_inside : (entries : List (Option (ℕ × ℕ))) (i : ℕ) → IsSome (entry_at entries i) → i < length entries
some_inside [] zero h = absurd (false≢true h)
some_inside [] (suc i) h = absurd (false≢true h)
some_inside (e ∷ es) zero h = omega arith
some_inside (e ∷ es) (suc i) h = (let rest : i < length es = some_inside es i h in omega arith)

-- the rows of an entry are live
pub first_live : (entries : List (Option (ℕ × ℕ))) (i : ℕ) (e : ℕ × ℕ) (pool : Pool) → entry_at entries i ≡ Some e → ((row : ℕ) → held entries row ≤ count_of pool row) → 0 < count_of pool e.0
first_live entries i e pool is live =
    let some : holds (Some e) e.0 ≤ held entries e.0 = subst (λ (o : Option (ℕ × ℕ)). holds o e.0 ≤ held entries e.0) is (holds_held entries i e.0) in
    omega (arith, one_if e.0 e.0 refl, live e.0)

pub second_live : (entries : List (Option (ℕ × ℕ))) (i : ℕ) (e : ℕ × ℕ) (pool : Pool) → entry_at entries i ≡ Some e → ((row : ℕ) → held entries row ≤ count_of pool row) → 0 < count_of pool e.1
second_live entries i e pool is live =
    let some : holds (Some e) e.1 ≤ held entries e.1 = subst (λ (o : Option (ℕ × ℕ)). holds o e.1 ≤ held entries e.1) is (holds_held entries i e.1) in
    omega (arith, one_if e.1 e.1 refl, live e.1)

-- one entry more of the first ones
pub held_take : (entries : List (Option (ℕ × ℕ))) (i row : ℕ) → i < length entries → held (take (i + 1) entries) row ≡ held (take i entries) row + holds (entry_at entries i) row
held_take [] i row lt = absurd (omega arith)
held_take (e ∷ es) zero row lt = omega arith
held_take (e ∷ es) (suc i) row lt =
    (let more : suc i + 1 ≡ suc (i + 1) = omega arith in let rest : held (take (i + 1) es) row ≡ held (take i es) row + holds (entry_at es i) row = held_take es i row (omega arith) in rw more (omega arith))

pub held_take_le : (entries : List (Option (ℕ × ℕ))) (i row : ℕ) → held (take i entries) row ≤ held entries row
held_take_le entries zero row = omega arith
held_take_le [] (suc i) row = omega arith
held_take_le (e ∷ es) (suc i) row = (let rest : held (take i es) row ≤ held es row = held_take_le es i row in omega arith)

pub take_at : (entries : List (Option (ℕ × ℕ))) (i : ℕ) → i < length entries → take (i + 1) entries ≡ take i entries ++ entry_at entries i ∷ []
take_at [] i lt = absurd (omega arith)
take_at (e ∷ es) zero lt = refl
take_at (e ∷ es) (suc i) lt = (let more : suc i + 1 ≡ suc (i + 1) = omega arith in rw more (ap (λ (l : List (Option (ℕ × ℕ))). e ∷ l) (take_at es i (omega arith))))

pub take_end : (entries : List (Option (ℕ × ℕ))) (i : ℕ) → length entries ≤ i → take i entries ≡ entries
take_end [] zero h = refl
take_end [] (suc i) h = refl
take_end (e ∷ es) zero h = absurd (omega arith)
take_end (e ∷ es) (suc i) h = ap (λ (l : List (Option (ℕ × ℕ))). e ∷ l) (take_end es i (omega arith))

-- one entry more of the first ones, also behind the last one
pub held_take_next : (entries : List (Option (ℕ × ℕ))) (i row : ℕ) → held (take (i + 1) entries) row ≡ held (take i entries) row + holds (entry_at entries i) row
held_take_next [] zero row = refl
held_take_next [] (suc i) row = (let more : suc i + 1 ≡ suc (i + 1) = omega arith in rw more refl)
held_take_next (e ∷ es) zero row = omega arith
held_take_next (e ∷ es) (suc i) row =
    (let more : suc i + 1 ≡ suc (i + 1) = omega arith in let rest : held (take (i + 1) es) row ≡ held (take i es) row + holds (entry_at es i) row = held_take_next es i row in rw more (omega arith))

-- an entry behind the others
pub entry_push : (entries : List (Option (ℕ × ℕ))) (entry : Option (ℕ × ℕ)) (i : ℕ) → i < length entries → entry_at (entries ++ entry ∷ []) i ≡ entry_at entries i
entry_push [] entry i lt = absurd (omega arith)
entry_push (e ∷ es) entry zero lt = refl
entry_push (e ∷ es) entry (suc i) lt = entry_push es entry i (omega arith)

pub entry_last : (entries : List (Option (ℕ × ℕ))) (entry : Option (ℕ × ℕ)) (i : ℕ) → i ≡ length entries → entry_at (entries ++ entry ∷ []) i ≡ entry
entry_last [] entry zero e = refl
entry_last [] entry (suc i) e = absurd (omega arith)
entry_last (x ∷ xs) entry zero e = absurd (omega arith)
entry_last (x ∷ xs) entry (suc i) e = entry_last xs entry i (omega arith)

-- what each of the entries so far has, and the next one, each of all of them has
pub entry_next : (Has : ℕ → Option (ℕ × ℕ) → Type 0) (entries items : List (Option (ℕ × ℕ))) (entry : Option (ℕ × ℕ)) (i : ℕ) → length entries ≡ i → items ≡ entries ++ entry ∷ []
    → ((j : ℕ) → j < i → Has j (entry_at entries j)) → Has i entry → (j : ℕ) → j < i + 1 → Has j (entry_at items j)
entry_next Has entries items entry i long is before now j le =
    subst (λ (l : List (Option (ℕ × ℕ))). Has j (entry_at l j)) (sym is)
    (elim (cases_lt j i) [
      | inl less ↦ rw (entry_push entries entry j (omega (arith, less, long))) (before j less)
      | inr more ↦ (let same : i ≡ j = omega (arith, le, more) in
          rw (entry_last entries entry j (omega (arith, same, long))) (subst (λ (n : ℕ). Has n entry) same now))
    ])

pub held_push : (entries : List (Option (ℕ × ℕ))) (entry : Option (ℕ × ℕ)) (row : ℕ) → held (entries ++ entry ∷ []) row ≡ held entries row + holds entry row
held_push [] entry row = omega arith
held_push (e ∷ es) entry row = (let rest : held (es ++ entry ∷ []) row ≡ held es row + holds entry row = held_push es entry row in omega arith)

-- what is held of a row so far, and one entry more
pub once_more : (count before here after more : ℕ) → IsOnce count before after → IsOnce (count + after) here more → here ≤ count → IsOnce count (before + here) (after + more)
once_more zero before here after more so_far next few = (
  λ some. absurd (omega arith),
  λ _. by after (so_far.1 refl) next,
)
  where
    by : (after : ℕ) → after ≤ 1 → IsOnce (0 + after) here more → after + more ≤ 1
    by zero le next = (let m = next.1 refl in omega (arith, m))
    by (suc n) le next = (let m = next.0 (omega arith) in omega (arith, m, le, few))
once_more (suc n) before here after more so_far next few = (
  λ some. (let a = so_far.0 (omega arith) in let m = next.0 (omega arith) in omega (arith, a, m)),
  λ none. absurd (omega (arith, none)),
)

pub once_end : (count before after : ℕ) → IsOnce count before after → before ≤ 1 → after ≤ 1
once_end zero before after once few = once.1 refl
once_end (suc n) before after once few = (let le = once.0 (omega arith) in omega (arith, le, few))
