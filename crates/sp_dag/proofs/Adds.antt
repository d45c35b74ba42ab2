-- A table with one block more is right.
use Rattle.std.proofs.Common.{◌≡◌, ℕ, zero, suc, ◌+◌, ◌*◌, ◌<◌, ◌≤◌, ◌||◌, Bool, true, false, cond, not, Option, List, [], ◌∷◌, ◌++◌, length, map, get_or, sym, ap, subst, ◌∙◌, inl, inr, eqb, arith, length-append}
use Rattle.std.specs.Prelude.{filter, if◌then◌else◌, All}
use Rattle.std.specs.List.{range_with_len}
use Rattle.std.proofs.Math.ListN.{get_or-append, length-map}
use Rattle.std.proofs.Math.Seq.{get_or-append_seam}
use Rattle.std.proofs.lemmas.Bool.{cases_lt, or_cases, eqb-true, false≢true}
use Rattle.sp_model.specs.Graph.{has, in_past}
use Rattle.sp_bits.specs.Places.{places_where}
use Rattle.sp_bits.specs.Members.{has-places_where}
use Rattle.sp_bits.proofs.Sets.{places_same}
use Rattle.sp_dag.specs.Shapes.{shape_of}
use Rattle.sp_dag.specs.Rows.{is_reached}
use Rattle.sp_dag.specs.Right.{AreRight}
use Rattle.sp_dag.specs.Indexed.{AreIndexed, AreNewIndexed}
use Rattle.sp_dag.proofs.Indexing.{AreIndexed-push, unlisted-push}
use Rattle.sp_dag.proofs.Grown.{AreBefore, AreInOrder-push, past_old, past-new, pairs-grown, future-grown, future-new}

pub AreBefore-all : (n : ℕ) (ps : List ℕ) → All (λ p. p < n) ps → AreBefore ps n
AreBefore-all n [] all p there = absurd (false≢true there)
AreBefore-all n (q ∷ qs) all p there =
    elim (or_cases (eqb q p) (has qs p) there) [
      | inl here ↦ (let same : q ≡ p = eqb-true q p here in let first : q < n = all 0 0 (omega arith) in omega arith)
      | inr later ↦ AreBefore-all n qs (λ k d le. all (suc k) d (omega arith)) p later
    ]

-- what holds of each row before and of the new one holds of each
pub each_row : (rows : List (List ℕ)) (row : List ℕ) (n : ℕ) (right : ℕ → List ℕ) → length rows ≡ n → ((z : ℕ) → z < n → get_or rows z [] ≡ right z) → row ≡ right n
    → (z : ℕ) → z < n + 1 → get_or (rows ++ row ∷ []) z [] ≡ right z
each_row rows row n right long old new z le =
    elim (cases_lt z n) [
      | inl less ↦ (let inside : z < length rows = omega arith in get_or-append rows (row ∷ []) [] z inside ∙ old z less)
      | inr past ↦ (let same : z ≡ length rows = omega arith in let last : n ≡ z = omega arith in
          ap (λ (k : ℕ). get_or (rows ++ row ∷ []) k []) same ∙ get_or-append_seam rows row [] [] ∙ new ∙ ap right last)
    ]

pub few_pass : (test : ℕ → Bool) (a n : ℕ) → length (filter test (range_with_len a n)) ≤ n
few_pass test a zero = omega arith
few_pass test a (suc n) = at (test a) (few_pass test (a + 1) n)
  where
    at : (c : Bool) → length (filter test (range_with_len (a + 1) n)) ≤ n
        → length (cond c (a ∷ filter test (range_with_len (a + 1) n)) (filter test (range_with_len (a + 1) n))) ≤ suc n
    at true le = omega arith
    at false le = omega arith

-- the new block's pairs, with the blocks of lower numbers than k
abbrev pub pairs_to : List ℕ → ℕ → ℕ → List (ℕ × ℕ)
pairs_to past n k = map (λ x. (x, n)) (filter (λ x. not (has past x)) (range_with_len 0 k))

abbrev pub new_pairs : List ℕ → ℕ → List (ℕ × ℕ)
new_pairs past n = pairs_to past n n

few_more : (past : List ℕ) (n : ℕ) (pairs : List (ℕ × ℕ)) → 2 * length pairs + n ≤ n * n
    → 2 * length (pairs ++ new_pairs past n) + (n + 1) ≤ (n + 1) * (n + 1)
few_more past n pairs few =
    let passed = few_pass (λ x. not (has past x)) 0 n in
    let mapped : length (new_pairs past n) ≡ length (filter (λ x. not (has past x)) (range_with_len 0 n)) =
    length-map (filter (λ x. not (has past x)) (range_with_len 0 n)) (λ (x : ℕ). (x, n)) in
    let all : length (pairs ++ new_pairs past n) ≡ length pairs + length (new_pairs past n) = length-append pairs (new_pairs past n) in
    let square : (n + 1) * (n + 1) ≡ n * n + 2 * n + 1 = omega arith in
    omega (arith, passed, mapped, all, square, few)

-- what a call that adds a block leaves beside the table
pub record Adds (table pasts futures : List (List ℕ)) (pairs : List (ℕ × ℕ)) (ps past : List ℕ) (later : List (List ℕ)) (more : List (ℕ × ℕ)) (row : List (Option ℕ)) : Type 0 where
  pub room : length table < 512
  pub before : AreBefore ps (length table)
  pub is_past : past ≡ places_where (is_reached pasts ps)
  pub is_more : more ≡ pairs ++ new_pairs past (length table)
  pub is_row : AreNewIndexed pairs more past (length table) (length table) row
  pub long : length later ≡ length table
  pub rows : (a : ℕ) → a < length table → get_or later a []
      ≡ (if has past a then places_where (λ w. has (get_or futures a []) w || eqb w (length table)) else get_or futures a [])

-- the row of the new block's past is that of the graph
past_is : (table pasts futures : List (List ℕ)) (pairs : List (ℕ × ℕ)) (indices : List (List (Option ℕ))) (ps past : List ℕ) (later : List (List ℕ)) (more : List (ℕ × ℕ)) (row : List (Option ℕ))
    → AreRight table pasts futures pairs indices → Adds table pasts futures pairs ps past later more row
    → past ≡ places_where (λ a. in_past (shape_of (table ++ ps ∷ [])) a (length table))
past_is table pasts futures pairs indices ps past later more row h adds =
    adds.is_past ∙ places_same (is_reached pasts ps) (λ a. in_past (shape_of (table ++ ps ∷ [])) a (length table)) (λ a le. sym (past-new table pasts ps a h.order adds.before h.small le h.pasts_right))

-- so it has the blocks that the graph says
pub past_told : (table pasts futures : List (List ℕ)) (pairs : List (ℕ × ℕ)) (indices : List (List (Option ℕ))) (ps past : List ℕ) (later : List (List ℕ)) (more : List (ℕ × ℕ)) (row : List (Option ℕ))
    → AreRight table pasts futures pairs indices → Adds table pasts futures pairs ps past later more row
    → (x : ℕ) → x < length table → has past x ≡ in_past (shape_of (table ++ ps ∷ [])) x (length table)
past_told table pasts futures pairs indices ps past later more row h adds x le =
    ap (λ (l : List ℕ). has l x) (past_is table pasts futures pairs indices ps past later more row h adds)
    ∙ has-places_where (λ a. in_past (shape_of (table ++ ps ∷ [])) a (length table)) x (omega (arith, h.small, le))

pub AreRight-push : (table pasts futures : List (List ℕ)) (pairs : List (ℕ × ℕ)) (indices : List (List (Option ℕ))) (ps past : List ℕ) (later : List (List ℕ)) (more : List (ℕ × ℕ)) (row : List (Option ℕ))
    → AreRight table pasts futures pairs indices → Adds table pasts futures pairs ps past later more row
    → AreRight (table ++ ps ∷ []) (pasts ++ past ∷ []) (later ++ [] ∷ []) more (indices ++ row ∷ [])
AreRight-push table pasts futures pairs indices ps past later more row h adds =
    let n = length table in
    let g = shape_of (table ++ ps ∷ []) in
    let grown : length (table ++ ps ∷ []) ≡ n + 1 = length-append table (ps ∷ []) in
    let is_row : past ≡ places_where (λ a. in_past g a n) =
    past_is table pasts futures pairs indices ps past later more row h adds in
    let has_past : (x : ℕ) → x < n → has past x ≡ in_past g x n =
    past_told table pasts futures pairs indices ps past later more row h adds in
    let new : AreNewIndexed pairs (pairs ++ new_pairs past n) past n n row =
    subst (λ (l : List (ℕ × ℕ)). AreNewIndexed pairs l past n n row) adds.is_more adds.is_row in
    let few = few_more past n pairs h.few in
    let more_long : length more ≡ length (pairs ++ new_pairs past n) = ap length adds.is_more in
    record {
      small = omega (arith, grown, adds.room);
      few = rw (grown, more_long) few;
      order = AreInOrder-push table ps h.order adds.before;
      pasts_long = length-append pasts (past ∷ []) ∙ ap (λ (k : ℕ). k + 1) h.pasts_long ∙ sym grown;
      futures_long = length-append later ([] ∷ []) ∙ ap (λ (k : ℕ). k + 1) adds.long ∙ sym grown;
      indices_long = length-append indices (row ∷ []) ∙ ap (λ (k : ℕ). k + 1) h.indices_long ∙ sym grown;
      pasts_right = λ z le.
          each_row pasts past n (λ z. places_where (λ a. in_past g a z)) h.pasts_long
          (λ z le. h.pasts_right z le ∙ places_same (λ a. in_past (shape_of table) a z) (λ a. in_past g a z) (λ a _. sym (past_old table ps a z h.order le))) is_row z (omega (arith, grown, le));
      futures_right = λ z le.
          each_row later [] n (λ z. places_where (λ w. in_past g z w)) adds.long
          (λ a le. adds.rows a le ∙ future-grown table ps past (get_or futures a []) a h.order adds.room (has_past a le) (h.futures_right a le)) (future-new table ps h.order adds.before) z (omega (arith, grown, le));
      pairs_right =
          adds.is_more ∙ ap (λ (l : List (ℕ × ℕ)). l ++ new_pairs past n) h.pairs_right
          ∙ sym (pairs-grown table ps past h.order has_past);
      indexed =
          subst (λ (l : List (ℕ × ℕ)). AreIndexed l (indices ++ row ∷ [])) (sym adds.is_more)
          (AreIndexed-push pairs (new_pairs past n) indices past n row h.indexed (sym h.indices_long) new);
      unlisted = λ x y lower le at.
          unlisted-push indices pairs (pairs ++ new_pairs past n) past n row (λ x y. in_past g x y ≡ true) (sym h.indices_long) new
          (λ x y lower le at. past_old table ps x y h.order le ∙ h.unlisted x y lower le at)
          (λ x le there. sym (has_past x le) ∙ there) x y lower (omega (arith, grown, le)) at;
    }

-- what a call leaves of rows, by the values as they were read
pub rows_read : (past : List ℕ) (later rows rows0 : List (List ℕ)) (n k : ℕ) → n ≡ k → rows0 ≡ rows
    → ((a : ℕ) → a < n → get_or later a [] ≡ (if has past a then places_where (λ w. has (get_or rows0 a []) w || eqb w n) else get_or rows0 a []))
    → (a : ℕ) → a < k → get_or later a [] ≡ (if has past a then places_where (λ w. has (get_or rows a []) w || eqb w k) else get_or rows a [])
rows_read past later rows rows0 n k en er each a le =
    each a (omega (arith, en, le))
    ∙ ap (λ (l : List (List ℕ)). if has past a then places_where (λ w. has (get_or l a []) w || eqb w n) else get_or l a []) er
    ∙ ap (λ (m : ℕ). if has past a then places_where (λ w. has (get_or rows a []) w || eqb w m) else get_or rows a []) en

-- the same of all that the calls leave
pub Adds-read : (table pasts futures : List (List ℕ)) (pairs : List (ℕ × ℕ)) (ps past : List ℕ) (later : List (List ℕ)) (more : List (ℕ × ℕ)) (row : List (Option ℕ))
    (n : ℕ) (pasts0 futures0 : List (List ℕ)) (pairs0 : List (ℕ × ℕ)) (ps0 : List ℕ) → n ≡ length table → pasts0 ≡ pasts → futures0 ≡ futures → pairs0 ≡ pairs → ps0 ≡ ps
    → length table < 512 → AreBefore ps (length table) → past ≡ places_where (is_reached pasts0 ps0)
    → more ≡ pairs0 ++ new_pairs past n → AreNewIndexed pairs0 more past n n row → length later ≡ n
    → ((a : ℕ) → a < n → get_or later a [] ≡ (if has past a then places_where (λ w. has (get_or futures0 a []) w || eqb w n) else get_or futures0 a []))
    → Adds table pasts futures pairs ps past later more row
Adds-read table pasts futures pairs ps past later more row n pasts0 futures0 pairs0 ps0 en ep ef eq es room before is_past is_more is_row long rows = record {
  room = room;
  before = before;
  is_past =
      is_past ∙ ap (λ (l : List (List ℕ)). places_where (is_reached l ps0)) ep ∙ ap (λ (l : List ℕ). places_where (is_reached pasts l)) es;
  is_more = is_more ∙ ap (λ (l : List (ℕ × ℕ)). l ++ new_pairs past n) eq ∙ ap (λ (k : ℕ). pairs ++ new_pairs past k) en;
  is_row =
      subst (λ (k : ℕ). AreNewIndexed pairs more past k k row) en
      (subst (λ (l : List (ℕ × ℕ)). AreNewIndexed l more past n n row) eq is_row);
  long = long ∙ en;
  rows = rows_read past later futures futures0 n (length table) en ef rows;
}

pub AreRight-same : (t t' p p' f f' : List (List ℕ)) (q q' : List (ℕ × ℕ)) (i i' : List (List (Option ℕ))) → t' ≡ t → p' ≡ p → f' ≡ f → q' ≡ q → i' ≡ i
    → AreRight t p f q i → AreRight t' p' f' q' i'
AreRight-same t t' p p' f f' q q' i i' a b c d e h =
    subst (λ (x : List (List ℕ)). AreRight x p' f' q' i') (sym a)
    (subst (λ (x : List (List ℕ)). AreRight t x f' q' i') (sym b)
    (subst (λ (x : List (List ℕ)). AreRight t p x q' i') (sym c)
    (subst (λ (x : List (ℕ × ℕ)). AreRight t p f x i') (sym d) (subst (λ (x : List (List (Option ℕ))). AreRight t p f q x) (sym e) h))))
