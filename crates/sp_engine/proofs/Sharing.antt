-- Views that share one pool: what each of them may ask of it, and how many rows are live.
use Rattle.std.proofs.Common.{◌≡◌, ℕ, zero, suc, ◌+◌, ◌*◌, ◌<◌, ◌≤◌, Bool, true, cond, List, [], ◌∷◌, ◌++◌, length, Option, Some, None, refl, ap, subst, eqb, inl, inr, arith}
use Rattle.std.proofs.lemmas.Bool.{cases_eq, eq-eqb, ne_eqb}
use Rattle.std.specs.Prelude.{slice_get}
use Rattle.sp_dag.specs.Numbered.{IsNumbered, with_next, Numbered, pairs_of, AreInOrder}
use Rattle.sp_model.specs.Graph.{has}
use Rattle.sp_rows.specs.Pool.{AreRows, Counted, Pool}
use Rattle.sp_rows.specs.Pool as counted
use Rattle.sp_view.specs.Stored.{count_of, row_of, live}
use Rattle.sp_view.specs.Views.{Viewed, held, holds, IsView}
use Rattle.sp_view.proofs.Staying.{view_stays, view_moves}
use Rattle.sp_engine.specs.Votes.{held_by, AreViews}

-- each is a view of blocks below the number
pub view_of : (table : Numbered) (pool : Pool) (n : ℕ) (views : List Viewed) (i : ℕ) (view : Viewed) → AreViews table pool n views → slice_get views i ≡ Some view
    → IsView table view pool × ((z : ℕ) → has view.members z ≡ true → z < n)
view_of table pool n [] i view are at = cc
view_of table pool n (v ∷ vs) zero view are at = (let e : v ≡ view = cc in subst (λ (w : Viewed). IsView table w pool × ((z : ℕ) → has w.members z ≡ true → z < n)) e (are.0, are.1))
view_of table pool n (v ∷ vs) (suc i) view are at = view_of table pool n vs i view are.2 at

-- and holds no more than all do
pub held_one : (views : List Viewed) (i : ℕ) (view : Viewed) (r : ℕ) → slice_get views i ≡ Some view → held view.entries r ≤ held_by views r
held_one [] i view r at = cc
held_one (v ∷ vs) zero view r at = (let e : v ≡ view = cc in let same : held v.entries r ≡ held view.entries r = ap (λ (w : Viewed). held w.entries r) e in omega (arith, same))
held_one (v ∷ vs) (suc i) view r at = (let rest : held view.entries r ≤ held_by vs r = held_one vs i view r at in omega (arith, rest))

pub held_more : (xs ys : List Viewed) (r : ℕ) → held_by (xs ++ ys) r ≡ held_by xs r + held_by ys r
held_more [] ys r = omega arith
held_more (v ∷ xs) ys r = (let rest = held_more xs ys r in omega (arith, rest))

module _ (table : Numbered) (pool : Pool) (n : ℕ) where
  pub views_more : (xs ys : List Viewed) → AreViews table pool n xs → AreViews table pool n ys → AreViews table pool n (xs ++ ys)
  views_more [] ys one two = two
  views_more (v ∷ xs) ys one two = (one.0, one.1, views_more xs ys one.2 two)

  pub views_parts : (xs ys : List Viewed) → AreViews table pool n (xs ++ ys) → AreViews table pool n xs × AreViews table pool n ys
  views_parts [] ys are = (tt, are)
  views_parts (v ∷ xs) ys are = (let rest = views_parts xs ys are.2 in ((are.0, are.1, rest.0), rest.1))

  -- of blocks below a higher number
  pub views_up : (m : ℕ) (views : List Viewed) → n ≤ m → AreViews table pool n views → AreViews table pool m views
  views_up m [] le are = tt
  views_up m (v ∷ vs) le are = (are.0, (λ z h. (let lt : z < n = are.1 z h in omega (arith, lt, le))), views_up m vs le are.2)

  -- in a pool that keeps their rows
  pub views_move : (pool' : Pool) (views : List Viewed) → ((r : ℕ) → held_by views r ≤ count_of pool' r) → ((r : ℕ) → 0 < held_by views r → row_of pool' r ≡ row_of pool r)
      → AreViews table pool n views → AreViews table pool' n views
  views_move pool' [] counts rows are = tt
  views_move pool' (v ∷ vs) counts rows are = (
    view_moves table v pool pool' are.0 (λ r. omega (arith, counts r)) (λ r some. rows r (omega (arith, some))),
    are.1,
    views_move pool' vs (λ r. omega (arith, counts r)) (λ r some. rows r (omega (arith, some))) are.2,
  )

  -- beside a block more
  pub views_stay : (id salt : ℕ) (ps : List ℕ) (views : List Viewed) → IsNumbered table → AreInOrder (table.parents ++ ps ∷ []) → AreViews table pool n views
      → AreViews (with_next table id salt ps) pool n views
  views_stay id salt ps [] numbered order are = tt
  views_stay id salt ps (v ∷ vs) numbered order are = (view_stays table id salt ps v pool numbered order are.0, are.1, views_stay id salt ps vs numbered order are.2)

  -- each view holds a row once at most
  pub few_held_by : (views : List Viewed) (r : ℕ) → AreViews table pool n views → held_by views r ≤ length views
  few_held_by [] r are = omega arith
  few_held_by (v ∷ vs) r are = (let rest = few_held_by vs r are.2 in omega (arith, rest, are.0.once r))

-- ---- how many rows are live

-- the sum over the ids of some rows
abbrev total : (ℕ → ℕ) → List Counted → ℕ
total f [] = 0
total f (row ∷ rows) = f row.id + total f rows

total_zero : (f : ℕ → ℕ) (rows : List Counted) → ((r : ℕ) → f r ≡ 0) → total f rows ≡ 0
total_zero f [] none = refl
total_zero f (row ∷ rows) none = (let rest = total_zero f rows none in omega (arith, rest, none row.id))

total_le : (f g : ℕ → ℕ) (rows : List Counted) → ((r : ℕ) → f r ≤ g r) → total f rows ≤ total g rows
total_le f g [] le = omega arith
total_le f g (row ∷ rows) le = (let rest = total_le f g rows le in omega (arith, rest, le row.id))

total_add : (f g : ℕ → ℕ) (rows : List Counted) → total (λ r. f r + g r) rows ≡ total f rows + total g rows
total_add f g [] = omega arith
total_add f g (row ∷ rows) = (let rest = total_add f g rows in omega (arith, rest))

-- it asks only ids from where the rows begin
total_same : (f g : ℕ → ℕ) (from : ℕ) (rows : List Counted) → AreRows from rows → ((r : ℕ) → from ≤ r → f r ≡ g r) → total f rows ≡ total g rows
total_same f g from [] are same = refl
total_same f g from (row ∷ rows) are same =
    let rest = total_same f g (row.id + 1) rows are.3 (λ r le. same r (omega (arith, le, are.0))) in omega (arith, rest, same row.id are.0)

-- each row is counted at least once
total_counts : (from : ℕ) (rows : List Counted) → AreRows from rows → length rows ≤ total (counted.count_of rows) rows
total_counts from [] are = omega arith
total_counts from (row ∷ rows) are =
    let rest : length rows ≤ total (counted.count_of rows) rows = total_counts (row.id + 1) rows are.3 in
    let own : counted.count_of (row ∷ rows) row.id ≡ row.count = ap (λ (b : Bool). cond b row.count (counted.count_of rows row.id)) (eq-eqb row.id row.id refl) in
    let others : total (counted.count_of (row ∷ rows)) rows ≡ total (counted.count_of rows) rows =
    total_same (counted.count_of (row ∷ rows)) (counted.count_of rows) (row.id + 1) rows are.3
    (λ r le. ap (λ (b : Bool). cond b row.count (counted.count_of rows r)) (ne_eqb row.id r (λ e. absurd (omega (arith, e, le))))) in
    omega (arith, rest, own, others, are.1)

total_above : (k from : ℕ) (rows : List Counted) → AreRows from rows → k < from → total (λ r. cond (eqb r k) 1 0) rows ≡ 0
total_above k from [] are lt = refl
total_above k from (row ∷ rows) are lt =
    let rest : total (λ r. cond {A = ℕ} (eqb r k) 1 0) rows ≡ 0 = total_above k (row.id + 1) rows are.3 (omega (arith, lt, are.0)) in
    let first : cond {A = ℕ} (eqb row.id k) 1 0 ≡ 0 = ap (λ (b : Bool). cond {A = ℕ} b 1 0) (ne_eqb row.id k (λ e. absurd (omega (arith, e, lt, are.0)))) in
    omega (arith, rest, first)

-- and no id stands twice
total_one : (k from : ℕ) (rows : List Counted) → AreRows from rows → total (λ r. cond (eqb r k) 1 0) rows ≤ 1
total_one k from [] are = omega arith
total_one k from (row ∷ rows) are = elim (cases_eq row.id k) [
  | inl same ↦
      let rest : total (λ r. cond {A = ℕ} (eqb r k) 1 0) rows ≡ 0 = total_above k (row.id + 1) rows are.3 (omega (arith, same)) in
      let first : cond {A = ℕ} (eqb row.id k) 1 0 ≡ 1 = ap (λ (b : Bool). cond {A = ℕ} b 1 0) (eq-eqb row.id k same) in
      omega (arith, rest, first)
  | inr apart ↦
      let rest : total (λ r. cond {A = ℕ} (eqb r k) 1 0) rows ≤ 1 = total_one k (row.id + 1) rows are.3 in
      let first : cond {A = ℕ} (eqb row.id k) 1 0 ≡ 0 = ap (λ (b : Bool). cond {A = ℕ} b 1 0) (ne_eqb row.id k apart) in
      omega (arith, rest, first)
]

total_holds : (entry : Option (ℕ × ℕ)) (rows : List Counted) → AreRows 0 rows → total (holds entry) rows ≤ 2
total_holds None rows are = (let none : total (λ r. 0) rows ≡ 0 = total_zero (λ r. 0) rows (λ r. refl) in omega (arith, none))
total_holds (Some e) rows are =
    omega (arith, total_add (λ r. cond (eqb r e.0) 1 0) (λ r. cond (eqb r e.1) 1 0) rows, total_one e.0 0 rows are, total_one e.1 0 rows are)

total_held : (entries : List (Option (ℕ × ℕ))) (rows : List Counted) → AreRows 0 rows → total (held entries) rows ≤ 2 * length entries
total_held [] rows are = (let none : total (λ r. 0) rows ≡ 0 = total_zero (λ r. 0) rows (λ r. refl) in omega (arith, none))
total_held (e ∷ es) rows are =
    let rest = total_held es rows are in
    let sum : total (λ r. holds e r + held es r) rows ≡ total (holds e) rows + total (held es) rows = total_add (holds e) (held es) rows in
    omega (arith, rest, sum, total_holds e rows are)

module _ (table : Numbered) (pool : Pool) (n : ℕ) (small : length (pairs_of table) ≤ 130816) where
  total_held_by : (views : List Viewed) (rows : List Counted) → AreRows 0 rows → AreViews table pool n views → total (held_by views) rows ≤ 261632 * length views
  total_held_by [] rows sound are = (let none : total (λ r. 0) rows ≡ 0 = total_zero (λ r. 0) rows (λ r. refl) in omega (arith, none))
  total_held_by (v ∷ vs) rows sound are =
      (let rest = total_held_by vs rows sound are.2 in
      let sum : total (λ r. held v.entries r + held_by vs r) rows ≡ total (held v.entries) rows + total (held_by vs) rows = total_add (held v.entries) (held_by vs) rows in
      omega (arith, rest, sum, total_held v.entries rows sound, are.0.few, small))

  -- no more rows are live than the views' entries can hold, and those that are saved
  pub few_live : (views : List Viewed) (saved : List (Option (ℕ × ℕ))) → length saved ≤ length (pairs_of table) → AreRows 0 pool.rows → ((r : ℕ) → count_of pool r ≡ held saved r + held_by views r) → AreViews table pool n views
      → live pool ≤ 261632 * (1 + length views)
  few_live views saved few sound counts are =
      let sum : total (λ r. held saved r + held_by views r) pool.rows ≡ total (held saved) pool.rows + total (held_by views) pool.rows = total_add (held saved) (held_by views) pool.rows in
      omega (
        arith,
        total_counts 0 pool.rows sound,
        total_le (λ r. count_of pool r) (λ r. held saved r + held_by views r) pool.rows (λ r. omega (arith, counts r)),
        sum,
        total_held saved pool.rows sound,
        total_held_by views pool.rows sound are,
        few,
        small,
      )
