-- Two views over one pool, where one of them comes, goes or grows.
use Rattle.std.proofs.Common.{◌≡◌, ℕ, ◌+◌, ◌<◌, List, [], sym, ap, subst, arith}
use Rattle.sp_dag.specs.Numbered.{Numbered, AreInOrder}
use Rattle.sp_frozen.specs.Voters.{FrozenRows}
use Rattle.sp_rows.specs.Pool.{Counted, Pool}
use Rattle.sp_rows.specs.Pool as counted
use Rattle.sp_view.specs.Stored.{count_of, row_of}
use Rattle.sp_view.specs.Views.{Viewed, held, IsView}
use Rattle.sp_view.proofs.Staying.{view_moves}
use Rattle.sp_view.proofs.Starting.{nothing, view_nothing}
use Rattle.sp_tests_views.specs.Voting.{AreTwo, CanVote, IsBased}

module _ (table : Numbered) (frozen : FrozenRows) (pool : Pool) (one other : Viewed) where
  pub can_one : AreTwo table frozen pool one other → CanVote table frozen pool one
  can_one two = record { based = two.based; is = two.is }

  pub can_other : AreTwo table frozen pool one other → CanVote table frozen pool other
  can_other two = record { based = two.based; is = two.beside }

  pub two_turned : AreTwo table frozen pool one other → AreTwo table frozen pool other one
  two_turned two = record { based = two.based; is = two.beside; beside = two.is; counts = λ r. (let c = two.counts r in omega (arith, c)) }

  -- both hold nothing
  pub two_start : IsBased table frozen → AreInOrder table.parents → pool.rows ≡ [] → one ≡ nothing → other ≡ nothing → AreTwo table frozen pool one other
  two_start based order rows e e' = record {
    based = based;
    is = subst (λ (v : Viewed). IsView table v pool) (sym e) (view_nothing table pool order);
    beside = subst (λ (v : Viewed). IsView table v pool) (sym e') (view_nothing table pool order);
    counts = λ r.
        (let none : count_of pool r ≡ 0 = ap (λ (l : List Counted). counted.count_of l r) rows in
        let a : held one.entries r ≡ 0 = ap (λ (v : Viewed). held v.entries r) e in
        let b : held other.entries r ≡ 0 = ap (λ (v : Viewed). held v.entries r) e' in
        omega (arith, none, a, b));
  }

  -- beside a block more
  pub two_stay : (more : Numbered) (frozen' : FrozenRows) → IsBased more frozen' → ((view : Viewed) (pool : Pool) → IsView table view pool → IsView more view pool)
      → AreTwo table frozen pool one other → AreTwo more frozen' pool one other
  two_stay more frozen' based stay two = record { based = based; is = stay one pool two.is; beside = stay other pool two.beside; counts = two.counts }

  module _ (pool' : Pool) (two : AreTwo table frozen pool one other) where
    -- the other one goes
    pub two_less : ((r : ℕ) → count_of pool r ≡ count_of pool' r + held other.entries r) → ((r : ℕ) → 0 < count_of pool' r → row_of pool' r ≡ row_of pool r) → AreTwo table frozen pool' one nothing
    two_less counts rows =
        let after : (r : ℕ) → count_of pool' r ≡ held one.entries r = λ r. (let c = two.counts r in let m = counts r in omega (arith, c, m)) in
        record {
          based = two.based;
          is = view_moves table one pool pool' two.is (λ r. (let c = after r in omega (arith, c))) (λ r some. rows r (let c = after r in omega (arith, c, some)));
          beside = view_nothing table pool' two.is.order;
          counts = λ r. (let c = after r in omega (arith, c));
        }

    -- the other one becomes another
    pub two_grown : (view : Viewed) → ((r : ℕ) → count_of pool' r + held other.entries r ≡ count_of pool r + held view.entries r)
        → ((r : ℕ) → held other.entries r < count_of pool r → row_of pool' r ≡ row_of pool r) → IsView table view pool' → AreTwo table frozen pool' one view
    two_grown view counts rows is =
        let after : (r : ℕ) → count_of pool' r ≡ held one.entries r + held view.entries r = λ r. (let c = two.counts r in let m = counts r in omega (arith, c, m)) in
        record {
          based = two.based;
          is = view_moves table one pool pool' two.is (λ r. (let c = after r in omega (arith, c))) (λ r some. rows r (let c = two.counts r in omega (arith, c, some)));
          beside = is;
          counts = after;
        }

    -- so does one that holds nothing
    pub two_more : (view : Viewed) → other ≡ nothing → ((r : ℕ) → count_of pool' r ≡ count_of pool r + held view.entries r)
        → ((r : ℕ) → 0 < count_of pool r → row_of pool' r ≡ row_of pool r) → IsView table view pool' → AreTwo table frozen pool' one view
    two_more view none counts rows is =
        two_grown view
        (λ r. (let c = counts r in let e : held other.entries r ≡ 0 = ap (λ (v : Viewed). held v.entries r) none in omega (arith, c, e)))
        (λ r some. rows r (omega (arith, some))) is

    -- a fork of the one
    pub two_same : (view : Viewed) → other ≡ nothing → view ≡ one → ((r : ℕ) → count_of pool' r ≡ count_of pool r + held one.entries r)
        → ((r : ℕ) → row_of pool' r ≡ row_of pool r) → AreTwo table frozen pool' one view
    two_same view none same counts rows =
        let moved : IsView table one pool' = view_moves table one pool pool' two.is (λ r. (let c = counts r in let l = two.is.live r in omega (arith, c, l))) (λ r some. rows r) in
        subst (λ (v : Viewed). AreTwo table frozen pool' one v) (sym same) (two_more one none counts (λ r some. rows r) moved)

    -- no row is counted more than once, where the other one holds nothing
    pub counted_few : other ≡ nothing → (r : ℕ) → count_of pool r ≡ held one.entries r
    counted_few none r = (let c = two.counts r in let e : held other.entries r ≡ 0 = ap (λ (v : Viewed). held v.entries r) none in omega (arith, c, e))
