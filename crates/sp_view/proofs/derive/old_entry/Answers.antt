use Rattle.std.proofs.Common.{◌≡◌, ◌∙◌, ℕ, List, Some, ap, arith, get_or}
use Rattle.std.specs.Prelude.{slice_get}
use Rattle.sp_dag.specs.Numbered.{graph_of, pairs_of}
use Rattle.sp_model.specs.Graph.{Graph}
use Rattle.sp_rows.specs.Pool.{Counted, words_of}
use Rattle.sp_rows.specs.Pool as counted
use Rattle.sp_view.specs.Settled.{AreSides}
use Rattle.sp_view.specs.Stored.{row_of}
use Rattle.sp_view.proofs.Derived.{asked_moves, grown_inside, grown_listed, rows_kept, unasked_entry}
use Rattle.sp_view.proofs.Held.{some_pair}
use Rattle.sp_view.proofs.OneSide.{told_by_growth}
use Rattle.sp_view.proofs.Pools.{row_of_words}
use Rattle.sp_view.proofs.derive.old_entry.Goals as goal

pub asked_by_growth-todo-requires-clause-inside : goal.asked_by_growth-todo-requires-clause-inside
asked_by_growth-todo-requires-clause-inside c =
    let pair = get_or (pairs_of c.args.growth.now.set.dag.now) c.args.pair (0, 0) in
    let at : slice_get (pairs_of c.args.growth.now.set.dag.now) c.args.pair ≡ Some (pair.0, pair.1) = some_pair (pairs_of c.args.growth.now.set.dag.now) c.args.pair c.requires.listed in
    grown_listed c.args.growth.now.set.dag.now c.args.growth.now.set.frozen.now c.args.growth.now.before.now c.args.growth.now.set.members.now c.args.growth.now.grown c.args.pair pair.0 pair.1 c.args.pool.now c.args.entry (c.requires.entry pair.0 pair.1 at) at

pub returns-then-is_none-clause-entry : goal.returns-then-is_none-clause-entry
returns-then-is_none-clause-entry c = λ x y at.
    unasked_entry c.args.growth.now.set.dag.now c.args.growth.now.set.frozen.now c.args.growth.now.before.now c.args.growth.now.set.members.now c.args.growth.now.grown c.args.pair x y c.args.pool.now c.args.entry (c.requires.entry x y at)
    c.share_entry.new.pool c.asked_by_growth-todo.result (c.is_none.ensures.0 c.if-is_none.true) c.share_entry.ensures.rows
    (c.asked_by_growth-todo.ensures.kept x y at (c.requires.entry x y at).1).1

pub returns-in_err-reserve-clause-others : goal.returns-in_err-reserve-clause-others
returns-in_err-reserve-clause-others c = λ r _. row_of_words c.args.pool.now c.reserve.new.self r (ap (λ (l : List Counted). words_of l r) c.in_err-reserve.ensures.rows)

pub one_side-up-requires : goal.one_side-up-requires
one_side-up-requires c =
    let pair = get_or (pairs_of c.args.growth.now.set.dag.now) c.args.pair (0, 0) in
    let at : slice_get (pairs_of c.args.growth.now.set.dag.now) c.args.pair ≡ Some (pair.0, pair.1) = some_pair (pairs_of c.args.growth.now.set.dag.now) c.args.pair c.requires.listed in
    record { inside = grown_listed c.args.growth.now.set.dag.now c.args.growth.now.set.frozen.now c.args.growth.now.before.now c.args.growth.now.set.members.now c.args.growth.now.grown c.args.pair pair.0 pair.1 c.args.pool.now c.args.entry (c.requires.entry pair.0 pair.1 at) at }

pub rows_anew-new-requires-clause-inside : goal.rows_anew-new-requires-clause-inside
rows_anew-new-requires-clause-inside c =
    let pair = get_or (pairs_of c.args.growth.now.set.dag.now) c.args.pair (0, 0) in
    let at : slice_get (pairs_of c.args.growth.now.set.dag.now) c.args.pair ≡ Some (pair.0, pair.1) = some_pair (pairs_of c.args.growth.now.set.dag.now) c.args.pair c.requires.listed in
    grown_listed c.args.growth.now.set.dag.now c.args.growth.now.set.frozen.now c.args.growth.now.before.now c.args.growth.now.set.members.now c.args.growth.now.grown c.args.pair pair.0 pair.1 c.args.pool.now c.args.entry (c.requires.entry pair.0 pair.1 at) at

pub returns-clause-entry : goal.returns-clause-entry
returns-clause-entry c = λ x y at.
    let g : Graph = graph_of c.args.growth.now.set.dag.now in
    let same : (r : ℕ) → row_of c.reserve.new.self r ≡ row_of c.args.pool.now r = λ r. row_of_words c.args.pool.now c.reserve.new.self r (ap (λ (l : List Counted). words_of l r) c.in_ok-reserve.ensures.rows) in
    let new : AreSides g c.args.growth.now.set.members.now x y c.rows_anew-new.result.plus c.rows_anew-new.result.minus =
    c.rows_anew-new.ensures x y at
    (rw (same c.args.entry.0, same c.args.entry.1)
    (told_by_growth c.args.growth.now.set.dag.now c.args.growth.now.set.frozen.now c.args.growth.now.before.now c.args.growth.now.set.members.now c.args.growth.now.blocks.now c.args.growth.now.below.now
    c.args.growth.now.grown c.args.growth.now.growth c.args.pair x y at
    (grown_listed c.args.growth.now.set.dag.now c.args.growth.now.set.frozen.now c.args.growth.now.before.now c.args.growth.now.set.members.now c.args.growth.now.grown c.args.pair x y c.args.pool.now c.args.entry (c.requires.entry x y at) at)
    c.one_side-up.result c.one_side-up.ensures (row_of c.args.pool.now c.args.entry.0) (row_of c.args.pool.now c.args.entry.1) c.asked_by_growth-todo.result (c.requires.entry x y at).1
    (c.asked_by_growth-todo.ensures.kept x y at (c.requires.entry x y at).1).0 c.asked_by_growth-todo.ensures.above))
    (asked_moves g c.args.growth.now.set.members.now x y c.asked_by_growth-todo.result c.args.pool.now c.reserve.new.self c.args.entry same (c.asked_by_growth-todo.ensures.kept x y at (c.requires.entry x y at).1)) in (
      grown_inside c.args.growth.now.set.dag.now c.args.growth.now.set.frozen.now c.args.growth.now.before.now c.args.growth.now.set.members.now c.args.growth.now.grown c.args.pair x y c.args.pool.now c.args.entry (c.requires.entry x y at),
      record { plus_is = c.shared_entry.ensures.plus ∙ new.plus_is; minus_is = c.shared_entry.ensures.minus ∙ new.minus_is },
    )

pub returns-clause-kept : goal.returns-clause-kept
returns-clause-kept c = λ x y at.
    let g : Graph = graph_of c.args.growth.now.set.dag.now in
    let same : (r : ℕ) → row_of c.reserve.new.self r ≡ row_of c.args.pool.now r = λ r. row_of_words c.args.pool.now c.reserve.new.self r (ap (λ (l : List Counted). words_of l r) c.in_ok-reserve.ensures.rows) in
    let new : AreSides g c.args.growth.now.set.members.now x y c.rows_anew-new.result.plus c.rows_anew-new.result.minus =
    c.rows_anew-new.ensures x y at
    (rw (same c.args.entry.0, same c.args.entry.1)
    (told_by_growth c.args.growth.now.set.dag.now c.args.growth.now.set.frozen.now c.args.growth.now.before.now c.args.growth.now.set.members.now c.args.growth.now.blocks.now c.args.growth.now.below.now
    c.args.growth.now.grown c.args.growth.now.growth c.args.pair x y at
    (grown_listed c.args.growth.now.set.dag.now c.args.growth.now.set.frozen.now c.args.growth.now.before.now c.args.growth.now.set.members.now c.args.growth.now.grown c.args.pair x y c.args.pool.now c.args.entry (c.requires.entry x y at) at)
    c.one_side-up.result c.one_side-up.ensures (row_of c.args.pool.now c.args.entry.0) (row_of c.args.pool.now c.args.entry.1) c.asked_by_growth-todo.result (c.requires.entry x y at).1
    (c.asked_by_growth-todo.ensures.kept x y at (c.requires.entry x y at).1).0 c.asked_by_growth-todo.ensures.above))
    (asked_moves g c.args.growth.now.set.members.now x y c.asked_by_growth-todo.result c.args.pool.now c.reserve.new.self c.args.entry same (c.asked_by_growth-todo.ensures.kept x y at (c.requires.entry x y at).1)) in
    rows_kept g c.args.growth.now.before.now c.args.growth.now.set.members.now x y c.args.pool.now c.reserve.new.self c.args.entry c.shared_entry.result c.rows_anew-new.result.plus c.rows_anew-new.result.minus same
    (c.requires.entry x y at).1 new c.shared_entry.ensures.kept_plus c.shared_entry.ensures.kept_minus

pub returns-clause-others : goal.returns-clause-others
returns-clause-others c = λ r some.
    c.shared_entry.ensures.others r (let same = ap (λ (l : List Counted). counted.count_of l r) c.in_ok-reserve.ensures.rows in omega (arith, some, same))
    ∙ row_of_words c.args.pool.now c.reserve.new.self r (ap (λ (l : List Counted). words_of l r) c.in_ok-reserve.ensures.rows)
