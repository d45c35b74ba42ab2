use Rattle.std.proofs.Common.{◌≡◌, ◌≤◌, ◌∙◌, ℕ, List, Option, ap, arith, length, subst, sym, take}
use Rattle.std.specs.Prelude.{vec_capacity}
use Rattle.sp_dag.specs.Numbered.{graph_of, pairs_of}
use Rattle.sp_view.specs.SoFar.{AreBelow}
use Rattle.sp_view.specs.Stored.{count_of}
use Rattle.sp_view.specs.Views.{held, IsOnce}
use Rattle.sp_view.proofs.Behind.{entries_end}
use Rattle.sp_view.proofs.Held.{held_take_le, once_end}
use Rattle.sp_view.proofs.Moves.{moved_take_le}
use Rattle.sp_view.proofs.SoFar.{below_all, below_outside, so_far_past}
use Rattle.sp_view.proofs.block_runs.derive_entries.Goals as goal
use Rattle.sp_view.proofs.block_runs.derive_entries.Goals.{then-test+in_ok-derive_block, else-test}

-- no row is held twice, where none of the entries that others are derived from is
once_in : (count n : ℕ) (base entries : List (Option (ℕ × ℕ))) (r : ℕ) → IsOnce count (held (take n base) r) (held entries r) → held base r ≤ 1 → held entries r ≤ 1
once_in count n base entries r once few = once_end count (held (take n base) r) (held entries r) once (omega (arith, held_take_le base n r, few))

pub returns-in_err-derive_block-clause-once : goal.returns-in_err-derive_block-clause-once
returns-in_err-derive_block-clause-once c = λ r.
    let so_far = c.derive_block.ensures.so_far c.args.pool.now c.runs.invariant.so_far in
    once_in (count_of c.args.pool.now r) (length c.derive_block.new.entries.items) c.args.base.now c.derive_block.new.entries.items r (so_far.once r) (c.requires.once r)

pub runs-preserved : goal.runs-preserved
runs-preserved c =
    elim c.if-test.branch [
      | then-test+in_ok-derive_block w ↦ record {
        capacity = ap vec_capacity w.entries-is ∙ w.derive_block.ensures.capacity ∙ c.runs.invariant.capacity;
        so_far = rw (w.pool-is, w.entries-is) (w.derive_block.ensures.so_far c.args.pool.now c.runs.invariant.so_far);
        below = rw (w.entries-is) w.in_ok-derive_block.ensures.below;
      }
      | else-test w ↦ record {
        capacity = ap vec_capacity w.entries-is ∙ c.runs.invariant.capacity;
        so_far = rw (w.pool-is, w.entries-is) c.runs.invariant.so_far;
        below = rw (w.entries-is)
            (below_outside c.args.growth.now.set.dag.now c.args.growth.now.set.members.now c.args.end c.runs.block (length c.runs.entries.items) (sym c.test.ensures.value ∙ w.if-test.false) c.runs.invariant.below);
      }
    ]

pub returns-clause-entry : goal.returns-clause-entry
returns-clause-entry c =
    let all : length c.args.growth.now.set.dag.now.parents ≡ c.runs.block = omega (arith, c.runs-test.false, c.len-block-end.ensures.value, c.runs.auto.block-end) in
    let below : AreBelow c.args.growth.now.set.dag.now c.args.growth.now.set.members.now c.args.end (length c.args.growth.now.set.dag.now.parents) (length c.runs.entries.items) =
    subst (λ (y : ℕ). AreBelow c.args.growth.now.set.dag.now c.args.growth.now.set.members.now c.args.end y (length c.runs.entries.items)) (sym all) c.runs.invariant.below in
    let long : length c.grow.new.entries.items ≡ c.args.end = omega (arith, c.grow.ensures.long, c.grow.new.entries.ok.0) in
    let so_far =
    so_far_past c.args.growth.now.set.dag.now c.args.growth.now.before.now c.args.growth.now.set.members.now c.args.base.now c.args.pool.now c.runs.pool c.runs.entries.items c.grow.new.entries.items
    c.args.growth.now.grown.into c.runs.invariant.so_far (omega (arith, long, below.ends)) c.grow.ensures.entry c.grow.ensures.held
    (λ i x z le less at. below_all c.args.growth.now.set.dag.now c.args.growth.now.set.members.now c.args.end (length c.runs.entries.items) below i x z le at) in
    entries_end c.args.growth.now.set.dag.now c.args.growth.now.set.members.now c.args.end c.requires.none c.runs.pool c.grow.new.entries.items long
    (λ j x y less at. so_far.entry j x y (omega (arith, less, long)) at)

pub returns-clause-once : goal.returns-clause-once
returns-clause-once c = λ r.
    let once = once_in (count_of c.args.pool.now r) (length c.runs.entries.items) c.args.base.now c.runs.entries.items r (c.runs.invariant.so_far.once r) (c.requires.once r) in
    omega (arith, once, c.grow.ensures.held r)

pub returns-clause-live : goal.returns-clause-live
returns-clause-live c =
    omega (
      arith,
      c.runs.invariant.so_far.moved,
      moved_take_le (graph_of c.args.growth.now.set.dag.now) c.args.growth.now.before.now c.args.growth.now.set.members.now (pairs_of c.args.growth.now.set.dag.now) (length c.runs.entries.items),
    )
