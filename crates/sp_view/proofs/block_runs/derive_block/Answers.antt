use Rattle.std.proofs.Common.{◌∙◌, ◌+◌, arith, length}
use Rattle.std.proofs.lemmas.Result.{on_ok_weaker}
use Rattle.sp_dag.specs.Numbered.{graph_of}
use Rattle.sp_dag.proofs.Starts.{fewer_below}
use Rattle.sp_view.proofs.SoFar.{below_start, below_stop, so_far_past}
use Rattle.sp_view.proofs.block_runs.derive_block.Goals as goal

pub derive_run-requires-clause-order : goal.derive_run-requires-clause-order
derive_run-requires-clause-order c =
    omega (
      arith,
      c.min-start.ensures,
      c.min-stop.ensures,
      c.first_pair.ensures.value,
      c.first_pair-2.ensures.value,
      fewer_below (graph_of c.args.growth.now.set.dag.now) c.args.block (c.args.block + 1) (omega arith),
    )

pub grow-requires-clause-short : goal.grow-requires-clause-short
grow-requires-clause-short c =
    omega (arith, c.min-start.ensures, c.first_pair.ensures.value, c.requires.below.ends, c.requires.below.low, c.args.entries.now.ok.0)

pub derive_run-requires-clause-so_far : goal.derive_run-requires-clause-so_far
derive_run-requires-clause-so_far c = (
  c.requires.so_far.0,
  so_far_past c.args.growth.now.set.dag.now c.args.growth.now.before.now c.args.growth.now.set.members.now c.args.base.now c.requires.so_far.0 c.args.pool.now c.args.entries.now.items c.grow.new.entries.items
      c.args.growth.now.grown.into c.requires.so_far.1
      (omega (arith, c.grow.ensures.long, c.min-start.ensures, c.first_pair.ensures.value, c.requires.below.ends, c.requires.below.low, c.grow.new.entries.ok.0))
      c.grow.ensures.entry c.grow.ensures.held
      (λ i x z le less at. below_start c.args.growth.now.set.dag.now c.args.growth.now.set.members.now c.args.end c.args.block (length c.args.entries.now.items) c.first_pair.result c.requires.below
      c.first_pair.ensures.from i x z le (omega (arith, less, c.grow.ensures.long, c.grow.new.entries.ok.0, c.min-start.ensures)) at),
)

pub returns-clause-so_far : goal.returns-clause-so_far
returns-clause-so_far c = λ before so_far.
    c.derive_run.ensures.so_far before
    (so_far_past c.args.growth.now.set.dag.now c.args.growth.now.before.now c.args.growth.now.set.members.now c.args.base.now before c.args.pool.now c.args.entries.now.items c.grow.new.entries.items
    c.args.growth.now.grown.into so_far
    (omega (arith, c.grow.ensures.long, c.min-start.ensures, c.first_pair.ensures.value, c.requires.below.ends, c.requires.below.low, c.grow.new.entries.ok.0))
    c.grow.ensures.entry c.grow.ensures.held
    (λ i x z le less at. below_start c.args.growth.now.set.dag.now c.args.growth.now.set.members.now c.args.end c.args.block (length c.args.entries.now.items) c.first_pair.result c.requires.below
    c.first_pair.ensures.from i x z le (omega (arith, less, c.grow.ensures.long, c.grow.new.entries.ok.0, c.min-start.ensures)) at))

pub returns-clause-below : goal.returns-clause-below
returns-clause-below c =
    on_ok_weaker c.derive_run.result
    (λ long. below_stop c.args.growth.now.set.dag.now c.args.growth.now.set.members.now c.args.end (c.args.block + 1) (length c.derive_run.new.entries.items) c.first_pair-2.result c.requires.none
    c.first_pair-2.ensures.value c.first_pair-2.ensures.from (long ∙ c.min-stop.ensures)) c.derive_run.ensures.stop
