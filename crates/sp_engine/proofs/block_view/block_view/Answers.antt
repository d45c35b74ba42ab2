use Rattle.std.proofs.Common.{◌≡◌, ◌∙◌, ◌<◌, ◌≤◌, List, ◌∷◌, [], ap, arith, length}
use Rattle.sp_dag.specs.Numbered.{Numbered, pairs_of}
use Rattle.sp_rows.specs.Pool as counted
use Rattle.sp_view.specs.Stored.{count_of}
use Rattle.sp_view.specs.Views.{Viewed}
use Rattle.sp_engine.specs.Votes.{AreShared}
use Rattle.sp_engine.proofs.Beside.{few_live_beside}
use Rattle.sp_engine.proofs.Tips.{past_and_block, past_asked, past_lower, past_there, past_without}
use Rattle.sp_engine.proofs.block_view.block_view.Goals as goal

pub derive-requires-clause-asked : goal.derive-requires-clause-asked
derive-requires-clause-asked c = past_asked c.args.dag.now c.args.n c.len-blocks.ensures.numbered.order c.requires.within c.past-past.result.now c.past-past.ensures c.count-members.ensures.row

pub derive-requires-clause-added : goal.derive-requires-clause-added
derive-requires-clause-added c = λ z h.
    let less : z < c.args.n = past_lower c.args.dag.now c.args.n c.len-blocks.ensures.numbered.order c.requires.within c.past-past.result.now c.past-past.ensures z h in
    omega (arith, less, c.requires.within, c.requires.every)

pub derive-requires-clause-few : goal.derive-requires-clause-few
derive-requires-clause-few c =
    let none : length c.args.rows.now.rows ≡ 0 = ap length c.requires.empty in
    omega (arith, none)

pub add-requires-clause-added : goal.add-requires-clause-added
add-requires-clause-added c = λ z h.
    let less : z < c.args.n = past_lower c.args.dag.now c.args.n c.len-blocks.ensures.numbered.order c.requires.within c.in_ok-view.view.members (c.in_ok-view.ensures.members ∙ c.past-past.ensures) z h in
    omega (arith, less, c.requires.within, c.requires.every)

pub add-requires-clause-b_added : goal.add-requires-clause-b_added
add-requires-clause-b_added c = omega (arith, c.requires.within, c.requires.every)

pub add-requires-clause-new : goal.add-requires-clause-new
add-requires-clause-new c = past_without c.args.dag.now c.args.n c.len-blocks.ensures.numbered.order c.requires.within c.in_ok-view.view.members (c.in_ok-view.ensures.members ∙ c.past-past.ensures)

pub add-requires-clause-past : goal.add-requires-clause-past
add-requires-clause-past c = past_there c.args.dag.now c.args.n c.len-blocks.ensures.numbered.order c.requires.within c.in_ok-view.view.members (c.in_ok-view.ensures.members ∙ c.past-past.ensures)

pub add-requires-clause-few : goal.add-requires-clause-few
add-requires-clause-few c =
    let table : Numbered = c.args.dag.now in
    let view : Viewed = c.in_ok-view.view in
    let small : length (pairs_of table) ≤ 130816 = omega (arith, c.pair_count-pairs.ensures.value, c.pair_count-pairs.ensures.bound) in
    let shared : AreShared table c.derive.new.pool (view ∷ []) [] = record {
      few = omega arith;
      once = λ r. omega arith;
      counts = λ r. (let none : count_of c.args.rows.now r ≡ 0 = ap (λ (rows : List counted.Counted). counted.count_of rows r) c.requires.empty in
          omega (arith, none, c.in_ok-view.ensures.counts r));
    } in
    omega (
      arith,
      few_live_beside table c.derive.new.pool (view ∷ []) [] shared c.args.frozen.now.blocks small
          (c.in_ok-view.ensures.ok, (λ z h. (let less : z < c.args.n = past_lower table c.args.n c.len-blocks.ensures.numbered.order c.requires.within view.members (c.in_ok-view.ensures.members ∙ c.past-past.ensures) z h in omega (arith, less, c.requires.within, c.requires.every))), tt)
          c.live-derived.ensures.rows,
    )

pub returns-clause-members : goal.returns-clause-members
returns-clause-members c = past_and_block c.args.dag.now c.args.n c.len-blocks.ensures.numbered.order c.requires.within c.in_ok-view.view.members (c.in_ok-view.ensures.members ∙ c.past-past.ensures) c.add.new.self.members c.in_ok-add.ensures.members
