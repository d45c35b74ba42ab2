use Rattle.std.proofs.Common.{◌≡◌, ◌+◌, ◌∙◌, ℕ, List, Option, ap, length, sym, subst, arith, length-append}
use Rattle.sp_dag.specs.Numbered.{Numbered}
use Rattle.sp_carry.specs.Carried.{Carried}
use Rattle.sp_engine.specs.Engine.{first_carried, first_numbered}
use Rattle.sp_engine.specs.Votes.{Grew, HaveJoined, Tallied}
use Rattle.sp_engine.proofs.CarriedBlocks.{carried_count}
use Rattle.sp_engine.proofs.Paying.{now_paying, off_all, was_paying}
use Rattle.sp_engine.proofs.TakenBack.{carried_back, flags_within, locks_back, none_set, numbered_back, paying_back}
use Rattle.sp_engine.proofs.growth.grow.Goals as goal

joined_at : (table : Numbered) (n k : ℕ) (old v : Tallied) (saved : List (Option (ℕ × ℕ))) → k ≡ n → HaveJoined table n old v saved → HaveJoined table k old v saved
joined_at table n k old v saved at h = subst (λ (m : ℕ). HaveJoined table m old v saved) (sym at) h

pub settle-requires : goal.settle-requires
settle-requires c = (
  c.args.votes.now,
  c.in-Ok.ensures.joined c.args.votes.now (joined_at c.args.dag.now (length c.args.dag.now.parents) c.in_ok-before.before.blocks c.args.votes.now c.args.votes.now c.in_ok-before.before.saved c.in_ok-before.ensures.blocks c.in_ok-before.ensures.joined) c.in_ok-before.ensures.tips,
  omega (arith, c.in-Ok.ensures.tips, c.in_ok-before.ensures.tips),
)

pub returns-in-Ok-clause-in_order : goal.returns-in-Ok-clause-in_order
returns-in-Ok-clause-in_order c = c.in-Ok.ensures.in_order

pub returns-in-Ok-clause-one : goal.returns-in-Ok-clause-one
returns-in-Ok-clause-one c = λ one.
    let old : Numbered = c.args.dag.now in
    let new : Numbered = c.decide.new.dag in
    let long : length new.parents ≡ length old.parents + 1 =
    omega (arith, one, c.len-blocks.ensures.numbered.long, c.in-Ok.ensures.in_order.long, ap length c.in-Ok.ensures.ids, length-append old.ids c.args.ids.now) in
    let h = joined_at old (length old.parents) c.in_ok-before.before.blocks c.args.votes.now c.args.votes.now c.in_ok-before.before.saved c.in_ok-before.ensures.blocks c.in_ok-before.ensures.joined in (
      long,
      subst (λ (n : ℕ). Grew new n c.args.votes.now c.settle.new.self) (c.in-Ok.ensures.blocks ∙ c.in_ok-before.ensures.blocks)
          (c.settle.ensures.grew c.args.votes.now (c.in-Ok.ensures.joined c.args.votes.now h c.in_ok-before.ensures.tips) (omega (arith, c.in-Ok.ensures.tips, c.in_ok-before.ensures.tips)) (omega (arith, long, c.in-Ok.ensures.blocks, c.in_ok-before.ensures.blocks))),
    )

pub returns-in-Ok-clause-paying : goal.returns-in-Ok-clause-paying
returns-in-Ok-clause-paying c =
    let k : Carried = c.decide.new.carriers in
    now_paying k c.args.accepted.now c.decide.new.accepted c.args.purse.now c.decide.new.purse c.apply.new.self c.as_slice.result.now
    (was_paying c.args.carriers.now k c.args.accepted.now c.args.purse.now c.in-Ok.ensures.more c.requires.accepting.right.no_more_txs c.requires.paying)
    c.in-Ok.ensures.of _ c.in-Ok.ensures.wider.flags (off_all _) (c.as_slice.ensures.value ∙ c.in-Ok.ensures.flips) c.apply.ensures.of c.apply.ensures.accepted

pub take_back-requires-clause-some : goal.take_back-requires-clause-some
take_back-requires-clause-some c = omega (arith, c.in_ok-before.ensures.blocks, c.len-blocks.ensures.numbered.some)

pub take_back-requires-clause-carried : goal.take_back-requires-clause-carried
take_back-requires-clause-carried c =
    omega (arith, c.in-Err.ensures.longer, c.in_ok-before.ensures.blocks, carried_count c.args.pool.now c.args.dag.now c.args.carriers.now c.len-blocks.ensures.numbered c.requires.accepting.carriers)

pub take_back-requires-clause-joining : goal.take_back-requires-clause-joining
take_back-requires-clause-joining c = (
  c.args.votes.now,
  c.in-Err.ensures.err c.args.votes.now (joined_at c.args.dag.now (length c.args.dag.now.parents) c.in_ok-before.before.blocks c.args.votes.now c.args.votes.now c.in_ok-before.before.saved c.in_ok-before.ensures.blocks c.in_ok-before.ensures.joined) c.in_ok-before.ensures.tips,
  omega (arith, c.in-Err.ensures.tips, c.in_ok-before.ensures.tips),
  c.in-Err.ensures.since ∙ c.in_ok-before.ensures.since,
  c.in-Err.ensures.sums ∙ c.in_ok-before.ensures.sums,
)

pub take_back-requires-clause-accepted : goal.take_back-requires-clause-accepted
take_back-requires-clause-accepted c =
    flags_within c.args.carriers.now c.args.accepted.now c.args.purse.now c.decide.new.purse c.tx_count-txs.result c.tx_count-txs.ensures.value c.requires.paying c.in-Err.ensures.wider

pub take_back-requires-clause-none : goal.take_back-requires-clause-none
take_back-requires-clause-none c =
    none_set c.args.carriers.now c.args.accepted.now c.args.purse.now c.decide.new.purse c.tx_count-txs.result c.tx_count-txs.ensures.value c.requires.paying c.in-Err.ensures.wider

pub take_back-requires-clause-of : goal.take_back-requires-clause-of
take_back-requires-clause-of c = (
  c.in-Err.ensures.wider.list,
  c.in-Err.ensures.wider.of,
  locks_back c.args.carriers.now c.args.accepted.now c.args.purse.now c.decide.new.purse c.tx_count-txs.result c.tx_count-txs.ensures.value c.requires.paying c.in-Err.ensures.wider
      c.lock_count-locks.result c.lock_count-locks.ensures.value,
)

pub returns-in-Err-clause-dag : goal.returns-in-Err-clause-dag
returns-in-Err-clause-dag c =
    c.take_back.ensures.dag ∙ ap (first_numbered c.decide.new.dag) c.in-Err.ensures.blocks ∙ c.in-Err.ensures.front c.in_ok-before.before.blocks (omega (arith, c.in_ok-before.ensures.blocks))
    ∙ numbered_back c.args.dag.now c.in_ok-before.before.blocks c.len-blocks.ensures.numbered c.in_ok-before.ensures.blocks

pub returns-in-Err-clause-carriers : goal.returns-in-Err-clause-carriers
returns-in-Err-clause-carriers c =
    let k : Carried = c.args.carriers.now in
    let at : k.blocks ≡ c.in_ok-before.before.blocks =
    carried_count c.args.pool.now c.args.dag.now k c.len-blocks.ensures.numbered c.requires.accepting.carriers ∙ sym c.in_ok-before.ensures.blocks in
    c.take_back.ensures.carriers ∙ ap (first_carried c.decide.new.carriers) c.in-Err.ensures.blocks ∙ c.in-Err.ensures.first c.in_ok-before.before.blocks (omega (arith, at))
    ∙ carried_back k c.in_ok-before.before.blocks c.requires.accepting.carriers.carried at

pub returns-in-Err-clause-votes : goal.returns-in-Err-clause-votes
returns-in-Err-clause-votes c =
    let h = joined_at c.args.dag.now (length c.args.dag.now.parents) c.in_ok-before.before.blocks c.args.votes.now c.args.votes.now c.in_ok-before.before.saved c.in_ok-before.ensures.blocks c.in_ok-before.ensures.joined in
    c.take_back.ensures.votes c.args.votes.now (c.in-Err.ensures.err c.args.votes.now h c.in_ok-before.ensures.tips)
    (omega (arith, c.in-Err.ensures.tips, c.in_ok-before.ensures.tips)) (c.in-Err.ensures.since ∙ c.in_ok-before.ensures.since) (c.in-Err.ensures.sums ∙ c.in_ok-before.ensures.sums)

pub returns-in-Err-clause-purse : goal.returns-in-Err-clause-purse
returns-in-Err-clause-purse c =
    paying_back c.args.carriers.now c.args.accepted.now c.args.purse.now c.decide.new.purse c.tx_count-txs.result c.tx_count-txs.ensures.value c.requires.paying c.in-Err.ensures.wider
    c.take_back.new.purse c.take_back.ensures.of c.take_back.ensures.accepted
