use Rattle.sp_engine.proofs.Released.{more_ids, next_of, rest_of}
use Rattle.std.proofs.Common.{◌∙◌, arith}
use Rattle.sp_engine.proofs.Paying.{goes_then}
use Rattle.sp_rows.proofs.Keeps.{on_err}
use Rattle.sp_engine.proofs.numbering.add_all.Goals as goal

pub add_one-requires-clause-next : goal.add_one-requires-clause-next
add_one-requires-clause-next c = next_of c.args.pool.now c.loop-id.dag.ids c.args.ids.now c.loop-id.id-index c.id-item.result c.loop-id.invariant.order c.loop-id-test.true c.id-item.is

pub add_one-requires-clause-joined : goal.add_one-requires-clause-joined
add_one-requires-clause-joined c = (
  c.requires.joined.0,
  c.requires.joined.1,
  c.loop-id.invariant.joined c.requires.joined.0 c.requires.joined.1 c.requires.joined.2 c.requires.joined.3,
  c.requires.joined.3,
)

pub loop-id-preserved : goal.loop-id-preserved
loop-id-preserved c = record {
  numbered = c.in_ok-add_one.ensures.numbered;
  profile = c.in_ok-add_one.ensures.profile ∙ c.loop-id.invariant.profile;
  joined = λ n old h tips. c.in_ok-add_one.ensures.joined n old (c.loop-id.invariant.joined n old h tips) tips;
  front = λ n le. c.in_ok-add_one.ensures.front n (omega (arith, le, c.loop-id.invariant.wider)) ∙ c.loop-id.invariant.front n le;
  wider = omega (arith, c.loop-id.invariant.wider, c.in_ok-add_one.ensures.long);
  first = λ n le. c.in_ok-add_one.ensures.first n (omega (arith, le, c.loop-id.invariant.longer)) ∙ c.loop-id.invariant.first n le;
  carried = c.in_ok-add_one.ensures.carried;
  ids = more_ids c.args.dag.now.ids c.loop-id.dag.ids c.add_one.new.dag.ids c.args.ids.now c.loop-id.id-index c.id-item.result c.loop-id.invariant.ids c.loop-id-test.true c.id-item.is c.in_ok-add_one.ensures.ids;
  more = goes_then c.args.carriers.now.txs c.loop-id.carriers.txs c.add_one.new.carriers.txs c.loop-id.invariant.more c.in_ok-add_one.ensures.more;
  right = λ a right. c.in_ok-add_one.ensures.right a (c.loop-id.invariant.right a right);
  longer = omega (arith, c.loop-id.invariant.longer, c.in_ok-add_one.ensures.longer);
  below = λ n le. c.in_ok-add_one.ensures.below n (omega (arith, le, c.loop-id.invariant.longer)) ∙ c.loop-id.invariant.below n le;
  order = rest_of c.args.pool.now c.loop-id.dag.ids c.args.ids.now c.loop-id.id-index c.id-item.result c.add_one.new.dag.ids c.loop-id.invariant.order c.loop-id-test.true c.id-item.is c.in_ok-add_one.ensures.ids;
}

pub returns-in_err-add_one-clause-err : goal.returns-in_err-add_one-clause-err
returns-in_err-add_one-clause-err c = on_err c.from_residual.result (λ n old h tips. c.in_err-add_one.ensures.err n old (c.loop-id.invariant.joined n old h tips) tips)
