use Rattle.std.proofs.Common.{arith}
use Rattle.sp_carry.specs.Ledger.{is_accepted}
use Rattle.sp_engine.specs.Transactions.{ledger_by_id, tx_ids}
use Rattle.sp_pool.specs.Kept.{present}
use Rattle.spectre.proofs.Tallies.{one_at_most, one_counted}
use Rattle.spectre.proofs.counting.count_accepted.Goals as goal

pub number-preserved : goal.number-preserved
number-preserved c =
    let profile = c.args.engine.now.profile in
    let kept = c.args.engine.now.kept in
    record {
      counted = one_counted (λ id. is_accepted (ledger_by_id profile kept) (present kept) id) (tx_ids kept) c.number.number c.tx_at-accepted.result.0 c.tx_at-accepted.result.1 c.number.count c.one_more-count.result
          (omega (arith, c.number-test.true, c.tx_count-number-end.ensures.count)) c.tx_at-accepted.ensures.id (c.tx_at-accepted.ensures.value) c.number.invariant.counted c.one_more-count.ensures;
      few = one_at_most c.tx_at-accepted.result.1 c.number.count c.one_more-count.result c.number.number c.number.invariant.few c.one_more-count.ensures;
    }
