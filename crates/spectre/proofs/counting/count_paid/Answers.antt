use Rattle.std.proofs.Common.{ℕ, ◌==◌, not, ap, arith}
use Rattle.sp_engine.specs.Transactions.{balance_by_id, locks}
use Rattle.spectre.proofs.Tallies.{one_at_most, one_counted}
use Rattle.spectre.proofs.counting.count_paid.Goals as goal

pub number-preserved : goal.number-preserved
number-preserved c =
    let profile = c.args.engine.now.profile in
    let kept = c.args.engine.now.kept in
    record {
      counted = one_counted (λ lock. not (balance_by_id profile kept lock == 0)) (locks kept) c.number.number c.lock_at-balance.result.0 (not (c.lock_at-balance.result.1 == 0)) c.number.count c.one_more-count.result
          (omega (arith, c.number-test.true, c.lock_count-number-end.ensures.count)) c.lock_at-balance.ensures.lock (ap (λ (n : ℕ). not (n == 0)) c.lock_at-balance.ensures.value) c.number.invariant.counted c.one_more-count.ensures;
      few = one_at_most (not (c.lock_at-balance.result.1 == 0)) c.number.count c.one_more-count.result c.number.number c.number.invariant.few c.one_more-count.ensures;
    }
