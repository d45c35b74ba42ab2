use Rattle.std.proofs.Common.{ℕ, ap}
use Rattle.std.specs.Prelude.{◌==◌, not}
use Rattle.sp_engine.specs.Transactions.{balance_by_id, locks}
use Rattle.sp_report.proofs.SortedIds.{next_looked, one_at_most}
use Rattle.sp_report.proofs.listed.numbered_paid.Goals as goal

pub number-preserved : goal.number-preserved
number-preserved c =
    let profile = c.args.engine.now.profile in
    let kept = c.args.engine.now.kept in
    record {
      locks = next_looked (λ lock. not (balance_by_id profile kept lock == 0)) (locks kept) c.number.paid.items _ c.number.number _ _ c.number.invariant.locks c.lock_at-lock.ensures.lock (ap (λ (n : ℕ). not (n == 0)) c.lock_at-lock.ensures.value) c.in_ok-push_wanted.ensures;
      few = one_at_most c.number.paid.items _ _ _ c.number.number c.number.invariant.few c.in_ok-push_wanted.ensures;
    }
