use Rattle.sp_carry.specs.Ledger.{is_accepted}
use Rattle.sp_pool.specs.Kept.{present}
use Rattle.sp_engine.specs.Transactions.{ledger_by_id, tx_ids}
use Rattle.sp_report.proofs.SortedIds.{next_looked, one_at_most}
use Rattle.sp_report.proofs.listed.numbered_accepted.Goals as goal

pub number-preserved : goal.number-preserved
number-preserved c =
    let profile = c.args.engine.now.profile in
    let kept = c.args.engine.now.kept in
    record {
      ids = next_looked (λ id. is_accepted (ledger_by_id profile kept) (present kept) id) (tx_ids kept) c.number.ids.items _ c.number.number _ _ c.number.invariant.ids c.tx_at-id.ensures.id c.tx_at-id.ensures.value c.in_ok-push_wanted.ensures;
      few = one_at_most c.number.ids.items _ _ _ c.number.number c.number.invariant.few c.in_ok-push_wanted.ensures;
    }
