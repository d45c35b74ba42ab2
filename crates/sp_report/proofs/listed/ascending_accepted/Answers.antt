use Rattle.std.proofs.Common.{ap, ◌∙◌}
use Rattle.sp_block.specs.Ascending.{ascending}
use Rattle.sp_block.proofs.Ascent.{sort_is_ascending}
use Rattle.std.proofs.Common.{ℕ, List, subst, sym}
use Rattle.sp_model.specs.Graph.{AreDistinct}
use Rattle.sp_carry.specs.Ledger.{is_accepted}
use Rattle.sp_pool.specs.Kept.{present}
use Rattle.sp_engine.specs.Transactions.{ledger_by_id, tx_ids}
use Rattle.std.specs.Prelude.{filter}
use Rattle.sp_report.proofs.NamedIds.{ascending_once, distinct_passing}
use Rattle.sp_report.proofs.listed.ascending_accepted.Goals as goal

pub returns-clause-items : goal.returns-clause-items
returns-clause-items c =
    sort_is_ascending c.in_ok-accepted.accepted.items c.sort_unstable.new.self.items c.sort_unstable.ensures.permutation c.sort_unstable.ensures.sorted
    ∙ ap ascending c.in_ok-accepted.ensures.items

pub returns-clause-once : goal.returns-clause-once
returns-clause-once c =
    let profile = c.args.engine.now.profile in
    let kept = c.args.engine.now.kept in
    let p = λ (id : ℕ). is_accepted (ledger_by_id profile kept) (present kept) id in
    subst (λ (l : List ℕ). AreDistinct l) (sym (returns-clause-items c)) (ascending_once (filter p (tx_ids kept)) (distinct_passing p (tx_ids kept) c.tx_count-count.ensures.once))
