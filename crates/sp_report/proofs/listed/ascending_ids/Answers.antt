use Rattle.std.proofs.Common.{ℕ, List, length, ap, ◌∙◌}
use Rattle.sp_model.specs.Graph.{has}
use Rattle.sp_report.proofs.SortedIds.{sorted_present}
use Rattle.std.proofs.Common.{subst, sym}
use Rattle.sp_model.specs.Graph.{AreDistinct}
use Rattle.sp_pool.specs.Kept.{present}
use Rattle.sp_engine.proofs.Counts.{AreDistinct-present}
use Rattle.sp_report.proofs.NamedIds.{ascending_once}
use Rattle.sp_report.proofs.listed.ascending_ids.Goals as goal

pub returns-clause-items : goal.returns-clause-items
returns-clause-items c =
    let e = c.in_ok-ids.ensures in
    sorted_present c.args.engine.now.kept c.in_ok-ids.ids.items c.sort_unstable.new.self.items c.kept_count-kept.ensures.blocks.apart
    (λ id. ap (λ (l : List ℕ). has l id) e ∙ c.present-present.ensures.order id) (ap (λ (l : List ℕ). length l) e ∙ c.present-present.ensures.long)
    c.sort_unstable.ensures.permutation c.sort_unstable.ensures.sorted

pub returns-clause-once : goal.returns-clause-once
returns-clause-once c =
    let kept = c.args.engine.now.kept in
    subst (λ (l : List ℕ). AreDistinct l) (sym (returns-clause-items c)) (ascending_once (present kept) (AreDistinct-present kept c.kept_count-kept.ensures.blocks.apart))
