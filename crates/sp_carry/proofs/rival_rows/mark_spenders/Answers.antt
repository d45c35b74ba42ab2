use Rattle.std.proofs.Common.{◌<◌, ◌∙◌, ℕ, subst, sym, length}
use Rattle.std.specs.Prelude.{All}
use Rattle.sp_carry.proofs.Keeping.{spenders_below}
use Rattle.sp_carry.proofs.rival_rows.mark_spenders.Goals as goal

pub mark_others-requires-clause-list : goal.mark_others-requires-clause-list
mark_others-requires-clause-list c =
    subst (λ (n : ℕ). All (λ u. u < n) c.spenders_of.result.now) (sym (c.inputs.invariant.long ∙ c.requires.long))
    (subst (All (λ u. u < length c.args.table.now.txs.items)) (sym c.spenders_of.ensures) (spenders_below c.input-item.result.from c.args.table.now.txs.items))
