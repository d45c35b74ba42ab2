use Rattle.std.proofs.Common.{◌∷◌, [], ◌++◌, refl, arith, ap, ◌∙◌, set, List, ℕ}
use Rattle.sp_carry.specs.declared.carrier.Carrier.{Carrier}
use Rattle.sp_carry.specs.Kept.{carried_of}
use Rattle.sp_carry.proofs.Keeping.{keeps_row}
use Rattle.sp_carry.proofs.table.Table.carry_known.Goals as goal

pub returns-clause-ok : goal.returns-clause-ok
returns-clause-ok c =
    keeps_row c.args.self.now _ (carried_of c.args.self.now) c.args.row c.index_mut.result.now c.len-number.result c.requires.kept refl refl refl
    (c.push_reserved.ensures.items ∙ ap (λ (rows : List Carrier). rows ++ c.args.row ∷ []) c.in_ok-reserve.ensures.items)
    (omega (arith, c.requires.there, c.requires.kept.long)) c.index_mut.ensures.value
    (ap (λ (list : List ℕ). set c.args.self.now.by_tx.items c.args.row.tx list) c.in_ok-push.ensures.ok)
    (omega (arith, c.len-number.ensures, c.args.self.now.rows.ok)) (λ from. refl)
