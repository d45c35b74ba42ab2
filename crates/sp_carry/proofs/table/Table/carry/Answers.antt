use Rattle.std.proofs.Common.{◌≡◌, ◌∙◌, [], ap, sym, subst, Some}
use Rattle.sp_tx.specs.Parts.{Transaction, of_parts}
use Rattle.sp_tx.specs.Spending.{id_of}
use Rattle.sp_carry.specs.Payment.{payment_of}
use Rattle.sp_carry.specs.Ledger.{is_sound}
use Rattle.sp_carry.specs.Carried.{ledger_of, number_of}
use Rattle.sp_carry.specs.Kept.{carried_of, Keeps}
use Rattle.sp_carry.proofs.Finding.{number_within}
use Rattle.sp_carry.proofs.Keeping.{any_default}
use Rattle.sp_carry.proofs.Linked.{carried_known}
use Rattle.sp_carry.proofs.Noting.{on_ok}
use Rattle.sp_carry.proofs.table.Table.carry.Goals as goal

pub returns-in-Some-clause-ok : goal.returns-in-Some-clause-ok
returns-in-Some-clause-ok c =
    let k = carried_of c.args.self.now in
    let found : number_of k (id_of c.args.tx.now) ≡ Some c.in-Some.number =
    ap (number_of k) (sym c.requires.is) ∙ sym c.tx_of.ensures ∙ c.in-Some.is in
    on_ok c.carry_known.result c.carry_known.ensures.ok
    (subst (Keeps c.carry_known.new.self)
    (carried_known c.args.dag.now k c.args.tx.now c.in-Some.number c.is_sound-sound.result found
    (c.is_sound-sound.ensures
    ∙ ap (λ (t : Transaction). is_sound (ledger_of c.args.dag.now k) k.blocks (payment_of t))
    (c.index.ensures ∙ any_default c.args.self.now.txs.items c.in-Some.number c.index.result.now (of_parts [] [])
    (number_within k (id_of c.args.tx.now) c.in-Some.number found)))))
