use Rattle.std.proofs.Common.{refl, arith, ap, ◌∙◌}
use Rattle.sp_tx.specs.Parts.{Transaction}
use Rattle.sp_carry.proofs.Keeping.{tx_dropped}
use Rattle.sp_carry.proofs.table.Table.drop_tx.Goals as goal

pub returns : goal.returns
returns c = λ k t h none.
    tx_dropped c.args.self.now _ k t c.in-Some.tx c.len-number.result h none refl c.in-Some.ensures.items
    (omega (arith, c.len-number.ensures, c.pop.new.self.ok)) c.pop-in-Some-2.ensures refl
    (rw c.args.self.now.by_tx.ok.0 at c.pop-in-Some.ensures.rest)
    (λ first. rw (c.as_slice.ensures ∙ ap (λ (t : Transaction). t.inputs) c.tx.view_is) at c.take_back.ensures first)
