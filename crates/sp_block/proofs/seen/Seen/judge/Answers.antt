use Rattle.std.proofs.Common.{ap, sym, ◌∙◌}
use Rattle.sp_tx.specs.Parts.{Transaction}
use Rattle.sp_block.proofs.Sets.{breaks_none, breaks_outpoint}
use Rattle.sp_block.proofs.seen.Seen.judge.Goals as goal

pub returns-then-is_spent : goal.returns-then-is_spent
returns-then-is_spent c = λ earlier saw.
    let inputs = c.as_slice.ensures ∙ ap (λ (t : Transaction). t.inputs) c.tx.view_is in
    breaks_outpoint c.args.genesis c.args.self.now earlier c.args.tx.now saw (sym c.fits_kind.ensures ∙ c.if-not-fits_kind.false) (rw c.requires at (sym c.contains.ensures ∙ c.if-contains.false)) (rw inputs at (sym c.is_spent.ensures ∙ c.if-is_spent.true))

pub returns : goal.returns
returns c = λ earlier saw.
    let inputs = c.as_slice.ensures ∙ ap (λ (t : Transaction). t.inputs) c.tx.view_is in
    breaks_none c.args.genesis c.args.self.now earlier c.args.tx.now saw (sym c.fits_kind.ensures ∙ c.if-not-fits_kind.false) (rw c.requires at (sym c.contains.ensures ∙ c.if-contains.false)) (rw inputs at (sym c.is_spent.ensures ∙ c.if-is_spent.false))
