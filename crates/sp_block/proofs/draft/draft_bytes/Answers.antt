use Rattle.std.proofs.Common.{subst, sym}
use Rattle.sp_block.specs.Draft.{drafted}
use Rattle.sp_block.specs.Spelling.{SpellsBlock}
use Rattle.sp_block.proofs.Whole.{IfOk-to, parts_spelled}
use Rattle.sp_block.proofs.draft.draft_bytes.Goals as goal

pub returns-clause-spells : goal.returns-clause-spells
returns-clause-spells c = λ genesis h.
    let parts = drafted c.args.draft.now c.args.nonce in
    IfOk-to _ _ c.bytes_of_draft.result (λ out e. subst (λ l. SpellsBlock l genesis parts) (sym e) (parts_spelled genesis parts h)) c.bytes_of_draft.ensures
