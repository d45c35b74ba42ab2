use Rattle.std.proofs.Common.{List, length, ap, arith}
use Rattle.std.specs.List.{flat_map}
use Rattle.sp_tx.specs.Parts.{Transaction}
use Rattle.sp_tx.specs.Spelling.{spelling}
use Rattle.sp_block.proofs.DraftLengths.{length-draft_text}
use Rattle.sp_block.proofs.draft.draft_len.Goals as goal

pub returns : goal.returns
returns c = λ nonce.
    let parents = ap length c.as_slice.ensures in
    let txs = ap (λ (l : List Transaction). length (flat_map spelling l)) c.as_slice-2.ensures in
    omega (arith, length-draft_text c.args.draft.now nonce, parents, txs, c.txs_len.ensures.len)
