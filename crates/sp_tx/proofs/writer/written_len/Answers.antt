use Rattle.std.proofs.Common.{List, ap, length, ◌∙◌, arith}
use Rattle.std.specs.List.{flat_map}
use Rattle.sp_tx.specs.Parts.{Transaction}
use Rattle.sp_tx.specs.Spelling.{input_text}
use Rattle.sp_tx.specs.declared.parts.Input.{Input}
use Rattle.sp_tx.specs.declared.parts.Output.{Output}
use Rattle.sp_tx.proofs.Lengths.{length-spelling}
use Rattle.sp_tx.proofs.Whole.{preimages_fit}
use Rattle.sp_tx.proofs.writer.written_len.Goals as goal

pub inputs_len-requires-clause-short : goal.inputs_len-requires-clause-short
inputs_len-requires-clause-short c = rw c.as_slice.ensures (preimages_fit c.tx.inside.inputs c.tx.invariant.inputs)

pub returns-clause-len : goal.returns-clause-len
returns-clause-len c =
    let t : Transaction = c.args.tx.now in
    let inputs = ap (λ (l : List Input). length (flat_map input_text l)) (c.as_slice.ensures ∙ ap (λ (u : Transaction). u.inputs) c.tx.view_is) in
    let outputs = ap (λ (l : List Output). length l) (c.as_slice-2.ensures ∙ ap (λ (u : Transaction). u.outputs) c.tx.view_is) in
    omega (arith, length-spelling t, inputs, outputs, c.inputs_len.ensures.len)
