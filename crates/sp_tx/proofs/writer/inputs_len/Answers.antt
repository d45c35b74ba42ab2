use Rattle.std.proofs.Common.{◌≤◌, length, ap, subst, sym, arith}
use Rattle.std.proofs.lemmas.List.Elements.{All-get_or}
use Rattle.sp_tx.specs.Spelling.{input_text}
use Rattle.sp_tx.specs.declared.parts.Input.{Input}
use Rattle.sp_tx.proofs.Lengths.{length-input_text, length-next}
use Rattle.sp_tx.proofs.writer.inputs_len.Goals as goal

pub inputs-preserved : goal.inputs-preserved
inputs-preserved c =
    let input : Input = c.input-item.result in
    let size = ap length c.as_slice.ensures in
    let short : length input.preimage ≤ 64 = subst (λ (x : Input). length x.preimage ≤ 64) (sym c.input-item.is) (All-get_or (λ (x : Input). length x.preimage ≤ 64) c.args.inputs.now c.inputs.input-index input c.inputs-test.true c.requires.short) in
    record {
      len = omega (arith, c.inputs.invariant.len, size, length-input_text input, length-next input_text c.args.inputs.now c.inputs.input-index input c.inputs-test.true c.input-item.is);
      bound = omega (arith, c.inputs.invariant.bound, size, short);
    }
