use Rattle.std.proofs.Common.{◌≡◌, ◌≤◌, ◌*◌, length, take}
use Rattle.std.specs.List.{flat_map}
use Rattle.sp_tx.specs.Spelling.{input_text}
use Rattle.sp_tx.proofs.writer.inputs_len.Given as goal

abbrev pub invariant-inputs : goal.invariant-inputs
invariant-inputs l = record {
  len : l.len ≡ length (flat_map input_text (take l.input-index l.inputs));
  bound : l.len ≤ 98 * l.input-index;
}
