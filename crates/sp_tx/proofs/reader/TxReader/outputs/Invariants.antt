use Rattle.std.proofs.Common.{ℕ, ◌≡◌, ◌-◌, ◌<◌, ◌^◌, List}
use Rattle.sp_tx.specs.declared.parts.Output.{Output}
use Rattle.sp_tx.specs.Format.{output_form, sum_so_far, outputs_form}
use Rattle.sp_form.specs.Form.{rows}
use Rattle.sp_form.specs.Reading.{read}
use Rattle.sp_form.proofs.Rows.{with_front}
use Rattle.sp_tx.proofs.reader.TxReader.outputs.Given as goal

pub record Reads (front : List Output) (count counter sum : ℕ) (now whole : List ℕ) : Type 0 where
  pub fits : sum < 2 ^ 63
  pub read : with_front front (read (rows output_form sum_so_far (count - counter) sum) now) ≡ read (outputs_form count) whole

abbrev pub invariant-outputs : goal.invariant-outputs
invariant-outputs l = Reads l.outputs.items l.count l.counter l.sum l.self l.fn.self
