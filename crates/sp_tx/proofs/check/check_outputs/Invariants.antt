use Rattle.std.proofs.Common.{ℕ, ◌<◌, ◌^◌, List, drop}
use Rattle.sp_tx.specs.declared.parts.Output.{Output}
use Rattle.sp_tx.specs.Format.{output_form, sum_so_far}
use Rattle.sp_tx.specs.Spelling.{IsOutput, output_text}
use Rattle.sp_form.proofs.Breaks.{Decides}
use Rattle.sp_tx.proofs.check.check_outputs.Given as goal

pub record Goes (outputs : List Output) (index sum : ℕ) : Type 0 where
  pub fits : sum < 2 ^ 63
  pub left : Decides output_form sum_so_far output_text IsOutput outputs 0 (drop index outputs) sum

abbrev pub invariant-outputs : goal.invariant-outputs
invariant-outputs l = Goes l.outputs l.output-index l.sum
