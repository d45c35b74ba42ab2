use Rattle.std.proofs.Common.{◌≡◌, ◌≤◌, ◌*◌, ◌^◌, take}
use Rattle.std.specs.Prelude.{sum_by}
use Rattle.sp_tx.specs.declared.parts.Output.{Output}
use Rattle.sp_carry.proofs.worth.paid.Given as goal

abbrev pub invariant-outputs : goal.invariant-outputs
invariant-outputs l =
    (l.worth ≡ sum_by (λ (o : Output). o.amount) (take l.output-index l.outputs)) × (l.worth ≤ l.output-index * 2 ^ 64)
