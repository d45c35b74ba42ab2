use Rattle.std.proofs.Common.{take, ℕ, List}
use Rattle.sp_ids.specs.declared.outpoint.Outpoint.{Outpoint}
use Rattle.sp_carry.specs.Lookups.{IsForgotten}
use Rattle.sp_carry.proofs.spenders.forget_all.Given as goal

abbrev pub invariant-inputs : goal.invariant-inputs
invariant-inputs l = (first : Outpoint → List ℕ) → IsForgotten first l.initial.lists l.lists (take l.input-index l.inputs) l.number
