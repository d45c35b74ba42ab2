use Rattle.std.proofs.Common.{◌++◌, List, map, take}
use Rattle.sp_ids.specs.declared.outpoint.Outpoint.{Outpoint}
use Rattle.sp_tx.specs.declared.parts.Input.{Input}
use Rattle.sp_block.specs.Seen.{HasOutpoints}
use Rattle.sp_block.proofs.seen.add_outpoints.Given as goal

abbrev pub invariant-inputs : goal.invariant-inputs
invariant-inputs l = (spent : List Outpoint) → HasOutpoints l.fn.outpoints spent → HasOutpoints l.outpoints (spent ++ map (λ (input : Input). input.from) (take l.input-index l.inputs))
