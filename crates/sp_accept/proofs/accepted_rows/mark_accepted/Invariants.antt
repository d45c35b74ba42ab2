use Rattle.std.proofs.Common.{take}
use Rattle.std.specs.List.{list_any}
use Rattle.sp_carry.specs.RivalBlocks.{IsMarkedBy}
use Rattle.sp_accept.specs.AcceptedRows.{is_accepted_in}
use Rattle.sp_accept.proofs.accepted_rows.mark_accepted.Given as goal

abbrev pub invariant-carriers : goal.invariant-carriers
invariant-carriers l = IsMarkedBy (λ z. list_any (λ c. is_accepted_in l.carriers l.flags c z) (take l.c-index l.list)) l.initial.into l.into
