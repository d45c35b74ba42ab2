use Rattle.std.proofs.Common.{◌≡◌, false, take}
use Rattle.std.specs.List.{list_any}
use Rattle.sp_accept.specs.AcceptedRows.{is_other_outside, AreAccepted}
use Rattle.sp_accept.proofs.safe_blocks.is_spent_outside.Given as goal

abbrev pub invariant-spenders : goal.invariant-spenders
invariant-spenders l = record {
  kept : AreAccepted l.carriers l.flags l.rows.places.items l.rows.rows.items;
  none : list_any (is_other_outside l.carriers l.flags l.safe l.tx) (take l.other-index l.spenders) ≡ false;
}
