use Rattle.std.proofs.Common.{◌≡◌, false, take}
use Rattle.std.specs.List.{list_any}
use Rattle.sp_carry.specs.Flags.{is_set}
use Rattle.sp_accept.proofs.pass.is_any_accepted.Given as goal

abbrev pub invariant-carriers : goal.invariant-carriers
invariant-carriers l = list_any (is_set l.flags) (take l.c-index l.of_tx) ≡ false
