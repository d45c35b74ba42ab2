use Rattle.std.proofs.Common.{◌≡◌, ◌-◌}
use Rattle.std.specs.Prelude.{filter}
use Rattle.std.specs.List.{range_with_len}
use Rattle.sp_carry.specs.Flags.{is_set}
use Rattle.sp_accept.proofs.touched.numbers_of.Given as goal

abbrev pub invariant-numbers : goal.invariant-numbers
invariant-numbers l = l.list.items ≡ filter (λ tx. is_set l.noted (tx - l.first)) (range_with_len l.first (l.number - l.first))
