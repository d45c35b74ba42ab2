use Rattle.std.proofs.Common.{ℕ, ◌<◌, ◌≡◌}
use Rattle.sp_ids.specs.Bits.{bit_at}
use Rattle.sp_ids.proofs.bytes.begins_with_zeros.Given as goal

abbrev pub invariant-loop-place : goal.invariant-loop-place
invariant-loop-place l = (before : ℕ) → before < l.place → bit_at l.bytes before ≡ 0
