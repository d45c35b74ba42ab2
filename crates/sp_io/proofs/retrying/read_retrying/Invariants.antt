use Rattle.std.proofs.Common.{◌≡◌, length}
use Rattle.std.specs.Io.KnownBytes.{Keeps}
use Rattle.sp_io.proofs.retrying.read_retrying.Given as goal

abbrev pub invariant-tries : goal.invariant-tries
invariant-tries g l = (length l.out ≡ length l.fn.out) × Keeps (g.R.Read.remaining l.fn.reader) (g.R.Read.remaining l.reader)
