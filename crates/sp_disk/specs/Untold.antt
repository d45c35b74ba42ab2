-- A disk that tells nothing of what it holds.
use Rattle.std.proofs.Common.{ℕ, None, arith}
use Rattle.sp_form.specs.Bytes.{IsBytes}
use Rattle.sp_disk.specs.Moments.{IsMoment, Moment}

abbrev pub untold : ℕ → Moment
untold faults = record {
  reads = None;
  images = IsBytes;
  clock = 0;
  at = λ t. IsBytes;
  since = λ t. IsBytes;
  faults = faults;
}

pub untold_is_moment : (faults : ℕ) → IsMoment (untold faults)
untold_is_moment faults = record {
  bytes = λ image left. left;
  reads = tt;
  counts = λ t image le left. left;
  only = λ image left. left;
  some = λ t le image left. (t, omega arith, le, left);
  all = λ t u from until image left. left;
}
