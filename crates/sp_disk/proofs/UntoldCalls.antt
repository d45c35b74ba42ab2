-- Whatever a call does to a disk that tells nothing, it does what the trait says.
use Rattle.std.proofs.Common.{inl, ℕ, List, Result, Ok, Err, refl, arith}
use Rattle.sp_disk.specs.Moments.{Elapses, Looks, Syncs, Writes}
use Rattle.sp_disk.specs.Untold.{untold}
use Rattle.sp_disk.proofs.Partly.{unchanged}

untold_elapses : (old new : ℕ) → Elapses (untold old) (untold new)
untold_elapses old new = record {
  later = omega arith;
  since = λ t le image left. inl left;
  keeps = λ t le image left. left;
  ebbs = record {
    later = omega arith;
    past = λ t le. (λ image left. left, λ image left. left);
    falls = λ t u from le until image left. left;
  };
}

pub untold_looks : (old new : ℕ) → Looks (untold old) (untold new)
untold_looks old new = record { reads = refl; crash = λ image left. left; within = λ t from until image left. left; time = untold_elapses old new }

pub untold_syncs : {T E : Type 0} (old new : ℕ) (result : Result T E) → Syncs (untold old) (untold new) result
untold_syncs old new (Ok x) = record { ok = tt; looks = untold_looks old new }
untold_syncs old new (Err e) = record { ok = tt; looks = untold_looks old new }

pub untold_writes : {T E : Type 0} (old new at : ℕ) (bytes : List ℕ) (result : Result T E) → Writes at bytes (untold old) (untold new) result
untold_writes old new at bytes (Ok x) = record { ok = refl; err = tt; crash = λ image left. (image, left, unchanged at _ image); time = untold_elapses old new }
untold_writes old new at bytes (Err e) = record { ok = tt; err = refl; crash = λ image left. (image, left, unchanged at _ image); time = untold_elapses old new }
