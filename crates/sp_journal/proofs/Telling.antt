-- A disk that tells what it holds goes on to tell it.
use Rattle.std.proofs.Common.{ℕ, List, Option, Some, None, Result, Ok, Err, refl, sym, subst}
use Rattle.std.specs.Prelude.{◌↔◌, IsSome}
use Rattle.sp_disk.specs.Moments.{Looks, Moment, Reads, Writes}
use Rattle.sp_journal.specs.Settled.{SameTold}

reads_told : (step : List ℕ → List ℕ → Type 0) (old new : Option (List ℕ)) → Reads step old new → IsSome old ↔ IsSome new
reads_told step None new e = ((λ s. absurd cc), (λ s. subst IsSome e s))
reads_told step (Some b) new r = ((λ s. subst IsSome (sym r.1) refl), (λ s. refl))

pub writes_told : {T E : Type 0} (at : ℕ) (bytes : List ℕ) (old new : Moment) (result : Result T E) → Writes at bytes old new result → SameTold old new
writes_told at bytes old new (Ok x) w = reads_told _ old.reads new.reads w.ok
writes_told at bytes old new (Err e) w = reads_told _ old.reads new.reads w.err

pub looks_told : (old new : Moment) → Looks old new → SameTold old new
looks_told old new l = ((λ s. subst IsSome (sym l.reads) s), (λ s. subst IsSome l.reads s))

pub told_then : (old mid new : Moment) → SameTold old mid → SameTold mid new → SameTold old new
told_then old mid new first second = ((λ s. second.0 (first.0 s)), (λ s. first.1 (second.1 s)))

pub same_told : (m : Moment) → SameTold m m
same_told m = ((λ s. s), (λ s. s))
