-- Which calls fail.
use Rattle.std.specs.Prelude.{ℕ, ◌≤◌, Contains}
use Rattle.sp_io.specs.declared.fails.Fails.{Fails}
use Rattle.sp_io.specs.declared.fails.Fails.TheVariants.{Never, At, From}

-- the call of this number fails
abbrev pub FailsAt : Fails → ℕ → Type 0
FailsAt Never call = ⊥
FailsAt (At calls) call = Contains calls call
FailsAt (From first) call = first ≤ call
