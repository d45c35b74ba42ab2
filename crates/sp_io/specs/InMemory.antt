-- What contracts see of the objects in memory.
use Rattle.std.specs.Prelude.{ℕ, List}
use Rattle.sp_io.specs.declared.fails.Fails.{Fails}

-- a source: the bytes still to come, the most that a call gives, which calls fail,
-- how many calls came, and how many of them failed
pub record Giving : Type 0 where
  pub left : List ℕ
  pub step : ℕ
  pub fails : Fails
  pub calls : ℕ
  pub faults : ℕ

-- a sink: the bytes taken so far, the most that it takes in all, and in a call, which calls fail,
-- how many calls came, and how many of them failed
pub record Taking : Type 0 where
  pub taken : List ℕ
  pub capacity : ℕ
  pub step : ℕ
  pub fails : Fails
  pub calls : ℕ
  pub faults : ℕ
