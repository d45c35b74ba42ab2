-- What a test's ledger holds at all times.
use Rattle.std.specs.Prelude.{ℕ, ◌≡◌, ◌≤◌, length}
use Rattle.sp_dag.specs.Numbered.{AreInOrder, Numbered}
use Rattle.sp_carry.specs.Carried.{AreSound, Carried, IsCarried}
use Rattle.sp_accept.specs.Acceptance.{Acceptance, IsRight}

-- The carriers are those of the first blocks of the graph of these, and what is accepted is right for so many of
-- these blocks
pub record IsDecided (table : Numbered) (k : Carried) (a : Acceptance) (blocks : ℕ) : Type 0 where
  pub order : AreInOrder table.parents
  pub wide : k.blocks ≤ length table.parents
  pub carried : IsCarried k
  pub sound : AreSound table k
  pub right : IsRight table k a
  pub last : a.blocks ≡ blocks
