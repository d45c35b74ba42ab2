use Rattle.std.proofs.Common.{◌≡◌, ◌<◌, ◌≤◌, ℕ, false, true}
use Rattle.sp_model.specs.Graph.{has}
use Rattle.sp_carry.specs.RivalBlocks.{rival_blocks}
use Rattle.sp_accept.specs.Rows.{row_at}
use Rattle.sp_accept.specs.Witness.{holds}
use Rattle.sp_accept.proofs.rival_blocks.rivals_of.Given as goal

abbrev pub invariant-carriers : goal.invariant-carriers
invariant-carriers l =
    (d w : ℕ) → l.from ≤ d → d < l.c → holds l.witness (rival_blocks l.carriers (row_at l.carriers.rows d).tx) ≡ false
    → has (rival_blocks l.carriers (row_at l.carriers.rows d).tx) w ≡ true → has l.rivals w ≡ true
