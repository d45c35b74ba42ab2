-- What a pool keeps: an invariant, which no public contract cites.
use Rattle.sp_pool.specs.Kept.{AreKept, present}
use Rattle.sp_pool.specs.Marks.{Marked, Marks}

-- its blocks, of which the present ones are marked
pub record IsPool (entries : Marked) : Type 0 where
  pub kept : AreKept entries.blocks
  pub marks : Marks entries (present entries.blocks)
