-- What a table of blocks keeps: an invariant, which no public contract cites.
use Rattle.std.specs.Prelude.{◌≡◌, nat_eq, length}
use Rattle.std.specs.List.{IsDistinct}
use Rattle.indexmap.specs.IndexMap.{keys, values}
use Rattle.sp_pool.specs.Kept.{ids_of}
use Rattle.sp_pool.specs.declared.entries.Entries.TheInside.{Inside}

-- each key is its block's id, no two are the same, and each block has a mark and a count
pub record AreKeyed (e : Inside) : Type 0 where
  pub keyed : keys e.blocks ≡ ids_of (values e.blocks)
  pub apart : IsDistinct nat_eq (keys e.blocks)
  pub marks : length e.marks.items ≡ length (values e.blocks)
  pub seen : length e.seen.items ≡ length (values e.blocks)
