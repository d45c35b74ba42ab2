-- How outpoints are compared: by the transaction's id, then by the index.
use Rattle.std.specs.Prelude.{Bool, ◌==◌, ◌&&◌}
use Rattle.std.specs.Ordering.{nat_cmp, ordering_then}
use Rattle.std.specs.declared.cmp.Ordering.{Ordering}
use Rattle.sp_ids.specs.declared.outpoint.Outpoint.{Outpoint}

-- Whether it is the same place of the same transaction.
abbrev pub same_outpoint : Outpoint → Outpoint → Bool
same_outpoint a b = a.tx == b.tx && a.index == b.index

-- The id decides, and the index where the ids are the same. The order of ids is that of their bytes, since an id
-- is the number of its bytes, the first one the highest.
abbrev pub outpoint_cmp : Outpoint → Outpoint → Ordering
outpoint_cmp a b = ordering_then (nat_cmp a.tx b.tx) (nat_cmp a.index b.index)
