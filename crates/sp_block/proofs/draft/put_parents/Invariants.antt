use Rattle.std.proofs.Common.{◌≡◌, ◌∷◌, ◌++◌, length, take}
use Rattle.std.specs.List.{flat_map}
use Rattle.sp_ids.specs.Key.{bytes_of}
use Rattle.sp_block.proofs.draft.put_parents.Given as goal

abbrev pub invariant-parents : goal.invariant-parents
invariant-parents l = l.out.items ≡ l.fn.out.items ++ length l.parents ∷ flat_map bytes_of (take l.parent-index l.parents)
