-- The order in which kept blocks become present, given the order in which they arrived.
use Rattle.std.specs.Prelude.{ℕ, zero, suc, List, [], ◌∷◌, ◌++◌, length, find, Option, Some, None}
use Rattle.sp_block.specs.Block.{ReadBlock}
use Rattle.sp_pool.specs.Kept.{is_ready}

-- the block that is ready joins, and then more; none is ready
abbrev pub joins_then : Option ReadBlock → (ℕ → List ℕ) → List ℕ
joins_then None more = []
joins_then (Some block) more = block.id ∷ more block.id

-- the ids that join the set one by one, each that of the earliest kept block that isn't in it while all its
-- parents are; at most so many
unfoldable pub joining : ℕ → List ReadBlock → List ℕ → List ℕ
joining zero kept set = []
joining (suc n) kept set = joins_then (find (is_ready set) kept) (λ id. joining n kept (set ++ id ∷ []))

-- the present blocks after some more blocks arrive, each with the ones that it makes present
unfoldable pub order_from : List ReadBlock → List ℕ → List ReadBlock → List ℕ
order_from kept set [] = set
order_from kept set (block ∷ more) =
    let now = kept ++ block ∷ [] in order_from now (set ++ joining (length now) now set) more

-- the ids of the present blocks in the order in which they became so
abbrev pub order_of : List ReadBlock → List ℕ
order_of kept = order_from [] [] kept
