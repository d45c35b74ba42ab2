-- Two lists of arrivals that bring the same valid blocks, in whatever order and however often.
use Rattle.std.specs.Prelude.{ℕ, ◌≡◌, ◌≤◌, Contains, List, ◌∷◌, length, Ok}
use Rattle.sp_block.specs.Block.{ReadBlock}
use Rattle.sp_pool.specs.Kept.{AreApart}
use Rattle.sp_engine.specs.Arrivals.{valid_in}

-- The valid blocks among the arrivals are these and no others, each of them once or more. Bytes that aren't a valid
-- block may stand anywhere between them
pub record HaveArrived (bits : ℕ) (arrivals : List (List ℕ)) (blocks : List ReadBlock) : Type 0 where
  pub all : (block : ReadBlock) → Contains blocks block → (bytes : List ℕ) × Contains arrivals bytes × (valid_in bits bytes ≡ Ok block)
  pub only : (bytes : List ℕ) (block : ReadBlock) → Contains arrivals bytes → valid_in bits bytes ≡ Ok block → Contains blocks block

-- The same valid blocks have arrived in both lists. With genesis they are at most 512, so that there is room for all,
-- and no two of them have one id
pub record AreSameArrivals (bits : ℕ) (genesis : ReadBlock) (arrivals others : List (List ℕ)) : Type 0 where
  pub blocks : List ReadBlock
  pub few : length (genesis ∷ blocks) ≤ 512
  pub apart : AreApart (genesis ∷ blocks)
  pub first : HaveArrived bits arrivals blocks
  pub second : HaveArrived bits others blocks
