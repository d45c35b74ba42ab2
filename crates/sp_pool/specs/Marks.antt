-- Blocks in order of arrival, some of them marked, and what the marks stand for. Contracts of private functions
-- alone cite them.
use Rattle.std.specs.Prelude.{ℕ, ◌≡◌, Bool, true, false, List, [], ◌∷◌, ◌++◌, length, map, replicate, take}
use Rattle.std.specs.List.{list_all}
use Rattle.sp_block.specs.Block.{ReadBlock}
use Rattle.sp_model.specs.Graph.{has}
use Rattle.sp_pool.specs.Kept.{ids_of}

-- blocks, whether each is marked, and how many of its parents were seen to be, from the first
pub record Marked : Type 0 where
  pub blocks : List ReadBlock
  pub marks : List Bool
  pub seen : List ℕ

abbrev pub marked : List ReadBlock → List Bool → List ℕ → Marked
marked blocks marks seen = record { blocks = blocks; marks = marks; seen = seen }

-- blocks without marks, of whose parents none was seen
abbrev pub unmarked : List ReadBlock → Marked
unmarked blocks = marked blocks (replicate (length blocks) false) (replicate (length blocks) 0)

-- one block more, without a mark
abbrev pub with_unmarked : Marked → ReadBlock → Marked
with_unmarked m block = marked (m.blocks ++ block ∷ []) (m.marks ++ false ∷ []) (m.seen ++ 0 ∷ [])

-- of each block's parents, so many from the first are in the set
abbrev pub AreSeen : List ℕ → List ReadBlock → List ℕ → Type 0
AreSeen set [] [] = Unit {0}
AreSeen set [] (count ∷ counts) = ⊥
AreSeen set (block ∷ blocks) [] = ⊥
AreSeen set (block ∷ blocks) (count ∷ counts) = (list_all (has set) (take count block.parents) ≡ true) × AreSeen set blocks counts

-- the marked blocks are those of the set, which holds no other ids
pub record Marks (m : Marked) (set : List ℕ) : Type 0 where
  pub same : m.marks ≡ map (has set) (ids_of m.blocks)
  pub within : (id : ℕ) → has set id ≡ true → has (ids_of m.blocks) id ≡ true
  pub seen : AreSeen set m.blocks m.seen

-- only what was seen of the parents has changed, and it stands for the same sets
pub record Looked (before after : Marked) : Type 0 where
  pub blocks : after.blocks ≡ before.blocks
  pub marks : after.marks ≡ before.marks
  pub stands : (set : List ℕ) → Marks before set → Marks after set
