-- What the pool answers to the blocks that are offered.
use Rattle.std.specs.Prelude.{◌≡◌, IsTrue, IsFalse, ℕ, List, [], ◌∷◌, ◌++◌}
use Rattle.std.specs.List.{flat_map}
use Rattle.sp_block.specs.Block.{ReadBlock}
use Rattle.sp_model.specs.Graph.{has}
use Rattle.sp_pool.specs.Kept.{keep, present, Releases, standing_of}
use Rattle.sp_pool.specs.declared.answers.Offer.{Offer}
use Rattle.sp_pool.specs.declared.answers.Offer.TheVariants.{Known, Full, Waiting, Present}
use Rattle.sp_pool.specs.declared.answers.Standing.TheVariants.{Known as KnownId, Full as FullPool, Fresh}

-- the block joins the kept ones and isn't present: an ancestor isn't
pub record Waits (kept : List ReadBlock) (block : ReadBlock) : Type 0 where
  pub standing : standing_of kept block.id ≡ Fresh
  pub absent : IsFalse (has (present (kept ++ block ∷ [])) block.id)

-- the block joins the kept ones and is present, and these blocks became so, in their order
pub record Joins (kept : List ReadBlock) (block : ReadBlock) (ids : List ℕ) : Type 0 where
  pub standing : standing_of kept block.id ≡ Fresh
  pub here : IsTrue (has (present (kept ++ block ∷ [])) block.id)
  pub order : Releases (kept ++ block ∷ []) (present kept) ids

-- the answer to a block that arrives when these are kept
abbrev pub IsAnswer : List ReadBlock → ReadBlock → Offer → Type 0
IsAnswer kept block Known = standing_of kept block.id ≡ KnownId
IsAnswer kept block Full = standing_of kept block.id ≡ FullPool
IsAnswer kept block Waiting = Waits kept block
IsAnswer kept block (Present ids) = Joins kept block ids

-- the answers to blocks that arrive one after another
abbrev pub AreAnswers : List ReadBlock → List ReadBlock → List Offer → Type 0
AreAnswers kept [] [] = Unit {0}
AreAnswers kept [] (answer ∷ answers) = ⊥
AreAnswers kept (block ∷ arrivals) [] = ⊥
AreAnswers kept (block ∷ arrivals) (answer ∷ answers) = IsAnswer kept block answer × AreAnswers (keep kept block) arrivals answers

-- the ids of the blocks that became present
abbrev pub released_by : Offer → List ℕ
released_by Known = []
released_by Full = []
released_by Waiting = []
released_by (Present ids) = ids

-- the ids of all present blocks in the order in which they became so
abbrev pub order_of_presence : ReadBlock → List Offer → List ℕ
order_of_presence genesis answers = genesis.id ∷ flat_map released_by answers
