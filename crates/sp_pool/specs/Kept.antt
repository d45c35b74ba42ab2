-- Which blocks are kept, which of them are present, and in what order they become so.
use Rattle.std.specs.Prelude.{ℕ, ◌≡◌, ◌≤◌, ◌&&◌, All, not, nat_lt, Bool, List, [], ◌∷◌, ◌++◌, map, fold, find, length, if◌then◌else◌, Some, None}
use Rattle.std.specs.List.{list_all}
use Rattle.sp_block.specs.Block.{IsBlock, IsGenesis, IsOther, ReadBlock}
use Rattle.sp_model.specs.declared.profile.Profile.{Profile}
use Rattle.sp_model.specs.declared.profile.Profile.TheVariants.{One}
use Rattle.sp_model.specs.Graph.{AreDistinct, Block as Node, complete, Graph, has, Rank}
use Rattle.sp_pool.specs.declared.answers.Standing.{Standing}
use Rattle.sp_pool.specs.declared.answers.Standing.TheVariants.{Known, Full, Fresh}

abbrev pub ids_of : List ReadBlock → List ℕ
ids_of blocks = map (λ (b : ReadBlock). b.id) blocks

-- an id is known where a kept block has it; else there is no room where 512 blocks are kept
abbrev pub standing_of : List ReadBlock → ℕ → Standing
standing_of kept id =
    if has (ids_of kept) id then Known else (if nat_lt (length kept) 512 then Fresh else Full)

abbrev pub kept_by : Standing → List ReadBlock → ReadBlock → List ReadBlock
kept_by Known kept block = kept
kept_by Full kept block = kept
kept_by Fresh kept block = kept ++ block ∷ []

-- the kept blocks after one more block arrives
abbrev pub keep : List ReadBlock → ReadBlock → List ReadBlock
keep kept block = kept_by (standing_of kept block.id) kept block

-- the kept blocks after these arrive, one after another
abbrev pub keep_all : List ReadBlock → List ReadBlock → List ReadBlock
keep_all kept arrivals = fold keep kept arrivals

-- genesis, and each arrival whose id is none of those before it, until 512 blocks stand
abbrev pub kept_of : ReadBlock → List ReadBlock → List ReadBlock
kept_of genesis arrivals = keep_all (genesis ∷ []) arrivals

-- each block whose id is none of these and none of those before it
abbrev pub firsts : List ℕ → List ReadBlock → List ReadBlock
firsts ids [] = []
firsts ids (block ∷ blocks) =
    if has ids block.id then firsts ids blocks else (block ∷ firsts (ids ++ block.id ∷ []) blocks)

-- no two blocks have the same id
abbrev pub AreApart : List ReadBlock → Type 0
AreApart blocks = AreDistinct (ids_of blocks)

-- genesis and then other blocks, no two of one id, 512 of them at most
pub record AreKept (kept : List ReadBlock) : Type 0 where
  pub genesis : ReadBlock
  pub others : List ReadBlock
  pub first : kept ≡ genesis ∷ others
  pub is_genesis : IsGenesis genesis
  pub are_other : All IsOther others
  pub are_blocks : All IsBlock kept
  pub apart : AreApart kept
  pub few : length kept ≤ 512

-- a block's rank
abbrev pub rank_in : ReadBlock → Rank
rank_in block = record { salt = block.salt; id = block.id }

abbrev pub node_of : ReadBlock → Node
node_of block = record { key = block.id; parents = block.parents; rank = rank_in block }

-- the graph of the kept blocks in a profile
abbrev pub graph_in : Profile → List ReadBlock → Graph
graph_in profile kept = record { profile = profile; blocks = map node_of kept }

-- the same in profile 1; pasts, and which blocks are complete, don't depend on the profile
abbrev pub graph_of : List ReadBlock → Graph
graph_of kept = graph_in One kept

-- the ids of the kept blocks whose ancestors are all kept and lead to genesis
abbrev pub present : List ReadBlock → List ℕ
present kept = complete (graph_of kept)

-- whether a block isn't in the set while all its parents are
abbrev pub is_ready : List ℕ → ReadBlock → Bool
is_ready set block = not (has set block.id) && list_all (has set) block.parents

-- this is the id of the earliest kept block that is ready
pub record IsNext (kept : List ReadBlock) (set : List ℕ) (id : ℕ) : Type 0 where
  pub block : ReadBlock
  pub earliest : find (is_ready set) kept ≡ Some block
  pub same : block.id ≡ id

-- the ids join the set one by one, each of them the next one then, until no kept block is ready
unfoldable pub Releases : List ReadBlock → List ℕ → List ℕ → Type 0
Releases kept set [] = find (is_ready set) kept ≡ None
Releases kept set (id ∷ ids) = IsNext kept set id × Releases kept (set ++ id ∷ []) ids
