-- Blocks that are numbered in order of presence: their graph, and the unrelated pairs.
use Rattle.std.specs.Prelude.{ℕ, ◌+◌, ◌<◌, ◌≤◌, ◌≡◌, true, false, not, nat_eq, List, [], ◌∷◌, ◌++◌, length, map, filter, position, unwrap_or, slice_index_or, take}
use Rattle.std.specs.List.{flat_map, range_with_len}
use Rattle.sp_model.specs.declared.profile.Profile.{Profile}
use Rattle.sp_model.specs.Graph.{Graph, Block, Rank, AreDistinct, has, related}

-- present blocks by number, in a profile: the id and the salt of each, and the numbers of its parents
pub record Numbered : Type 0 where
  pub profile : Profile
  pub ids : List ℕ
  pub salts : List ℕ
  pub parents : List (List ℕ)

-- the rank of a number: the salt and the id of its block
abbrev pub rank_at : Numbered → ℕ → Rank
rank_at blocks number =
    record { salt = slice_index_or blocks.salts number 0; id = slice_index_or blocks.ids number 0 }

-- blocks with these parents, whose keys are the numbers from one on, with the rank of each
abbrev pub blocks_from : (ℕ → Rank) → ℕ → List (List ℕ) → List Block
blocks_from rank number [] = []
blocks_from rank number (parents ∷ rest) =
    record { key = number; parents = parents; rank = rank number } ∷ blocks_from rank (number + 1) rest

-- their graph, in which a block's key is its number
abbrev pub graph_of : Numbered → Graph
graph_of blocks = record { profile = blocks.profile; blocks = blocks_from (rank_at blocks) 0 blocks.parents }

-- each parent of a block stands before it
abbrev pub AreInOrder : List (List ℕ) → Type 0
AreInOrder table = (z p : ℕ) → has (slice_index_or table z []) p ≡ true → p < z

-- from 1 to 512 blocks, no id twice; each parent stands before the block, and block 0, genesis, is
-- the one without parents
pub record IsNumbered (blocks : Numbered) : Type 0 where
  pub some : 0 < length blocks.parents
  pub small : length blocks.parents ≤ 512
  pub long : length blocks.ids ≡ length blocks.parents
  pub salts_long : length blocks.salts ≡ length blocks.parents
  pub distinct : AreDistinct blocks.ids
  pub order : AreInOrder blocks.parents
  pub genesis : slice_index_or blocks.parents 0 [] ≡ []
  pub rooted : (z : ℕ) → 0 < z → z < length blocks.parents → 0 < length (slice_index_or blocks.parents z [])

-- the number of an id, 0 where it isn't there
abbrev pub number_of : List ℕ → ℕ → ℕ
number_of ids id = unwrap_or (position (nat_eq id) ids) 0

-- the blocks with a next one, which has this id and salt, and parents of these numbers
abbrev pub with_next : Numbered → ℕ → ℕ → List ℕ → Numbered
with_next blocks id salt parents = record {
  profile = blocks.profile;
  ids = blocks.ids ++ id ∷ [];
  salts = blocks.salts ++ salt ∷ [];
  parents = blocks.parents ++ parents ∷ [];
}

-- the same, where the parents are told by their ids
abbrev pub with_block : Numbered → ℕ → ℕ → List ℕ → Numbered
with_block blocks id salt parents = with_next blocks id salt (map (number_of blocks.ids) parents)

-- the first n blocks
abbrev pub cut_to : Numbered → ℕ → Numbered
cut_to blocks n = record {
  profile = blocks.profile;
  ids = take n blocks.ids;
  salts = take n blocks.salts;
  parents = take n blocks.parents;
}

-- the numbers below y of blocks that are unrelated to y
abbrev pub unrelated_below : Graph → ℕ → List ℕ
unrelated_below graph y = filter (λ x. not (related graph x y)) (range_with_len 0 y)

-- the unrelated pairs of numbers below n, lower number first, by higher number, then by lower
abbrev pub pairs_below : Graph → ℕ → List (ℕ × ℕ)
pairs_below graph n = flat_map (λ y. map (λ x. (x, y)) (unrelated_below graph y)) (range_with_len 0 n)

-- the unrelated pairs of all blocks
abbrev pub pairs_of : Numbered → List (ℕ × ℕ)
pairs_of blocks = pairs_below (graph_of blocks) (length blocks.parents)

-- two numbers of unrelated blocks, the lower one first
pub record IsPair (blocks : Numbered) (pair : ℕ × ℕ) : Type 0 where
  pub order : pair.0 < pair.1
  pub within : pair.1 < length blocks.parents
  pub unrelated : related (graph_of blocks) pair.0 pair.1 ≡ false
