-- Small graphs, whose pasts and votes were worked out by hand. Genesis has the key 0.
use Rattle.std.specs.Prelude.{ℕ, List, [], ◌∷◌}
use Rattle.sp_model.specs.declared.profile.Profile.TheVariants.{One, Two}
use Rattle.sp_model.specs.declared.word.Word.{Word}
use Rattle.sp_model.specs.Graph.{Graph, Block, complete}
use Rattle.sp_model.specs.Votes.{word}

-- a block with a salt, whose id is its key
abbrev pub salted : ℕ → List ℕ → ℕ → Block
salted key parents salt = record { key = key; parents = parents; rank = record { salt = salt; id = key } }

-- a block of salt 0
abbrev pub block : ℕ → List ℕ → Block
block key parents = salted key parents 0

-- what all complete blocks say of x and y
abbrev pub said : Graph → ℕ → ℕ → Word
said graph x y = word graph (complete graph) x y

-- 1 and 2 on genesis
abbrev pub two_on_genesis : Graph
two_on_genesis = record { profile = One; blocks = block 0 [] ∷ block 1 (0 ∷ []) ∷ block 2 (0 ∷ []) ∷ [] }

-- the same, and 3 on 1
abbrev pub third_on_first : Graph
third_on_first = record { profile = One; blocks = block 0 [] ∷ block 1 (0 ∷ []) ∷ block 2 (0 ∷ []) ∷ block 3 (1 ∷ []) ∷ [] }

-- the same, and 4 and 5 on 2
abbrev pub two_on_second : Graph
two_on_second =
    record {
      profile = One;
      blocks =
          block 0 []
          ∷ block 1 (0 ∷ [])
          ∷ block 2 (0 ∷ [])
          ∷ block 3 (1 ∷ [])
          ∷ block 4 (2 ∷ [])
          ∷ block 5 (2 ∷ [])
          ∷ [];
    }

-- 1 on genesis, 2 on 1
abbrev pub chain : Graph
chain = record { profile = One; blocks = block 0 [] ∷ block 1 (0 ∷ []) ∷ block 2 (1 ∷ []) ∷ [] }

-- 1 and 2 on genesis, 3 on both
abbrev pub diamond : Graph
diamond = record { profile = One; blocks = block 0 [] ∷ block 1 (0 ∷ []) ∷ block 2 (0 ∷ []) ∷ block 3 (1 ∷ 2 ∷ []) ∷ [] }

-- in profile 2, 1 and 2 on genesis with these salts, and 3 on both
abbrev pub settled_two : ℕ → ℕ → Graph
settled_two first second = record { profile = Two; blocks = block 0 [] ∷ salted 1 (0 ∷ []) first ∷ salted 2 (0 ∷ []) second ∷ [] }

abbrev pub settled_diamond : ℕ → ℕ → Graph
settled_diamond first second =
    record {
      profile = Two;
      blocks =
          block 0 []
          ∷ salted 1 (0 ∷ []) first
          ∷ salted 2 (0 ∷ []) second
          ∷ salted 3 (1 ∷ 2 ∷ []) 3
          ∷ [];
    }

-- 1, 2 and 3 on genesis, and six blocks whose votes put 1 before 2, 2 before 3 and 3 before 1; the list is in no order of making
abbrev pub cycle_of_three : Graph
cycle_of_three =
    record {
      profile = One;
      blocks =
          block 9 (8 ∷ 1 ∷ [])
          ∷ block 0 []
          ∷ block 1 (0 ∷ [])
          ∷ block 2 (0 ∷ [])
          ∷ block 3 (0 ∷ [])
          ∷ block 4 (1 ∷ [])
          ∷ block 5 (4 ∷ 2 ∷ [])
          ∷ block 6 (2 ∷ [])
          ∷ block 7 (6 ∷ 3 ∷ [])
          ∷ block 8 (3 ∷ [])
          ∷ [];
    }

-- 1 on genesis; 2 on a block that isn't there, 3 on 2 and 1; 4 and 5 on each other
abbrev pub incomplete : Graph
incomplete =
    record {
      profile = One;
      blocks =
          block 3 (2 ∷ 1 ∷ [])
          ∷ block 4 (5 ∷ [])
          ∷ block 0 []
          ∷ block 5 (4 ∷ 0 ∷ [])
          ∷ block 1 (0 ∷ [])
          ∷ block 2 (9 ∷ [])
          ∷ [];
    }
