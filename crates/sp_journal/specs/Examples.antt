-- Small journals, put together by hand. Their ids are SHA-256 by another program.
use Rattle.std.specs.Prelude.{ℕ, List, [], ◌∷◌, ◌++◌, codes, replicate}
use Rattle.sp_model.specs.declared.profile.Profile.{Profile}
use Rattle.sp_journal.specs.Journal.{Contents, contents}

-- the smallest genesis block
abbrev pub genesis : List ℕ
genesis = 1 ∷ replicate 19 0

-- what stands behind the bits of a head
abbrev pub sized_genesis : List ℕ
sized_genesis = 20 ∷ 0 ∷ 0 ∷ 0 ∷ genesis

-- a head with this gate, this name and these bits
abbrev pub head_with : ℕ → List ℕ → ℕ → List ℕ
head_with gate name bits = gate ∷ (name ++ bits ∷ sized_genesis)

-- the head of a journal without work, 34 bytes
abbrev pub head : List ℕ
head = head_with 165 (codes "SPCTRJ01") 0

-- the id of that genesis block
abbrev pub genesis_id : List ℕ
genesis_id = 33 ∷ 252 ∷ 63 ∷ 149 ∷ 92 ∷ 20 ∷ 48 ∷ 94 ∷ 214 ∷ 107 ∷ 47 ∷ 96 ∷ 100 ∷ 222 ∷ 8 ∷ 46 ∷ 132 ∷ 71 ∷ 242 ∷ 144 ∷ 72 ∷ 218 ∷ 58 ∷ 183 ∷ 197 ∷ 192 ∷ 16 ∷ 144 ∷ 193 ∷ 183 ∷ 34 ∷ 171 ∷ []

-- the block of salt 1 on it, 52 bytes
abbrev pub child : List ℕ
child = 1 ∷ 1 ∷ (replicate 15 0 ++ 1 ∷ (genesis_id ++ 0 ∷ 0 ∷ []))

-- its record, 57 bytes
abbrev pub record_of_child : List ℕ
record_of_child = 165 ∷ 52 ∷ 0 ∷ 0 ∷ 0 ∷ child

-- no records
abbrev pub empty_journal : Profile → Contents
empty_journal profile = contents profile 0 genesis []
