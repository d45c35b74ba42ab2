-- Certificates that were worked out by hand. Genesis has the id 10 and other blocks have higher ones; their bytes play no part.
use Rattle.std.specs.Prelude.{ℕ, List, [], ◌∷◌, ℤ, pos, negsuc}
use Rattle.sp_block.specs.Block.{ReadBlock}
use Rattle.sp_model.specs.declared.profile.Profile.{Profile}
use Rattle.sp_model.specs.declared.profile.Profile.TheVariants.{One, Two}
use Rattle.sp_cert.specs.Certificate.{Certificate, Entries}

abbrev pub block : ℕ → List ℕ → ReadBlock
block id parents = record { id = id; bytes = []; salt = id; nonce = 0; parents = parents; txs = [] }

abbrev pub world : ℕ → List ℤ → Entries
world number votes = record { number = number; votes = votes }

abbrev pub claims_in : Profile → List ReadBlock → ℕ → ℕ → ℤ → List Entries → Certificate
claims_in profile blocks x y sign worlds = record { profile = profile; blocks = blocks; x = x; y = y; sign = sign; worlds = worlds }

-- those of profile 1, and of profile 2

abbrev pub claims : List ReadBlock → ℕ → ℕ → ℤ → List Entries → Certificate
claims blocks x y sign worlds = claims_in One blocks x y sign worlds

abbrev pub settles : List ReadBlock → ℕ → ℕ → ℤ → List Entries → Certificate
settles blocks x y sign worlds = claims_in Two blocks x y sign worlds

-- first, zero and second: the three votes
abbrev pub first : ℤ
first = negsuc 0

abbrev pub tie : ℤ
tie = pos 0

abbrev pub second : ℤ
second = pos 1

-- 11 and 12 on genesis
abbrev pub two_on_genesis : List ReadBlock
two_on_genesis = block 10 [] ∷ block 11 (10 ∷ []) ∷ block 12 (10 ∷ []) ∷ []

-- the same, and 13 on both
abbrev pub diamond : List ReadBlock
diamond = block 10 [] ∷ block 11 (10 ∷ []) ∷ block 12 (10 ∷ []) ∷ block 13 (11 ∷ 12 ∷ []) ∷ []

-- 11 on genesis, 12 on 11
abbrev pub chain : List ReadBlock
chain = block 10 [] ∷ block 11 (10 ∷ []) ∷ block 12 (11 ∷ []) ∷ []
