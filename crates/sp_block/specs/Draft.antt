-- The bytes of a draft, and the search for a nonce.
use Rattle.std.specs.Prelude.{ℕ, ◌<◌, List, Option, Some, None}
use Rattle.sp_ids.specs.Bits.{BeginsWithZeros}
use Rattle.sp_ids.specs.Digest.{sha256_number}
use Rattle.sp_block.specs.declared.draft.Draft.{Draft}
use Rattle.sp_block.specs.Ascending.{ascending}
use Rattle.sp_block.specs.Format.{of_parts, Parts}
use Rattle.sp_block.specs.Spelling.{block_text}

-- the parts of a draft with a nonce, its parents ascending
abbrev pub drafted : Draft → ℕ → Parts
drafted draft nonce = of_parts draft.salt nonce (ascending draft.parents) draft.txs

abbrev pub draft_text : Draft → ℕ → List ℕ
draft_text draft nonce = block_text (drafted draft nonce)

-- the id of the draft with this nonce meets the work
abbrev pub MeetsWork : Draft → ℕ → ℕ → Type 0
MeetsWork draft bits nonce = BeginsWithZeros (sha256_number (draft_text draft nonce)) bits

-- no nonce below this one meets the work
abbrev pub NoneBelow : Draft → ℕ → ℕ → Type 0
NoneBelow draft bits limit = (nonce : ℕ) → nonce < limit → ¬ (MeetsWork draft bits nonce)

-- the least nonce below the number of tries that meets the work
pub record IsLeastNonce (draft : Draft) (bits tries nonce : ℕ) : Type 0 where
  pub below : nonce < tries
  pub meets : MeetsWork draft bits nonce
  pub least : NoneBelow draft bits nonce

-- what a search found
abbrev pub IsFound : Draft → ℕ → ℕ → Option ℕ → Type 0
IsFound draft bits tries (Some nonce) = IsLeastNonce draft bits tries nonce
IsFound draft bits tries None = NoneBelow draft bits tries
