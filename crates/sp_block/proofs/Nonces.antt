-- The bytes of a draft with one nonce and with another differ in eight places, and what the test of their
-- SHA-256 tells.
use Rattle.std.proofs.Common.{◌≡◌, ◌↔◌, Bool, ℕ, List, ◌++◌, take, drop, IsTrue, ap, subst, ◌∙◌}
use Rattle.std.specs.Int.{w64, to_le_bytes}
use Rattle.sp_ids.specs.Bits.{BeginsWithZeros}
use Rattle.sp_ids.specs.Digest.{sha256_number}
use Rattle.sp_block.specs.declared.draft.Draft.{Draft}
use Rattle.sp_block.specs.Draft.{draft_text, MeetsWork}

-- a list of bytes with this nonce behind the version and the salt
abbrev with_nonce : List ℕ → ℕ → List ℕ
with_nonce bytes nonce = take 9 bytes ++ (to_le_bytes w64 nonce ++ drop 17 bytes)

-- a draft's bytes with another nonce are the draft's with that nonce
pub with_nonce-draft_text : (draft : Draft) (before nonce : ℕ) (bytes now : List ℕ) → bytes ≡ draft_text draft before → now ≡ with_nonce bytes nonce → now ≡ draft_text draft nonce
with_nonce-draft_text draft before nonce bytes now was is = is ∙ ap (λ (text : List ℕ). with_nonce text nonce) was

-- the test of the id of a draft's bytes tells whether the draft meets the work
pub told_work : (draft : Draft) (bits nonce : ℕ) (bytes : List ℕ) (id : ℕ) (answer : Bool) → bytes ≡ draft_text draft nonce → id ≡ sha256_number bytes → (IsTrue answer ↔ BeginsWithZeros id bits) → IsTrue answer ↔ MeetsWork draft bits nonce
told_work draft bits nonce bytes id answer text named told =
    subst (λ (n : ℕ). IsTrue answer ↔ BeginsWithZeros n bits) (named ∙ ap sha256_number text) told
