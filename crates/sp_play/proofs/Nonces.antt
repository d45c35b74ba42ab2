-- The search for a nonce, and the least one as a function.
use Rattle.std.proofs.Common.{◌≡◌, ◌<◌, ◌≤◌, ◌+◌, ℕ, zero, suc, Bool, true, false, length, Option, Some, None, refl, sym, ap, ◌∙◌, inl, inr, arith}
use Rattle.std.specs.Prelude.{find}
use Rattle.std.specs.List.{range_with_len}
use Rattle.std.proofs.lemmas.Bool.{cases_lt}
use Rattle.sp_ids.specs.Digest.{sha256_number}
use Rattle.sp_block.specs.declared.draft.Draft.{Draft}
use Rattle.sp_block.specs.Draft.{draft_text, IsFound}
use Rattle.sp_block.specs.Judged.{meets}
use Rattle.sp_block.proofs.DraftLengths.{length-draft_text}
use Rattle.sp_block.proofs.Judged.{meets_zeros, misses}
use Rattle.sp_play.specs.Making.{nonce_below}

-- the first number of a range that passes
find_first : (p : ℕ → Bool) (a n k : ℕ) → a ≤ k → k < a + n → p k ≡ true → ((j : ℕ) → a ≤ j → j < k → p j ≡ false) → find p (range_with_len a n) ≡ Some k
find_first p a zero k low high here before = absurd (omega arith)
find_first p a (suc n) k low high here before = elim (cases_lt a k) [
  | inl less ↦ rw (before a (omega arith) less) (find_first p (a + 1) n k (omega arith) (omega arith) here (λ j above below. before j (omega arith) below))
  | inr more ↦ (let same : k ≡ a = omega arith in let now : p a ≡ true = ap p (sym same) ∙ here in rw now (ap (λ (i : ℕ). Some i) (sym same)))
]

find_nothing : (p : ℕ → Bool) (a n : ℕ) → ((j : ℕ) → a ≤ j → j < a + n → p j ≡ false) → find p (range_with_len a n) ≡ None
find_nothing p a zero never = refl
find_nothing p a (suc n) never = rw (never a (omega arith) (omega arith)) (find_nothing p (a + 1) n (λ j above below. never j (omega arith) (omega arith)))

-- what the search finds is the least nonce
pub found_is_least : (draft : Draft) (bits tries : ℕ) (found : Option ℕ) → IsFound draft bits tries found → found ≡ nonce_below tries draft bits
unfolding nonce_below
found_is_least draft bits tries None h =
    sym (find_nothing (λ nonce. meets (sha256_number (draft_text draft nonce)) bits) 0 tries (λ j above below. misses (sha256_number (draft_text draft j)) bits (h j (omega arith))))
found_is_least draft bits tries (Some nonce) h =
    sym (find_first (λ nonce. meets (sha256_number (draft_text draft nonce)) bits) 0 tries nonce (omega arith) (omega (arith, h.below)) (meets_zeros (sha256_number (draft_text draft nonce)) bits h.meets)
    (λ j above below. misses (sha256_number (draft_text draft j)) bits (h.least j below)))

-- a draft is as long with any nonce
pub same_long : (draft : Draft) (nonce : ℕ) → length (draft_text draft nonce) ≡ length (draft_text draft 0)
same_long draft nonce = length-draft_text draft nonce ∙ sym (length-draft_text draft 0)
