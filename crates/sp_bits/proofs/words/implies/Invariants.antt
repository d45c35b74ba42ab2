use Rattle.std.proofs.Common.{◌≡◌, ◌<◌, ◌*◌, ℕ, true}
use Rattle.sp_bits.specs.Words.{bit_in}
use Rattle.sp_bits.proofs.words.implies.Given as goal

abbrev pub invariant-words : goal.invariant-words
invariant-words l = (p : ℕ) → p < 64 * l.word → bit_in l.one p ≡ true → bit_in l.other p ≡ true
