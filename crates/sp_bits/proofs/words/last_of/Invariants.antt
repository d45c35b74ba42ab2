use Rattle.std.proofs.Common.{◌≡◌, ◌<◌, ◌≤◌, ◌*◌, ℕ, false}
use Rattle.sp_bits.specs.Words.{bit_in}
use Rattle.sp_bits.proofs.words.last_of.Given as goal

abbrev pub invariant-words : goal.invariant-words
invariant-words l = (p : ℕ) → 64 * l.number ≤ p → p < 64 * l.count → bit_in l.words p ≡ false
