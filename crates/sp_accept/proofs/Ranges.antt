-- Numbers of a range.
use Rattle.std.proofs.Common.{◌<◌, ◌≤◌, ◌+◌, ℕ, zero, suc, inl, inr, arith}
use Rattle.std.specs.List.{range_with_len}
use Rattle.std.proofs.lemmas.Bool.{cases_lt}
use Rattle.sp_carry.proofs.Members.{IsIn}

pub in_range_from : (a n x : ℕ) → a ≤ x → x < a + n → IsIn (range_with_len a n) x
in_range_from a zero x ge lt = absurd (omega (arith, ge, lt))
in_range_from a (suc n) x ge lt =
    elim (cases_lt a x) [
      | inl later ↦ inr (in_range_from (a + 1) n x (omega (arith, later)) (omega (arith, lt)))
      | inr here ↦ inl (omega (arith, ge, here))
    ]

pub in_range : (a n x : ℕ) → IsIn (range_with_len a n) x → (a ≤ x) × (x < a + n)
in_range a zero x h = absurd h
in_range a (suc n) x h =
    elim h [
      | inl same ↦ (omega (arith, same), omega (arith, same))
      | inr later ↦ (let r : (a + 1 ≤ x) × (x < a + 1 + n) = in_range (a + 1) n x later in (omega (arith, r.0), omega (arith, r.1)))
    ]
