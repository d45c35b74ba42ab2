-- Flips of one transaction more, and that each is of a transaction.
use Rattle.std.proofs.Common.{◌≡◌, ℕ, zero, suc, ◌+◌, ◌<◌, ◌≤◌, Bool, cond, List, [], ◌∷◌, ◌++◌, map, refl, ◌∙◌, arith}
use Rattle.std.specs.Prelude.{All}
use Rattle.std.specs.List.{range_with_len}
use Rattle.std.proofs.lemmas.List.Elements.{All-cons, All-filter, All-map, All-nil, All-same}
use Rattle.std.proofs.lemmas.List.FromFn.{filter_of_map_range_with_len_more}
use Rattle.sp_carry.specs.declared.carrier.Flip.{Flip}
use Rattle.sp_carry.specs.Flags.{is_set}
use Rattle.sp_accept.specs.Flips.{differ, flips_of}

-- one transaction more
pub flips_more : (old new : List Bool) (before after : List Flip) (was now : Bool) (n : ℕ) → before ≡ flips_of old new n
    → was ≡ is_set old n → now ≡ is_set new n → after ≡ before ++ cond (differ was now) (record { tx = n; now = now } ∷ []) []
    → after ≡ flips_of old new (n + 1)
flips_more old new before after was now n e f g h =
    h ∙ rw (
      filter_of_map_range_with_len_more (λ (flip : Flip). differ (is_set old flip.tx) flip.now) (λ tx. record { tx = tx; now = is_set new tx }) 0 n n (omega arith),
      e,
      f,
      g,
    ) refl

all_below : (a n m : ℕ) → a + n ≤ m → All (λ t. t < m) (range_with_len a n)
all_below a zero m le = All-nil (λ t. t < m)
all_below a (suc n) m le = All-cons (λ t. t < m) a (range_with_len (a + 1) n) (omega (arith, le)) (all_below (a + 1) n m (omega (arith, le)))

-- each is of one of the transactions
pub flips_known : (old new : List Bool) (flips : List Flip) (n : ℕ) → flips ≡ flips_of old new n → All (λ (flip : Flip). flip.tx < n) flips
flips_known old new flips n e =
    All-same (λ (flip : Flip). flip.tx < n) flips (flips_of old new n) e
    (All-filter (λ (flip : Flip). differ (is_set old flip.tx) flip.now) (λ (flip : Flip). flip.tx < n) (map (λ tx. record { tx = tx; now = is_set new tx }) (range_with_len 0 n))
    (All-map (λ (flip : Flip). flip.tx < n) (λ tx. record { tx = tx; now = is_set new tx }) (range_with_len 0 n) (all_below 0 n n (omega arith))))
