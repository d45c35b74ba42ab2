-- The sound carriers whose transactions conflict with that of a carrier.
use Rattle.std.specs.Prelude.{ℕ, ◌≡◌, ◌==◌, ◌&&◌, ◌||◌, Bool, false, not, List, filter, length, Option, Some, None, slice_get}
use Rattle.std.specs.List.{list_any, range_with_len}
use Rattle.std.specs.BTreeSet.{BTreeSet, contains}
use Rattle.std.specs.Ordering.{nat_cmp}
use Rattle.sp_tx.specs.declared.parts.Input.{Input}
use Rattle.sp_tx.specs.Parts.{Transaction}
use Rattle.sp_carry.specs.declared.carrier.Carrier.{Carrier}
use Rattle.sp_carry.specs.Payment.{conflicts, payment_of}
use Rattle.sp_carry.specs.Lookups.{spenders_in}
use Rattle.sp_carry.specs.Carried.{Carried, carriers_in, tx_at}

-- whether the second carrier is sound, and its transaction conflicts with that of the first
abbrev pub is_rival_at : Carried → Option Carrier → Option Carrier → Bool
is_rival_at k (Some r) (Some s) = s.sound && conflicts (payment_of (tx_at k r.tx)) (payment_of (tx_at k s.tx))
is_rival_at k (Some r) None = false
is_rival_at k None _ = false

-- the numbers of the sound carriers that conflict with the carrier of a number, ascending
abbrev pub rivals_of : Carried → ℕ → List ℕ
rivals_of k c = filter (λ d. is_rival_at k (slice_get k.rows c) (slice_get k.rows d)) (range_with_len 0 (length k.rows))

-- a set of numbers
abbrev pub Set : Type 0
Set = BTreeSet ℕ

abbrev pub has_number : Set → ℕ → Bool
has_number set d = contains nat_cmp set d

-- the set with the numbers that pass
abbrev pub IsNotedBy : (ℕ → Bool) → Set → Set → Type 0
IsNotedBy test old new = (d : ℕ) → has_number new d ≡ (has_number old d || test d)

abbrev pub sound_or_none : Option Carrier → Bool
sound_or_none None = false
sound_or_none (Some r) = r.sound

-- the carrier of number c is sound, and c is this number
abbrev pub is_sound_at : List Carrier → ℕ → ℕ → Bool
is_sound_at rows c d = (c == d) && sound_or_none (slice_get rows c)

-- the number is that of a sound carrier of the transaction, which isn't this one
abbrev pub is_of_other : List Carrier → ℕ → ℕ → ℕ → Bool
is_of_other rows tx other d = not (other == tx) && list_any (λ c. is_sound_at rows c d) (carriers_in rows other)

-- the number is that of a sound carrier of another transaction that spends what the input spends
abbrev pub is_of_spender : List Transaction → List Carrier → ℕ → Input → ℕ → Bool
is_of_spender txs rows tx input d = list_any (λ other. is_of_other rows tx other d) (spenders_in txs input.from)
