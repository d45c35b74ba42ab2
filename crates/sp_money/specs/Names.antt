-- The names of the unspent outputs under a lock.
use Rattle.std.specs.Prelude.{ℕ, ◌==◌, ◌&&◌, Bool, List, map, filter}
use Rattle.sp_ids.specs.declared.outpoint.Outpoint.{Outpoint}
use Rattle.sp_carry.specs.Payment.{Payment}
use Rattle.sp_carry.specs.Money.{Coin, unspent}
use Rattle.sp_money.specs.declared.slot.Slot.{Slot}
use Rattle.sp_money.specs.Totals.{is_left}

-- the names of what these payments leave under a lock, in the order of the payments and their outputs
abbrev pub names_under : List Payment → ℕ → List Outpoint
names_under accepted lock = map (λ (c : Coin). c.name) (filter (λ (c : Coin). c.lock == lock) (unspent accepted))

-- whether a slot is left under the lock of this number
abbrev pub is_left_under : ℕ → Slot → Bool
is_left_under lock s = (s.lock == lock) && is_left s

abbrev pub left_names : ℕ → List Slot → List Outpoint
left_names lock slots = map (λ (s : Slot). s.name) (filter (is_left_under lock) slots)
