-- What is left under each lock, added up from the slots as they are.
use Rattle.std.specs.Prelude.{ℕ, ◌<◌, ◌≤◌, ◌≡◌, ◌^◌, ◌==◌, ◌&&◌, Bool, List, length, All, sum_by, slice_index, if◌then◌else◌}
use Rattle.sp_money.specs.declared.slot.Slot.{Slot}

-- whether an output is unspent: its transaction is accepted, and no accepted one spends it
abbrev pub is_left : Slot → Bool
is_left s = s.live && (s.spenders == 0)

-- what an output adds to its lock
abbrev pub left : Slot → ℕ
left s = if is_left s then s.amount else 0

abbrev pub share : ℕ → Slot → ℕ
share lock s = if s.lock == lock then left s else 0

abbrev pub total_of : ℕ → List Slot → ℕ
total_of lock slots = sum_by (share lock) slots

-- each slot is of a lock, and each total is that of the slots
pub record AreTotals (slots : List Slot) (totals : List ℕ) : Type 0 where
  pub few : length slots ≤ 2 ^ 32
  pub in_locks : All (λ (s : Slot). s.lock < length totals) slots
  pub small : All (λ (s : Slot). s.amount < 2 ^ 64) slots
  pub each : (lock : ℕ) → lock < length totals → slice_index totals lock ≡ total_of lock slots
