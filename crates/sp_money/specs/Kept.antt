-- What the tables of a purse hold, and what always holds of them.
use Rattle.std.specs.Prelude.{ℕ, ◌≡◌, ◌*◌, ◌<◌, ◌≤◌, Bool, List, length, map, slice_index}
use Rattle.sp_carry.specs.Money.{Coin}
use Rattle.sp_money.specs.declared.slot.Slot.{Slot}
use Rattle.sp_money.specs.declared.store.Store.{Store}
use Rattle.sp_money.specs.Held.{Held}
use Rattle.sp_money.specs.Totals.{AreTotals}

-- the output of a slot, where the locks have numbers
abbrev pub coin_of : List ℕ → Slot → Coin
coin_of locks s = record { name = s.name; amount = s.amount; lock = slice_index locks s.lock }

-- what slots, starts, locks and flags hold
abbrev pub held_by : List Slot → List ℕ → List ℕ → List Bool → Held
held_by slots starts locks accepted =
    record {
      coins = map (coin_of locks) slots;
      live = map (λ (s : Slot). s.live) slots;
      spenders = map (λ (s : Slot). s.spenders) slots;
      starts = starts;
      locks = locks;
      accepted = accepted;
    }

abbrev pub held_of : Store → Held
held_of s = held_by s.slots.items s.starts.items s.locks s.accepted.items

-- the totals are those of the slots, and there are as few of all as 131,072 transactions of 16 outputs have
pub record AreKept (slots : List Slot) (sums locks : List ℕ) (accepted : List Bool) : Type 0 where
  pub totals : AreTotals slots sums
  pub long : length sums ≡ length locks
  pub few : length slots ≤ 16 * length accepted
  pub few_locks : length locks ≤ length slots
  pub few_txs : length accepted ≤ 131072

abbrev pub IsKept : Store → Type 0
IsKept s = AreKept s.slots.items s.totals.items s.locks s.accepted.items

-- Each transaction's outputs begin where the ones before it leave room for 16 of each.
pub record BeginEarly (starts : List ℕ) (accepted : List Bool) : Type 0 where
  pub long : length starts ≡ length accepted
  pub early : (tx : ℕ) → tx < length starts → slice_index starts tx ≤ 16 * tx

abbrev pub IsEarly : Store → Type 0
IsEarly s = BeginEarly s.starts.items s.accepted.items
