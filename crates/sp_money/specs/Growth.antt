-- Outputs that are prepared behind the others, and how the last ones are taken back.
use Rattle.std.specs.Prelude.{ℕ, ◌≡◌, Bool, false, List, [], ◌∷◌, ◌++◌, length, map, fold, take, count_by}
use Rattle.sp_tx.specs.Parts.{Transaction}
use Rattle.sp_carry.specs.Lookups.{spenders_in}
use Rattle.sp_carry.specs.Payment.{payment_of}
use Rattle.sp_carry.specs.Money.{Coin, coins}
use Rattle.sp_carry.specs.Flags.{is_set}
use Rattle.sp_money.specs.declared.store.Store.{Store}
use Rattle.sp_money.specs.Locks.{with_id}
use Rattle.sp_money.specs.Held.{Held}

-- with a place for one more transaction, which isn't accepted
abbrev pub with_place : Held → Held
with_place h = record h { starts = h.starts ++ length h.coins ∷ []; accepted = h.accepted ++ false ∷ [] }

-- with these outputs of a transaction that isn't accepted, where so many accepted ones spend each
abbrev pub with_outputs : (Coin → ℕ) → Held → List Coin → Held
with_outputs count h cs =
    record {
      coins = h.coins ++ cs;
      live = h.live ++ map (λ (c : Coin). false) cs;
      spenders = h.spenders ++ map count cs;
      starts = h.starts;
      locks = fold with_id h.locks (map (λ (c : Coin). c.lock) cs);
      accepted = h.accepted;
    }

-- how many of the transactions that spend an output have their flag set
abbrev pub set_spenders : List Transaction → List Bool → Coin → ℕ
set_spenders txs flags coin = count_by (is_set flags) (spenders_in txs coin.name)

-- with one of these transactions more
abbrev pub with_tx : List Transaction → Held → Transaction → Held
with_tx txs h t = with_outputs (set_spenders txs (h.accepted ++ false ∷ [])) (with_place h) (coins (payment_of t))

-- a list goes on behind another one
abbrev pub GoesOn : {A : Type 0} → List A → List A → Type 0
GoesOn {A} old new = (more : List A) × (new ≡ old ++ more)

-- nothing was changed but behind what is there
pub record IsLonger (old new : Store) : Type 0 where
  pub slots : GoesOn old.slots.items new.slots.items
  pub totals : GoesOn old.totals.items new.totals.items
  pub starts : GoesOn old.starts.items new.starts.items
  pub locks : GoesOn old.locks new.locks
  pub accepted : GoesOn old.accepted.items new.accepted.items

-- the first ones of a store are left
pub record IsFront (old : Store) (first_slots first_txs first_locks : ℕ) (new : Store) : Type 0 where
  pub slots : new.slots.items ≡ take first_slots old.slots.items
  pub totals : new.totals.items ≡ take first_locks old.totals.items
  pub starts : new.starts.items ≡ take first_txs old.starts.items
  pub locks : new.locks ≡ take first_locks old.locks
  pub accepted : new.accepted.items ≡ take first_txs old.accepted.items
