-- The locks of the outputs of transactions, each once.
use Rattle.std.specs.Prelude.{ℕ, ◌≡◌, ◌<◌, All, length, slice_index, if◌then◌else◌, List, [], ◌∷◌, ◌++◌, map, fold, flat_map}
use Rattle.sp_model.specs.Graph.{has, AreDistinct}
use Rattle.sp_tx.specs.declared.parts.Output.{Output}
use Rattle.sp_tx.specs.Parts.{Transaction}
use Rattle.sp_money.specs.declared.slot.Slot.{Slot}

-- the ids with one more, if it isn't one of them
abbrev pub with_id : List ℕ → ℕ → List ℕ
with_id ids id = if has ids id then ids else ids ++ id ∷ []

-- each of the ids once, at its first place
abbrev pub each_once : List ℕ → List ℕ
each_once ids = fold with_id [] ids

-- the lock of each output of these transactions, in order
abbrev pub all_locks : List Transaction → List ℕ
all_locks txs = flat_map (λ (t : Transaction). map (λ (o : Output). o.lock) t.outputs) txs

-- the lock of each output of these transactions, in order, each once at its first place
abbrev pub locks_of : List Transaction → List ℕ
locks_of txs = each_once (all_locks txs)

-- the locks of slots, by their numbers
abbrev pub locks_in : List ℕ → List Slot → List ℕ
locks_in locks slots = map (λ (s : Slot). slice_index locks s.lock) slots

-- the locks are those of the slots, each once at its first place, and have their numbers from there
pub record AreNumbered (locks : List ℕ) (slots : List Slot) : Type 0 where
  pub once : AreDistinct locks
  pub known : All (λ (s : Slot). s.lock < length locks) slots
  pub are : locks ≡ each_once (locks_in locks slots)
