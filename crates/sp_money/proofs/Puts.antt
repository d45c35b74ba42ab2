-- What a purse holds where a slot is replaced by one of the same output.
use Rattle.std.proofs.Common.{◌≡◌, ℕ, ◌<◌, Bool, List, length, map, set, get_or, refl, sym, ap, ◌∙◌}
use Rattle.std.specs.Prelude.{slice_index}
use Rattle.std.proofs.lemmas.List.{map-set, get_or-map, length-map}
use Rattle.std.proofs.Math.Seq.{map-set_same}
use Rattle.sp_money.specs.declared.slot.Slot.{Slot}
use Rattle.sp_money.specs.declared.store.Store.{Store}
use Rattle.sp_money.specs.Held.{Held}
use Rattle.sp_money.specs.Kept.{coin_of, held_by, held_of}

abbrev pub with_live : Bool → Slot → Slot
with_live now s = record { name = s.name; live = now; lock = s.lock; amount = s.amount; spenders = s.spenders }

abbrev pub with_spenders : ℕ → Slot → Slot
with_spenders n s = record { name = s.name; live = s.live; lock = s.lock; amount = s.amount; spenders = n }

pub held_same : (slots slots' : List Slot) (starts starts' locks locks' : List ℕ) (accepted accepted' : List Bool)
    → slots' ≡ slots → starts' ≡ starts → locks' ≡ locks → accepted' ≡ accepted
    → held_by slots' starts' locks' accepted' ≡ held_by slots starts locks accepted
held_same slots slots' starts starts' locks locks' accepted accepted' a b c d = rw (a, b, c, d) refl

abbrev pub live_set : Held → ℕ → Bool → Held
live_set h place now = record h { live = set h.live place now }

abbrev pub spenders_set : Held → ℕ → ℕ → Held
spenders_set h place n = record h { spenders = set h.spenders place n }

pub held_live : (slots : List Slot) (starts locks : List ℕ) (accepted : List Bool) (place : ℕ) (slot : Slot) (now : Bool)
    → slot ≡ get_or slots place slot
    → held_by (set slots place (with_live now slot)) starts locks accepted ≡ live_set (held_by slots starts locks accepted) place now
held_live slots starts locks accepted place slot now e =
    rw (
      map-set_same (coin_of locks) slots place (with_live now slot) slot (ap (coin_of locks) e),
      map-set_same (λ (s : Slot). s.spenders) slots place (with_live now slot) slot (ap (λ (s : Slot). s.spenders) e),
      map-set (λ (s : Slot). s.live) slots place (with_live now slot),
    ) refl

pub held_spenders : (slots : List Slot) (starts locks : List ℕ) (accepted : List Bool) (place : ℕ) (slot : Slot) (n : ℕ)
    → slot ≡ get_or slots place slot
    → held_by (set slots place (with_spenders n slot)) starts locks accepted ≡ spenders_set (held_by slots starts locks accepted) place n
held_spenders slots starts locks accepted place slot n e =
    rw (
      map-set_same (coin_of locks) slots place (with_spenders n slot) slot (ap (coin_of locks) e),
      map-set_same (λ (s : Slot). s.live) slots place (with_spenders n slot) slot (ap (λ (s : Slot). s.live) e),
      map-set (λ (s : Slot). s.spenders) slots place (with_spenders n slot),
    ) refl

-- how often the output of a slot is spent
pub spenders_at : (slots : List Slot) (place : ℕ) (slot : Slot) → place < length slots → slot ≡ get_or slots place slot
    → slice_index (map (λ (s : Slot). s.spenders) slots) place ≡ slot.spenders
spenders_at slots place slot lt e = get_or-map (λ (s : Slot). s.spenders) slots place slot 0 lt ∙ ap (λ (s : Slot). s.spenders) (sym e)

abbrev pub with_lives : Held → List Bool → Held
with_lives h lives = record h { live = lives }

abbrev pub with_counts : Held → List ℕ → Held
with_counts h counts = record h { spenders = counts }

-- there is a count of spenders for each output
pub as_many : (slots : List Slot) (locks : List ℕ) → length (map (λ (s : Slot). s.spenders) slots) ≡ length (map (coin_of locks) slots)
as_many slots locks = length-map slots (λ (s : Slot). s.spenders) ∙ sym (length-map slots (coin_of locks))

-- what holds the same flags has as many slots
pub same_count : (a b : Store) (lives : List Bool) → held_of a ≡ with_lives (held_of b) lives → length a.slots.items ≡ length b.slots.items
same_count a b lives e =
    sym (length-map a.slots.items (coin_of a.locks)) ∙ ap (λ (h : Held). length h.coins) e ∙ length-map b.slots.items (coin_of b.locks)
