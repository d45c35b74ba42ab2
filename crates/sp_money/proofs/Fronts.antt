-- A purse of which the last transactions are taken back.
use Rattle.std.proofs.Common.{◌≡◌, ℕ, zero, suc, ◌+◌, ◌*◌, ◌<◌, ◌≤◌, ◌&&◌, Bool, true, false, cond, List, [], ◌∷◌, ◌++◌, length, map, take, drop, get_or, min, refl, sym, ap, ◌∙◌, inl, inr, arith, subst, append_assoc, eqb, length-append, ◌^◌}
use Rattle.std.specs.Prelude.{All, slice_index}
use Rattle.std.proofs.lemmas.Bool.{cases_lt}
use Rattle.std.proofs.lemmas.List.{drop-map, get_or_default, get_or-take, length-map, length-take-le, map-append, take-append-drop, take-map, take_all}
use Rattle.std.proofs.lemmas.List.Elements.{All-append, All-map, All-tail, All-take}
use Rattle.std.proofs.lemmas.List.Sums.{sum_by-append, sum_by-cons}
use Rattle.std.proofs.lemmas.Grind.{flat_map-append}
use Rattle.std.proofs.Math.ListN.{get_or-append}
use Rattle.std.proofs.Math.Seq.{drop-append_seam, get_or-append_seam, take-append_seam}
use Rattle.sp_tx.specs.declared.parts.Output.{Output}
use Rattle.sp_tx.specs.Parts.{Transaction}
use Rattle.sp_carry.specs.Payment.{Payment, payment_of}
use Rattle.sp_carry.specs.Money.{Coin, coins}
use Rattle.sp_carry.specs.Flags.{is_set}
use Rattle.sp_model.specs.Graph.{AreDistinct}
use Rattle.sp_money.specs.declared.slot.Slot.{Slot}
use Rattle.sp_money.specs.declared.store.Store.{Store}
use Rattle.sp_money.specs.Accepted.{accepted_in}
use Rattle.sp_money.specs.Growth.{with_tx, IsFront}
use Rattle.sp_money.specs.Held.{coins_of, Held, lives, spender_count, starts_from, IsOf}
use Rattle.sp_money.specs.Kept.{AreKept, BeginEarly, coin_of, held_by, held_of, IsEarly, IsKept}
use Rattle.sp_money.specs.Locks.{all_locks, each_once, locks_in, locks_of, AreNumbered}
use Rattle.sp_money.specs.Totals.{left, share, total_of}
use Rattle.sp_money.proofs.Growing.{coin_locks}
use Rattle.sp_money.proofs.LockNumbers.{AreFirst, first_slots}
use Rattle.sp_money.proofs.Standing.{length-coins, length-starts}

-- ---- of the first transactions

-- where the outputs of a transaction begin
pub starts_at : (first : ℕ) (txs : List Transaction) (n : ℕ) → n < length txs → slice_index (starts_from first txs) n ≡ first + length (coins_of (take n txs))
starts_at first [] n lt = absurd (omega arith)
starts_at first (t ∷ ts) zero lt = omega arith
starts_at first (t ∷ ts) (suc n) lt =
    (let rest = starts_at (first + length t.outputs) ts n (omega arith) in
    let long : length (coins (payment_of t) ++ coins_of (take n ts)) ≡ length (coins (payment_of t)) + length (coins_of (take n ts)) = length-append (coins (payment_of t)) (coins_of (take n ts)) in
    omega (arith, rest, long, length-coins t))

starts-take : (first n : ℕ) (txs : List Transaction) → take n (starts_from first txs) ≡ starts_from first (take n txs)
starts-take first zero txs = refl
starts-take first (suc n) [] = refl
starts-take first (suc n) (t ∷ ts) = ap (λ (l : List ℕ). first ∷ l) (starts-take (first + length t.outputs) n ts)

coins-split : (n : ℕ) (txs : List Transaction) → coins_of txs ≡ coins_of (take n txs) ++ coins_of (drop n txs)
coins-split n txs =
    ap coins_of (sym (take-append-drop n txs)) ∙ flat_map-append (λ (t : Transaction). coins (payment_of t)) (take n txs) (drop n txs)

pub coins-few : (n : ℕ) (txs : List Transaction) → length (coins_of (take n txs)) ≤ length (coins_of txs)
coins-few n txs =
    omega (arith, ap length (coins-split n txs), length-append (coins_of (take n txs)) (coins_of (drop n txs)))

coins-take : (n : ℕ) (txs : List Transaction) → take (length (coins_of (take n txs))) (coins_of txs) ≡ coins_of (take n txs)
coins-take n txs =
    ap (take (length (coins_of (take n txs)))) (coins-split n txs) ∙ take-append_seam (coins_of (take n txs)) (coins_of (drop n txs))

lives-split : (n : ℕ) (txs : List Transaction) (flags : List Bool) → lives txs flags ≡ lives (take n txs) (take n flags) ++ lives (drop n txs) (drop n flags)
lives-split zero txs flags = refl
lives-split (suc n) [] flags = refl
lives-split (suc n) (t ∷ ts) [] = sym (none ts n)
  where
    none : (ts : List Transaction) (n : ℕ) → lives (drop n ts) [] ≡ []
    none [] zero = refl
    none [] (suc n) = refl
    none (t ∷ ts) zero = refl
    none (t ∷ ts) (suc n) = none ts n
lives-split (suc n) (t ∷ ts) (b ∷ flags) =
    ap (λ (l : List Bool). map (λ (o : Output). b) t.outputs ++ l) (lives-split n ts flags)
    ∙ sym (append_assoc (map (λ (o : Output). b) t.outputs) (lives (take n ts) (take n flags)) (lives (drop n ts) (drop n flags)))

lives-long : (txs : List Transaction) (flags : List Bool) → length flags ≡ length txs → length (lives txs flags) ≡ length (coins_of txs)
lives-long [] flags long = refl
lives-long (t ∷ ts) [] long = absurd (omega arith)
lives-long (t ∷ ts) (b ∷ flags) long =
    omega (
      arith,
      lives-long ts flags (omega arith),
      length-append (map (λ (o : Output). b) t.outputs) (lives ts flags),
      length-append (coins (payment_of t)) (coins_of ts),
      length-map t.outputs (λ (o : Output). b),
      length-coins t,
    )

-- no flag is set from a place on
abbrev NoneFrom : ℕ → List Bool → Type 0
NoneFrom n flags = (tx : ℕ) → n ≤ tx → is_set flags tx ≡ false

accepted-none : (txs : List Transaction) (flags : List Bool) → NoneFrom 0 flags → accepted_in txs flags ≡ []
accepted-none [] flags none = refl
accepted-none (t ∷ ts) [] none = refl
accepted-none (t ∷ ts) (b ∷ flags) none =
    ap (λ (c : Bool). cond c (payment_of t ∷ accepted_in ts flags) (accepted_in ts flags)) (none 0 (omega arith)) ∙ accepted-none ts flags (λ tx le. none (suc tx) (omega arith))

accepted-take : (n : ℕ) (txs : List Transaction) (flags : List Bool) → NoneFrom n flags → accepted_in txs flags ≡ accepted_in (take n txs) (take n flags)
accepted-take zero txs flags none = accepted-none txs flags none
accepted-take (suc n) [] flags none = refl
accepted-take (suc n) (t ∷ ts) [] none = refl
accepted-take (suc n) (t ∷ ts) (true ∷ flags) none = ap (λ (l : List Payment). payment_of t ∷ l) (accepted-take n ts flags (λ tx le. none (suc tx) (omega arith)))
accepted-take (suc n) (t ∷ ts) (false ∷ flags) none = accepted-take n ts flags (λ tx le. none (suc tx) (omega arith))

dead-map : (os : List Output) (b : Bool) (k : ℕ) → b ≡ false → is_set (map (λ (o : Output). b) os) k ≡ false
dead-map [] b k e = refl
dead-map (o ∷ os) b zero e = e
dead-map (o ∷ os) b (suc k) e = dead-map os b k e

-- the outputs of transactions that aren't accepted are none of them live
all-dead : (txs : List Transaction) (flags : List Bool) → NoneFrom 0 flags → All (λ (b : Bool). b ≡ false) (lives txs flags)
all-dead [] flags none = λ k d lt. absurd (omega arith)
all-dead (t ∷ ts) [] none = λ k d lt. absurd (omega arith)
all-dead (t ∷ ts) (b ∷ flags) none =
    All-append (λ (b : Bool). b ≡ false) (map (λ (o : Output). b) t.outputs) (lives ts flags)
    (All-map (λ (b : Bool). b ≡ false) (λ (o : Output). b) t.outputs (λ k d lt. none 0 (omega arith)))
    (all-dead ts flags (λ tx le. none (suc tx) (omega arith)))

drop-none : (n : ℕ) (flags : List Bool) → NoneFrom n flags → NoneFrom 0 (drop n flags)
drop-none zero flags none = none
drop-none (suc n) [] none = λ tx le. refl
drop-none (suc n) (b ∷ flags) none = drop-none n flags (λ tx le. none (suc tx) (omega arith))

coins-locks : (txs : List Transaction) → map (λ (c : Coin). c.lock) (coins_of txs) ≡ all_locks txs
coins-locks [] = refl
coins-locks (t ∷ ts) =
    map-append (λ (c : Coin). c.lock) (coins (payment_of t)) (coins_of ts) ∙ ap (λ (l : List ℕ). l ++ map (λ (c : Coin). c.lock) (coins_of ts)) (coin_locks (payment_of t).id 0 t.outputs)
    ∙ ap (λ (l : List ℕ). map (λ (o : Output). o.lock) t.outputs ++ l) (coins-locks ts)

slot-locks : (locks : List ℕ) (slots : List Slot) → map (λ (c : Coin). c.lock) (map (coin_of locks) slots) ≡ locks_in locks slots
slot-locks locks [] = refl
slot-locks locks (s ∷ slots) = ap (λ (l : List ℕ). slice_index locks s.lock ∷ l) (slot-locks locks slots)

-- the locks have the numbers of their first places
pub are_numbered : (txs : List Transaction) (slots : List Slot) (sums starts locks : List ℕ) (accepted : List Bool) → IsOf txs (held_by slots starts locks accepted) → AreDistinct locks
    → AreKept slots sums locks accepted → AreNumbered locks slots
are_numbered txs slots sums starts locks accepted of once kept =
    record {
      once = once;
      known = subst (λ (n : ℕ). All (λ (s : Slot). s.lock < n) slots) kept.long kept.totals.in_locks;
      are = of.locks ∙ ap each_once (sym (coins-locks txs) ∙ ap (map (λ (c : Coin). c.lock)) (sym of.coins) ∙ slot-locks locks slots);
    }

same-coins : (locks : List ℕ) (count : ℕ) (slots : List Slot) → All (λ (s : Slot). s.lock < count) slots → map (coin_of (take count locks)) slots ≡ map (coin_of locks) slots
same-coins locks count [] all = refl
same-coins locks count (s ∷ slots) all =
    let lock : slice_index (take count locks) s.lock ≡ slice_index locks s.lock = get_or-take count locks s.lock 0 (all 0 s (omega arith)) in
    ap (λ (n : ℕ). let c : Coin = record { name = s.name; amount = s.amount; lock = n } in c ∷ map (coin_of (take count locks)) slots) lock
    ∙ ap (λ (l : List Coin). coin_of locks s ∷ l) (same-coins locks count slots (All-tail (λ (s : Slot). s.lock < count) s slots all))

-- the first slots are the outputs of the first transactions
module _ (txs : List Transaction) (slots : List Slot) (starts locks : List ℕ) (accepted : List Bool) (n m : ℕ) (of : IsOf txs (held_by slots starts locks accepted)) (is : m ≡ length (coins_of (take n txs))) where
  front-coins : map (coin_of locks) (take m slots) ≡ coins_of (take n txs)
  front-coins =
      sym (take-map (coin_of locks) m slots) ∙ ap (take m) of.coins ∙ ap (λ (k : ℕ). take k (coins_of txs)) is ∙ coins-take n txs

  front-locks : each_once (locks_in locks (take m slots)) ≡ locks_of (take n txs)
  front-locks =
      ap each_once (sym (slot-locks locks (take m slots)) ∙ ap (map (λ (c : Coin). c.lock)) front-coins ∙ coins-locks (take n txs))

-- what is left is of the first transactions
pub IsOf-take : (txs : List Transaction) (slots : List Slot) (starts locks : List ℕ) (accepted : List Bool) (n m count : ℕ) → IsOf txs (held_by slots starts locks accepted)
    → n ≤ length accepted → m ≡ length (coins_of (take n txs)) → NoneFrom n accepted → AreFirst locks (take m slots) count
    → IsOf (take n txs) (held_by (take m slots) (take n starts) (take count locks) (take n accepted))
IsOf-take txs slots starts locks accepted n m count of le is none first =
    let front = take n txs in
    let flags : length (take n accepted) ≡ length front =
    length-take-le n accepted le ∙ sym (length-take-le n txs (omega (arith, le, of.flags))) in
    record {
      flags = flags;
      coins = same-coins locks count (take m slots) first.known ∙ front-coins txs slots starts locks accepted n m of is;
      live =
          sym (take-map (λ (s : Slot). s.live) m slots) ∙ ap (take m) (of.live ∙ lives-split n txs accepted)
          ∙ ap (λ (k : ℕ). take k (lives front (take n accepted) ++ lives (drop n txs) (drop n accepted))) (is ∙ sym (lives-long front (take n accepted) flags))
          ∙ take-append_seam (lives front (take n accepted)) (lives (drop n txs) (drop n accepted));
      spenders =
          sym (take-map (λ (s : Slot). s.spenders) m slots) ∙ ap (take m) of.spenders ∙ take-map (spender_count (accepted_in txs accepted)) m (coins_of txs)
          ∙ ap (map (spender_count (accepted_in txs accepted))) (ap (λ (k : ℕ). take k (coins_of txs)) is ∙ coins-take n txs)
          ∙ ap (λ (l : List Payment). map (spender_count l) (coins_of front)) (accepted-take n txs accepted none);
      starts = ap (take n) of.starts ∙ starts-take 0 n txs;
      locks = first.are ∙ front-locks txs slots starts locks accepted n m of is;
    }

-- ---- the totals

dead-left : (s : Slot) → s.live ≡ false → left s ≡ 0
dead-left s e = ap (λ (c : Bool). cond (c && (eqb s.spenders 0)) s.amount 0) e

dead-share : (lock : ℕ) (s : Slot) → s.live ≡ false → share lock s ≡ 0
dead-share lock s e = at (eqb s.lock lock)
  where
    at : (c : Bool) → cond c (left s) 0 ≡ 0
    at true = dead-left s e
    at false = refl

dead-total : (lock : ℕ) (slots : List Slot) → All (λ (b : Bool). b ≡ false) (map (λ (s : Slot). s.live) slots) → total_of lock slots ≡ 0
dead-total lock [] dead = refl
dead-total lock (s ∷ slots) dead =
    sum_by-cons (share lock) s slots
    ∙ (let here : share lock s ≡ 0 = dead-share lock s (dead 0 false (omega arith)) in
    let rest : total_of lock slots ≡ 0 = dead-total lock slots (All-tail (λ (b : Bool). b ≡ false) s.live (map (λ (s : Slot). s.live) slots) dead) in omega (arith, here, rest))

pub AreKept-take : (txs : List Transaction) (slots : List Slot) (sums starts locks : List ℕ) (accepted : List Bool) (n m count : ℕ) → IsOf txs (held_by slots starts locks accepted)
    → AreKept slots sums locks accepted → BeginEarly starts accepted → n ≤ length accepted → m ≡ length (coins_of (take n txs)) → NoneFrom n accepted → AreFirst locks (take m slots) count
    → AreKept (take m slots) (take count sums) (take count locks) (take n accepted)
AreKept-take txs slots sums starts locks accepted n m count of kept early le is none first =
    let flags : length (take n accepted) ≡ n = length-take-le n accepted le in
    let some : length slots ≡ length (coins_of txs) = sym (length-map slots (coin_of locks)) ∙ ap length of.coins in
    let within : m ≤ length slots = omega (arith, is, coins-few n txs, some) in
    let long : length (take m slots) ≡ m = length-take-le m slots within in
    let count_long : length (take count locks) ≡ count = length-take-le count locks first.within in
    let sums_long : length (take count sums) ≡ count = length-take-le count sums (omega (arith, first.within, kept.long)) in
    let front : length (take n accepted) ≡ length (take n txs) = flags ∙ sym (length-take-le n txs (omega (arith, le, of.flags))) in
    let lived : m ≡ length (lives (take n txs) (take n accepted)) = is ∙ sym (lives-long (take n txs) (take n accepted) front) in
    let dead : map (λ (s : Slot). s.live) (drop m slots) ≡ lives (drop n txs) (drop n accepted) =
    sym (drop-map (λ (s : Slot). s.live) m slots) ∙ ap (drop m) (of.live ∙ lives-split n txs accepted)
    ∙ ap (λ (k : ℕ). drop k (lives (take n txs) (take n accepted) ++ lives (drop n txs) (drop n accepted))) lived
    ∙ drop-append_seam (lives (take n txs) (take n accepted)) (lives (drop n txs) (drop n accepted)) in
    let few : m ≤ 16 * n = few_of in
    record {
      totals = record {
        few = omega (arith, long, within, kept.totals.few);
        in_locks = subst (λ (k : ℕ). All (λ (s : Slot). s.lock < k) (take m slots)) (sym sums_long) first.known;
        small = All-take (λ (s : Slot). s.amount < 2 ^ 64) m slots kept.totals.small;
        each = λ lock lt.
            (let low : lock < count = omega (arith, lt, sums_long) in
            let rest : total_of lock (drop m slots) ≡ 0 = dead-total lock (drop m slots) (subst (λ (l : List Bool). All (λ (b : Bool). b ≡ false) l) (sym dead) (all-dead (drop n txs) (drop n accepted) (drop-none n accepted none))) in
            let whole : total_of lock slots ≡ total_of lock (take m slots) + total_of lock (drop m slots) =
            ap (total_of lock) (sym (take-append-drop m slots)) ∙ sum_by-append (share lock) (take m slots) (drop m slots) in
            let was : slice_index sums lock ≡ total_of lock slots = kept.totals.each lock (omega (arith, low, first.within, kept.long)) in
            get_or-take count sums lock 0 low ∙ (let now : slice_index sums lock ≡ total_of lock (take m slots) = omega (arith, was, whole, rest) in now));
      };
      long = sums_long ∙ sym count_long;
      few = omega (arith, long, few, flags);
      few_locks = omega (arith, count_long, first.few);
      few_txs = omega (arith, flags, le, kept.few_txs);
    }
  where
    few_of : m ≤ 16 * n
    few_of =
        elim (cases_lt n (length txs)) [
          | inl less ↦ (let at = starts_at 0 txs n less in
              let start : slice_index starts n ≡ slice_index (starts_from 0 txs) n = ap (λ (l : List ℕ). slice_index l n) of.starts in
              let low = early.early n (omega (arith, less, early.long, of.flags)) in omega (arith, at, start, low, is))
          | inr past ↦ (let all : take n txs ≡ txs = take_all n txs past in
              let some : length slots ≡ length (coins_of txs) = sym (length-map slots (coin_of locks)) ∙ ap length of.coins in
              omega (arith, is, ap (λ (l : List Transaction). length (coins_of l)) all, some, kept.few, le, past, of.flags))
        ]

pub BeginEarly-take : (starts : List ℕ) (accepted : List Bool) (n : ℕ) → BeginEarly starts accepted → n ≤ length accepted → BeginEarly (take n starts) (take n accepted)
BeginEarly-take starts accepted n h le =
    let long : length (take n starts) ≡ n = length-take-le n starts (omega (arith, le, h.long)) in
    record {
      long = long ∙ sym (length-take-le n accepted le);
      early = λ tx lt. (let low = h.early tx (omega (arith, lt, long, le, h.long)) in
          let read = get_or-take n starts tx 0 (omega (arith, lt, long)) in omega (arith, low, read));
    }

-- one transaction more
pub BeginEarly-push : (slots : List Slot) (sums starts locks : List ℕ) (accepted : List Bool) → AreKept slots sums locks accepted → BeginEarly starts accepted
    → BeginEarly (starts ++ length slots ∷ []) (accepted ++ false ∷ [])
BeginEarly-push slots sums starts locks accepted kept h =
    record {
      long = omega (arith, length-append starts (length slots ∷ []), length-append accepted (false ∷ []), h.long);
      early = λ tx lt. elim (cases_lt tx (length starts)) [
        | inl less ↦ (let low = h.early tx less in let read = get_or-append starts (length slots ∷ []) 0 tx less in omega (arith, low, read))
        | inr past ↦ (let same : tx ≡ length starts = omega (arith, lt, past, length-append starts (length slots ∷ [])) in
            let read : slice_index (starts ++ length slots ∷ []) tx ≡ length slots = ap (slice_index (starts ++ length slots ∷ [])) same ∙ get_or-append_seam starts (length slots) [] 0 in
            omega (arith, read, same, kept.few, h.long))
      ];
    }

pub early_push : (old new : Store) (t : Transaction) (txs : List Transaction) → IsKept old → IsEarly old → held_of new ≡ with_tx txs (held_of old) t → IsEarly new
early_push old new t txs kept h is =
    let long : length (map (coin_of old.locks) old.slots.items) ≡ length old.slots.items = length-map old.slots.items (coin_of old.locks) in
    let starts : new.starts.items ≡ old.starts.items ++ length old.slots.items ∷ [] =
    ap (λ (x : Held). x.starts) is ∙ ap (λ (n : ℕ). old.starts.items ++ n ∷ []) long in
    rw (starts, ap (λ (x : Held). x.accepted) is) (BeginEarly-push old.slots.items old.totals.items old.starts.items old.locks old.accepted.items kept h)

-- ---- the tables

-- the first slots of all have the locks of the first transactions
pub first_of : (s : Store) (list : List Transaction) (n m count : ℕ) → IsOf list (held_of s) → AreDistinct s.locks → IsKept s
    → m ≡ length (coins_of (take n list)) → count ≡ length (locks_of (take n list)) → AreFirst s.locks (take m s.slots.items) count
first_of s list n m count of once kept is locks =
    let numbered : AreNumbered s.locks s.slots.items =
    are_numbered list s.slots.items s.totals.items s.starts.items s.locks s.accepted.items of once kept in
    let found = first_slots s.locks s.slots.items m numbered in
    let long : found.0 ≡ count =
    sym (length-take-le found.0 s.locks found.1.within)
    ∙ ap length (found.1.are ∙ front-locks list s.slots.items s.starts.items s.locks s.accepted.items n m of is) ∙ sym locks in
    subst (λ (k : ℕ). AreFirst s.locks (take m s.slots.items) k) long found.1

pub kept_cut : (old new : Store) (list : List Transaction) (n m count : ℕ) → IsOf list (held_of old) → IsKept old → IsEarly old → n ≤ length old.accepted.items
    → m ≡ length (coins_of (take n list)) → ((tx : ℕ) → n ≤ tx → is_set old.accepted.items tx ≡ false) → AreFirst old.locks (take m old.slots.items) count → IsFront old m n count new
    → IsKept new
kept_cut old new list n m count of kept early le is none first f =
    rw (f.slots, f.totals, f.locks, f.accepted)
    (AreKept-take list old.slots.items old.totals.items old.starts.items old.locks old.accepted.items n m count of kept early le is none first)

pub of_cut : (old new : Store) (list : List Transaction) (n m count : ℕ) → IsOf list (held_of old) → n ≤ length old.accepted.items
    → m ≡ length (coins_of (take n list)) → ((tx : ℕ) → n ≤ tx → is_set old.accepted.items tx ≡ false) → AreFirst old.locks (take m old.slots.items) count → IsFront old m n count new
    → IsOf (take n list) (held_of new)
of_cut old new list n m count of le is none first f =
    rw (f.slots, f.starts, f.locks, f.accepted)
    (IsOf-take list old.slots.items old.starts.items old.locks old.accepted.items n m count of le is none first)

pub early_cut : (old new : Store) (n m count : ℕ) → IsEarly old → n ≤ length old.accepted.items → IsFront old m n count new → IsEarly new
early_cut old new n m count h le f = rw (f.starts, f.accepted) (BeginEarly-take old.starts.items old.accepted.items n h le)

-- how many slots there are before those of a transaction
pub slots_before : (s : Store) (list : List Transaction) (n start slots r : ℕ) → IsOf list (held_of s) → n < length s.starts.items → start ≡ get_or s.starts.items n start
    → slots ≡ length s.slots.items → r ≡ min start slots → r ≡ length (coins_of (take n list))
slots_before s list n start slots r of lt is all low =
    let at = starts_at 0 list n (omega (arith, lt, ap length of.starts, length-starts 0 list)) in
    let read : start ≡ slice_index (starts_from 0 list) n =
    is ∙ get_or_default s.starts.items n start 0 lt ∙ ap (λ (l : List ℕ). slice_index l n) of.starts in
    let some : length s.slots.items ≡ length (coins_of list) = sym (length-map s.slots.items (coin_of s.locks)) ∙ ap length of.coins in
    omega (arith, at, read, some, all, low, coins-few n list)

pub slots_all : (s : Store) (list : List Transaction) (n slots : ℕ) → IsOf list (held_of s) → length s.starts.items ≤ n → slots ≡ length s.slots.items
    → slots ≡ length (coins_of (take n list))
slots_all s list n slots of past all =
    let whole : take n list ≡ list = take_all n list (omega (arith, past, ap length of.starts, length-starts 0 list)) in
    let some : length s.slots.items ≡ length (coins_of list) = sym (length-map s.slots.items (coin_of s.locks)) ∙ ap length of.coins in
    omega (arith, some, all, ap (λ (l : List Transaction). length (coins_of l)) whole)
