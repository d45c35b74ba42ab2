-- What is left of the slots is what the accepted transactions leave.
use Rattle.std.proofs.Common.{◌≡◌, ℕ, zero, suc, ◌+◌, ◌<◌, Bool, true, false, cond, not, ◌||◌, ◌&&◌, ◌==◌, List, [], ◌∷◌, ◌++◌, map, length, get_or, Some, None, eqb, refl, sym, ap, ◌∙◌, inl, inr, arith}
use Rattle.std.specs.Prelude.{All, is_some, filter, flat_map, position, nat_eq, slice_get, slice_index}
use Rattle.std.proofs.lemmas.Bool.{cases_Bool, cases_eq, false≢true, eq-eqb, ne_eqb}
use Rattle.std.proofs.lemmas.List.Elements.{All-filter}
use Rattle.std.proofs.lemmas.List.Sums.{sum_by-cons}
use Rattle.sp_model.specs.Graph.{AreDistinct, has}
use Rattle.sp_tx.specs.declared.parts.Output.{Output}
use Rattle.sp_tx.specs.Parts.{Transaction}
use Rattle.sp_carry.specs.Payment.{Payment, payment_of, spends}
use Rattle.sp_carry.specs.Money.{Coin, balance_of, coins, coins_from, is_spent, unspent, worth}
use Rattle.sp_carry.proofs.Sums.{sums, sum_by_is}
use Rattle.sp_money.specs.declared.slot.Slot.{Slot}
use Rattle.sp_money.specs.Accepted.{accepted_in}
use Rattle.sp_money.specs.Held.{coins_of, lives, spender_count, IsOf}
use Rattle.sp_money.specs.Kept.{coin_of, held_by, AreKept}
use Rattle.sp_money.specs.Totals.{is_left, share, total_of}
use Rattle.sp_money.proofs.Numbered.{found}
use Rattle.sp_carry.proofs.Places.{has_place}
use Rattle.sp_money.proofs.Pushes.{get_some}
use Rattle.sp_money.specs.Names.{is_left_under, left_names, names_under}

-- ---- the outputs of accepted transactions, among all

-- those whose flag is set
abbrev chosen : List Coin → List Bool → List Coin
chosen [] flags = []
chosen (c ∷ cs) [] = []
chosen (c ∷ cs) (b ∷ bs) = cond b (c ∷ chosen cs bs) (chosen cs bs)

chosen_all : (id k : ℕ) (os : List Output) (cs : List Coin) (bs : List Bool)
    → chosen (coins_from id k os ++ cs) (map (λ (o : Output). true) os ++ bs) ≡ coins_from id k os ++ chosen cs bs
chosen_all id k [] cs bs = refl
chosen_all id k (o ∷ os) cs bs =
    ap (λ (ds : List Coin). record { name = record { tx = id; index = k }; amount = o.amount; lock = o.lock } ∷ ds) (chosen_all id (suc k) os cs bs)

chosen_none : (id k : ℕ) (os : List Output) (cs : List Coin) (bs : List Bool)
    → chosen (coins_from id k os ++ cs) (map (λ (o : Output). false) os ++ bs) ≡ chosen cs bs
chosen_none id k [] cs bs = refl
chosen_none id k (o ∷ os) cs bs = chosen_none id (suc k) os cs bs

no_flags : (cs : List Coin) → chosen cs [] ≡ []
no_flags [] = refl
no_flags (c ∷ cs) = refl

chosen_accepted : (txs : List Transaction) (flags : List Bool) → chosen (coins_of txs) (lives txs flags) ≡ flat_map coins (accepted_in txs flags)
chosen_accepted [] flags = refl
chosen_accepted (t ∷ ts) [] = no_flags (coins_of (t ∷ ts))
chosen_accepted (t ∷ ts) (true ∷ flags) =
    chosen_all (payment_of t).id 0 t.outputs (coins_of ts) (lives ts flags) ∙ ap (λ (cs : List Coin). coins (payment_of t) ++ cs) (chosen_accepted ts flags)
chosen_accepted (t ∷ ts) (false ∷ flags) = chosen_none (payment_of t).id 0 t.outputs (coins_of ts) (lives ts flags) ∙ chosen_accepted ts flags

-- ---- an output is spent where its count of spenders isn't 0

counts_none : (c : Coin) (ts : List Payment) → (spender_count ts c == 0) ≡ not (is_spent ts c)
counts_none c [] = refl
counts_none c (t ∷ ts) =
    ap (λ (n : ℕ). n == 0) (sum_by-cons (λ (u : Payment). cond (spends u c.name) 1 0) t ts) ∙ at (spends t c.name) (counts_none c ts)
  where
    at : (b : Bool) → (spender_count ts c == 0) ≡ not (is_spent ts c) → (cond b 1 0 + spender_count ts c == 0) ≡ not (b || is_spent ts c)
    at true e = ne_eqb (1 + spender_count ts c) 0 (λ h. omega arith)
    at false e = (let none : 0 + spender_count ts c ≡ spender_count ts c = omega arith in rw none e)

-- ---- what is left of the slots

module _ (locks : List ℕ) (accepted : List Payment) where
  -- the slots that are left are the unspent outputs of accepted transactions
  left_coins : (slots : List Slot) → map (λ (s : Slot). s.spenders) slots ≡ map (spender_count accepted) (map (coin_of locks) slots)
      → map (coin_of locks) (filter is_left slots)
      ≡ filter (λ c. not (is_spent accepted c)) (chosen (map (coin_of locks) slots) (map (λ (s : Slot). s.live) slots))
  left_coins [] e = refl
  left_coins (s ∷ slots) e =
      let here : s.spenders ≡ spender_count accepted (coin_of locks s) = head_same e in
      let none : (s.spenders == 0) ≡ not (is_spent accepted (coin_of locks s)) = ap (λ (n : ℕ). n == 0) here ∙ counts_none (coin_of locks s) accepted in
      rw none (at s.live (not (is_spent accepted (coin_of locks s))) refl (left_coins slots (tail_same e)))
    where
      head_same : {x y : ℕ} {xs ys : List ℕ} → x ∷ xs ≡ y ∷ ys → x ≡ y
      head_same e = cc

      tail_same : {x y : ℕ} {xs ys : List ℕ} → x ∷ xs ≡ y ∷ ys → xs ≡ ys
      tail_same e = cc

      at : (live free : Bool) → not (is_spent accepted (coin_of locks s)) ≡ free
          → map (coin_of locks) (filter is_left slots)
          ≡ filter (λ c. not (is_spent accepted c)) (chosen (map (coin_of locks) slots) (map (λ (s : Slot). s.live) slots))
          → map (coin_of locks) (cond (live && free) (s ∷ filter is_left slots) (filter is_left slots))
          ≡ filter (λ c. not (is_spent accepted c)) (cond live (coin_of locks s ∷ chosen (map (coin_of locks) slots) (map (λ (s : Slot). s.live) slots)) (chosen (map (coin_of locks) slots) (map (λ (s : Slot). s.live) slots)))
      at true true f rest = rw f (ap (λ (cs : List Coin). coin_of locks s ∷ cs) rest)
      at true false f rest = rw f rest
      at false free f rest = rest

-- the unspent outputs of what a purse is of
left_unspent : (slots : List Slot) (starts locks : List ℕ) (flags : List Bool) (txs : List Transaction) → IsOf txs (held_by slots starts locks flags)
    → map (coin_of locks) (filter is_left slots) ≡ unspent (accepted_in txs flags)
left_unspent slots starts locks flags txs of =
    left_coins locks (accepted_in txs flags) slots (of.spenders ∙ ap (map (spender_count (accepted_in txs flags))) (sym of.coins))
    ∙ ap (filter (λ c. not (is_spent (accepted_in txs flags) c)))
    (ap (λ (cs : List Coin). chosen cs (map (λ (s : Slot). s.live) slots)) of.coins ∙ ap (chosen (coins_of txs)) of.live ∙ chosen_accepted txs flags)

-- ---- under one lock

has_number : (ks : List ℕ) (m k : ℕ) → m < length ks → slice_index ks m ≡ k → has ks k ≡ true
has_number [] m k lt e = absurd (omega arith)
has_number (x ∷ ks) zero k lt e = rw (eq-eqb x k e) refl
has_number (x ∷ ks) (suc m) k lt e = at (eqb x k) (has_number ks m k (omega arith) e)
  where
    at : (b : Bool) → has ks k ≡ true → (b || has ks k) ≡ true
    at true h = refl
    at false h = h

-- locks of different numbers are different
number_same : (locks : List ℕ) (n m : ℕ) → AreDistinct locks → n < length locks → m < length locks → slice_index locks n ≡ slice_index locks m → n ≡ m
number_same [] n m once lt lt' e = absurd (omega arith)
number_same (k ∷ ks) zero zero once lt lt' e = refl
number_same (k ∷ ks) zero (suc m) once lt lt' e = absurd (false≢true (sym once.0 ∙ has_number ks m k (omega arith) (sym e)))
number_same (k ∷ ks) (suc n) zero once lt lt' e = absurd (false≢true (sym once.0 ∙ has_number ks n k (omega arith) e))
number_same (k ∷ ks) (suc n) (suc m) once lt lt' e = ap suc (number_same ks n m once.1 (omega arith) (omega arith) e)

same_lock : (locks : List ℕ) (n m lock : ℕ) → AreDistinct locks → n < length locks → m < length locks → slice_index locks m ≡ lock
    → eqb n m ≡ eqb (slice_index locks n) lock
same_lock locks n m lock once lt lt' is =
    elim (cases_eq n m) [
      | inl e ↦ eq-eqb n m e ∙ sym (eq-eqb (slice_index locks n) lock (ap (slice_index locks) e ∙ is))
      | inr ne ↦ ne_eqb n m ne ∙ sym (ne_eqb (slice_index locks n) lock (λ e. ne (number_same locks n m once lt lt' (e ∙ sym is))))
    ]

module _ (locks : List ℕ) (number lock : ℕ) (once : AreDistinct locks) (known : number < length locks) (is : slice_index locks number ≡ lock) where
  -- the total of a lock's number is what its outputs that are left are worth
  total_worth : (slots : List Slot) → All (λ (s : Slot). s.lock < length locks) slots
      → sums (share number) slots ≡ sums (λ (c : Coin). c.amount) (filter (λ (c : Coin). c.lock == lock) (map (coin_of locks) (filter is_left slots)))
  total_worth [] h = refl
  total_worth (s ∷ slots) h =
      let lt : s.lock < length locks = h 0 s (omega arith) in
      let same : eqb s.lock number ≡ eqb (slice_index locks s.lock) lock = same_lock locks s.lock number lock once lt known is in
      rw same (at (is_left s) (eqb (slice_index locks s.lock) lock) refl refl (total_worth slots (λ k d less. h (suc k) d (omega arith))))
    where
      at : (a b : Bool) → is_left s ≡ a → eqb (slice_index locks s.lock) lock ≡ b
          → sums (share number) slots ≡ sums (λ (c : Coin). c.amount) (filter (λ (c : Coin). c.lock == lock) (map (coin_of locks) (filter is_left slots)))
          → cond b (cond a s.amount 0) 0 + sums (share number) slots
          ≡ sums (λ (c : Coin). c.amount) (filter (λ (c : Coin). c.lock == lock) (map (coin_of locks) (cond a (s ∷ filter is_left slots) (filter is_left slots))))
      at true true e f rest = rw f (ap (λ (n : ℕ). s.amount + n) rest)
      at true false e f rest = rw f (omega arith)
      at false true e f rest = omega arith
      at false false e f rest = omega arith

  total_balance : (slots : List Slot) (starts : List ℕ) (flags : List Bool) (txs : List Transaction) → IsOf txs (held_by slots starts locks flags)
      → All (λ (s : Slot). s.lock < length locks) slots → total_of number slots ≡ balance_of (accepted_in txs flags) lock
  total_balance slots starts flags txs of in_locks =
      sum_by_is (share number) slots ∙ total_worth slots in_locks
      ∙ ap (λ (cs : List Coin). sums (λ (c : Coin). c.amount) (filter (λ (c : Coin). c.lock == lock) cs)) (left_unspent slots starts locks flags txs of)
      ∙ sym (sum_by_is (λ (c : Coin). c.amount) (filter (λ (c : Coin). c.lock == lock) (unspent (accepted_in txs flags))))

  -- the names of the slots that are left under a lock's number
  names_left : (slots : List Slot) → All (λ (s : Slot). s.lock < length locks) slots
      → left_names number slots ≡ map (λ (c : Coin). c.name) (filter (λ (c : Coin). c.lock == lock) (map (coin_of locks) (filter is_left slots)))
  names_left [] h = refl
  names_left (s ∷ slots) h =
      let lt : s.lock < length locks = h 0 s (omega arith) in
      let same : eqb s.lock number ≡ eqb (slice_index locks s.lock) lock = same_lock locks s.lock number lock once lt known is in
      rw same (at (is_left s) (eqb (slice_index locks s.lock) lock) refl refl (names_left slots (λ k d less. h (suc k) d (omega arith))))
    where
      at : (a b : Bool) → is_left s ≡ a → eqb (slice_index locks s.lock) lock ≡ b
          → left_names number slots ≡ map (λ (c : Coin). c.name) (filter (λ (c : Coin). c.lock == lock) (map (coin_of locks) (filter is_left slots)))
          → map (λ (s : Slot). s.name) (cond (b && a) (s ∷ filter (is_left_under number) slots) (filter (is_left_under number) slots))
          ≡ map (λ (c : Coin). c.name) (filter (λ (c : Coin). c.lock == lock) (map (coin_of locks) (cond a (s ∷ filter is_left slots) (filter is_left slots))))
      at true true e f rest = rw f (ap (λ ns. s.name ∷ ns) rest)
      at true false e f rest = rw f rest
      at false true e f rest = rest
      at false false e f rest = rest

  names_unspent : (slots : List Slot) (starts : List ℕ) (flags : List Bool) (txs : List Transaction) → IsOf txs (held_by slots starts locks flags)
      → All (λ (s : Slot). s.lock < length locks) slots → left_names number slots ≡ names_under (accepted_in txs flags) lock
  names_unspent slots starts flags txs of in_locks =
      names_left slots in_locks
      ∙ ap (λ (cs : List Coin). map (λ (c : Coin). c.name) (filter (λ (c : Coin). c.lock == lock) cs)) (left_unspent slots starts locks flags txs of)

-- ---- under a lock that no output has

module _ (locks : List ℕ) (lock : ℕ) (absent : has locks lock ≡ false) where
  none_of : (slots : List Slot) → All (λ (s : Slot). s.lock < length locks) slots → filter (λ (c : Coin). c.lock == lock) (map (coin_of locks) slots) ≡ []
  none_of [] h = refl
  none_of (s ∷ slots) h =
      rw (other locks s.lock absent (h 0 s (omega arith)), none_of slots (λ k d less. h (suc k) d (omega arith))) refl
    where
      other : (ks : List ℕ) (n : ℕ) → has ks lock ≡ false → n < length ks → eqb (slice_index ks n) lock ≡ false
      other [] n none lt = absurd (omega arith)
      other (k ∷ ks) zero none lt = elim (cases_Bool (eqb k lock)) [
        | inl e ↦ absurd (false≢true (sym none ∙ ap (λ b. b || has ks lock) e))
        | inr e ↦ e
      ]
      other (k ∷ ks) (suc n) none lt = elim (cases_Bool (eqb k lock)) [
        | inl e ↦ absurd (false≢true (sym none ∙ ap (λ b. b || has ks lock) e))
        | inr e ↦ other ks n (sym (ap (λ b. b || has ks lock) e) ∙ none) (omega arith)
      ]

  none_unspent : (slots : List Slot) (starts : List ℕ) (flags : List Bool) (txs : List Transaction) → IsOf txs (held_by slots starts locks flags)
      → All (λ (s : Slot). s.lock < length locks) slots → filter (λ (c : Coin). c.lock == lock) (unspent (accepted_in txs flags)) ≡ []
  none_unspent slots starts flags txs of in_locks =
      ap (filter (λ (c : Coin). c.lock == lock)) (sym (left_unspent slots starts locks flags txs of))
      ∙ none_of (filter is_left slots) (All-filter is_left (λ (s : Slot). s.lock < length locks) slots in_locks)

-- ---- what a purse answers, where it is as it always is

-- each slot's lock is one of the locks
locks_there : (slots : List Slot) (sums locks : List ℕ) (flags : List Bool) → AreKept slots sums locks flags → All (λ (s : Slot). s.lock < length locks) slots
locks_there slots sums locks flags h = λ k d lt.
    let l : (get_or slots k d).lock < length sums = h.totals.in_locks k d lt in
    let e : length sums ≡ length locks = h.long in
    omega arith

-- the total under a number is the balance of its lock
pub known_balance : (slots : List Slot) (sums starts locks : List ℕ) (flags : List Bool) (number lock total : ℕ) → AreKept slots sums locks flags → AreDistinct locks
    → slice_get locks number ≡ Some lock → total ≡ total_of number slots
    → (txs : List Transaction) → IsOf txs (held_by slots starts locks flags) → total ≡ balance_of (accepted_in txs flags) lock
known_balance slots sums starts locks flags number lock total h once at e txs of =
    let r : (number < length locks) × (slice_index locks number ≡ lock) = get_some locks number lock at in
    e ∙ total_balance locks number lock once r.0 r.1 slots starts flags txs of (locks_there slots sums locks flags h)

-- a lock that no output has
pub no_balance : (slots : List Slot) (sums starts locks : List ℕ) (flags : List Bool) (lock : ℕ) → AreKept slots sums locks flags
    → position (nat_eq lock) locks ≡ None
    → (txs : List Transaction) → IsOf txs (held_by slots starts locks flags) → 0 ≡ balance_of (accepted_in txs flags) lock
no_balance slots sums starts locks flags lock h at txs of =
    sym (ap worth (none_unspent locks lock (has_place locks lock ∙ ap is_some at) slots starts flags txs of (locks_there slots sums locks flags h)))

-- the names of what is left under a number are those of what is unspent under its lock
pub known_names : (slots : List Slot) (sums starts locks : List ℕ) (flags : List Bool) (number lock : ℕ) → AreKept slots sums locks flags → AreDistinct locks
    → position (nat_eq lock) locks ≡ Some number
    → (txs : List Transaction) → IsOf txs (held_by slots starts locks flags) → left_names number slots ≡ names_under (accepted_in txs flags) lock
known_names slots sums starts locks flags number lock h once at txs of =
    let r : (number < length locks) × (slice_index locks number ≡ lock) = get_some locks number lock (found locks lock number at) in
    names_unspent locks number lock once r.0 r.1 slots starts flags txs of (locks_there slots sums locks flags h)

pub no_names : (slots : List Slot) (sums starts locks : List ℕ) (flags : List Bool) (lock : ℕ) → AreKept slots sums locks flags
    → position (nat_eq lock) locks ≡ None
    → (txs : List Transaction) → IsOf txs (held_by slots starts locks flags) → [] ≡ names_under (accepted_in txs flags) lock
no_names slots sums starts locks flags lock h at txs of =
    sym (ap (map (λ (c : Coin). c.name)) (none_unspent locks lock (has_place locks lock ∙ ap is_some at) slots starts flags txs of (locks_there slots sums locks flags h)))
