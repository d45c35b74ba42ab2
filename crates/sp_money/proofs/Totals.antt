-- The totals of locks stay those of the slots, where a slot is replaced, or a slot or a lock comes at the end.
use Rattle.std.proofs.Common.{◌≡◌, ℕ, suc, [], ◌∷◌, ◌+◌, ◌-◌, ◌*◌, ◌^◌, ◌<◌, ◌≤◌, Bool, true, false, cond, ◌==◌, List, ◌++◌, ◌⊎◌, length, set, refl, sym, ap, ◌∙◌, inl, inr, arith, eqb, get_or, get_or-set_other, get_or-set_same, length-set}
use Rattle.std.specs.Prelude.{All, sum_by, slice_index}
use Rattle.std.proofs.lemmas.List.{get_or_default, length_push, get_or_push, get_or_append_left}
use Rattle.std.proofs.lemmas.Bool.{cases_eq, cases_lt, eq-eqb, ne_eqb}
use Rattle.std.proofs.lemmas.List.Elements.{All-set, All-push}
use Rattle.std.proofs.lemmas.List.Sums.{sum_by-set, get_or-le-sum_by, sum_by-le}
use Rattle.std.proofs.Math.Nat.{mul-le-mul_right}
use Rattle.sp_carry.proofs.Sums.{sums, sum_by_is, sums-append}
use Rattle.sp_money.specs.declared.slot.Slot.{Slot}
use Rattle.sp_money.specs.Kept.{AreKept}
use Rattle.sp_money.specs.Totals.{is_left, left, share, total_of, AreTotals}

left_le : (s : Slot) → left s ≤ s.amount
left_le s = at (is_left s)
  where
    at : (b : Bool) → cond b s.amount 0 ≤ s.amount
    at true = omega arith
    at false = omega arith

share_own : (lock : ℕ) (s : Slot) → s.lock ≡ lock → share lock s ≡ left s
share_own lock s e = rw (eq-eqb s.lock lock e) refl

share_other : (lock : ℕ) (s : Slot) → (s.lock ≡ lock → ⊥) → share lock s ≡ 0
share_other lock s e = rw (ne_eqb s.lock lock e) refl

share_le : (lock : ℕ) (s : Slot) → share lock s ≤ s.amount
share_le lock s = at (eqb s.lock lock) (left_le s)
  where
    at : (b : Bool) → left s ≤ s.amount → cond b (left s) 0 ≤ s.amount
    at true h = h
    at false h = omega arith

-- the slot's part is within its lock's total
left_within : (slots : List Slot) (totals : List ℕ) (p : ℕ) (old : Slot) (lock : ℕ) → AreTotals slots totals → p < length slots → lock < length totals
    → old ≡ get_or slots p old → old.lock ≡ lock → left old ≤ slice_index totals lock
left_within slots totals p old lock h lt known read same =
    let part : share lock (get_or slots p old) ≤ sum_by (share lock) slots = get_or-le-sum_by (share lock) slots p old lt in
    let at : share lock (get_or slots p old) ≡ left old = ap (share lock) (sym read) ∙ share_own lock old same in
    let total : slice_index totals lock ≡ total_of lock slots = h.each lock known in
    omega arith

total_small : (slots : List Slot) (totals : List ℕ) (lock : ℕ) → AreTotals slots totals → lock < length totals → slice_index totals lock ≤ 2 ^ 96
total_small slots totals lock h known =
    let total : slice_index totals lock ≡ total_of lock slots = h.each lock known in
    let most : sum_by (share lock) slots ≤ length slots * 2 ^ 64 = sum_by-le (share lock) (2 ^ 64) slots (λ k d lt. at (get_or slots k d) (h.small k d lt)) in
    let few : length slots ≤ 2 ^ 32 = h.few in
    let all : length slots * 2 ^ 64 ≤ 2 ^ 32 * 2 ^ 64 = mul-le-mul_right (2 ^ 64) few in
    omega arith
  where
    at : (s : Slot) → s.amount < 2 ^ 64 → share lock s ≤ 2 ^ 64
    at s h = let l : share lock s ≤ s.amount = share_le lock s in omega arith

-- the total of a lock, where the total of the slot's lock changes by the slot's part
total_put : (slots : List Slot) (totals : List ℕ) (p : ℕ) (old s : Slot) (lock : ℕ) → AreTotals slots totals → p < length slots → s.lock < length totals
    → old ≡ get_or slots p old → old.lock ≡ s.lock → lock < length totals
    → get_or (set totals s.lock (slice_index totals s.lock - left old + left s)) lock 0 ≡ total_of lock (set slots p s)
total_put slots totals p old s lock h lt known read same inside =
    let moved : sum_by (share lock) (set slots p s) + share lock (get_or slots p old) ≡ sum_by (share lock) slots + share lock s = sum_by-set (share lock) slots p s old lt in
    let total : slice_index totals lock ≡ total_of lock slots = h.each lock inside in
    let now : share lock (get_or slots p old) ≡ share lock old = ap (share lock) (sym read) in
    elim (cases_eq s.lock lock) [
      | inl here ↦ (let a : share lock old ≡ left old = share_own lock old (same ∙ here) in
          let b : share lock s ≡ left s = share_own lock s here in
          let within : left old ≤ slice_index totals s.lock = left_within slots totals p old s.lock h lt known read same in
          let e : get_or (set totals s.lock (slice_index totals s.lock - left old + left s)) lock 0 ≡ slice_index totals s.lock - left old + left s =
          ap (λ (k : ℕ). get_or (set totals s.lock (slice_index totals s.lock - left old + left s)) k 0) (sym here) ∙ get_or-set_same totals s.lock (slice_index totals s.lock - left old + left s) 0 known in
          let f : slice_index totals s.lock ≡ slice_index totals lock = ap (slice_index totals) here in
          omega arith)
      | inr apart ↦ (let a : share lock old ≡ 0 = share_other lock old (λ e. apart (sym same ∙ e)) in
          let b : share lock s ≡ 0 = share_other lock s apart in
          let e : get_or (set totals s.lock (slice_index totals s.lock - left old + left s)) lock 0 ≡ get_or totals lock 0 =
          get_or-set_other totals s.lock lock (slice_index totals s.lock - left old + left s) 0 (λ e. apart (sym e)) in
          omega arith)
    ]

totals_put : (slots : List Slot) (totals : List ℕ) (p new : ℕ) (old s : Slot) → AreTotals slots totals → p < length slots
    → old ≡ get_or slots p old → old.lock ≡ s.lock → old.amount ≡ s.amount → new ≡ slice_index totals s.lock - left old + left s
    → AreTotals (set slots p s) (set totals s.lock new)
totals_put slots totals p new old s h lt read same amount e =
    record {
      few = (let few : length slots ≤ 2 ^ 32 = h.few in let l : length (set slots p s) ≡ length slots = length-set slots p s in omega arith);
      in_locks = All-set (λ (t : Slot). t.lock < length (set totals s.lock new)) slots p s (in_longer s.lock known) (λ k d less. in_longer (get_or slots k d).lock (h.in_locks k d less));
      small = All-set (λ (t : Slot). t.amount < 2 ^ 64) slots p s size h.small;
      each = λ lock inside. rw e (total_put slots totals p old s lock h lt known read same (in_shorter lock inside));
    }
  where
    known : s.lock < length totals
    known =
        let l : (get_or slots p old).lock < length totals = h.in_locks p old lt in
        let e : (get_or slots p old).lock ≡ s.lock = sym (ap (λ (t : Slot). t.lock) read) ∙ same in
        omega arith

    size : s.amount < 2 ^ 64
    size =
        let l : (get_or slots p old).amount < 2 ^ 64 = h.small p old lt in
        let e : (get_or slots p old).amount ≡ s.amount = sym (ap (λ (t : Slot). t.amount) read) ∙ amount in
        omega arith

    in_longer : (k : ℕ) → k < length totals → k < length (set totals s.lock new)
    in_longer k less = let l : length (set totals s.lock new) ≡ length totals = length-set totals s.lock new in omega arith

    in_shorter : (k : ℕ) → k < length (set totals s.lock new) → k < length totals
    in_shorter k less = let l : length (set totals s.lock new) ≡ length totals = length-set totals s.lock new in omega arith

-- a slot that is read, known by its place with another default
read_as : (slots : List Slot) (p : ℕ) (old s : Slot) → p < length slots → old ≡ get_or slots p old
    → (get_or slots p s).lock ≡ s.lock → (get_or slots p s).amount ≡ s.amount → (old.lock ≡ s.lock) × (old.amount ≡ s.amount)
read_as slots p old s lt read lock amount =
    let e : old ≡ get_or slots p s = read ∙ get_or_default slots p old s lt in
    (ap (λ (t : Slot). t.lock) e ∙ lock, ap (λ (t : Slot). t.amount) e ∙ amount)

-- all that a change of a slot needs
pub record Changes (slots : List Slot) (totals : List ℕ) (p total : ℕ) (old s : Slot) : Type 0 where
  pub low : left old ≤ total
  pub high : total ≤ 2 ^ 96
  pub after : (new : ℕ) → new ≡ total - left old + left s → AreTotals (set slots p s) (set totals s.lock new)

pub slot_changes : (slots : List Slot) (totals : List ℕ) (p total : ℕ) (old s : Slot) → AreTotals slots totals → p < length slots
    → old ≡ get_or slots p old → (get_or slots p s).lock ≡ s.lock → (get_or slots p s).amount ≡ s.amount → total ≡ get_or totals s.lock total
    → Changes slots totals p total old s
slot_changes slots totals p total old s h lt read lock amount at =
    let same : (old.lock ≡ s.lock) × (old.amount ≡ s.amount) = read_as slots p old s lt read lock amount in
    let in_lock : (get_or slots p s).lock < length totals = h.in_locks p s lt in
    let known : s.lock < length totals = omega arith in
    let e : total ≡ slice_index totals s.lock = at ∙ get_or_default totals s.lock total 0 known in
    record {
      low = (let l : left old ≤ slice_index totals s.lock = left_within slots totals p old s.lock h lt known read same.0 in omega arith);
      high = (let l : slice_index totals s.lock ≤ 2 ^ 96 = total_small slots totals s.lock h known in omega arith);
      after = λ new f. totals_put slots totals p new old s h lt read same.0 same.1 (f ∙ ap (λ (k : ℕ). k - left old + left s) e);
    }

dead_share : (lock : ℕ) (s : Slot) → s.live ≡ false → share lock s ≡ 0
dead_share lock s dead = rw dead (at (s.lock == lock))
  where
    at : (b : Bool) → cond {A = ℕ} b 0 0 ≡ 0
    at true = refl
    at false = refl

total_push : (lock : ℕ) (slots : List Slot) (s : Slot) → s.live ≡ false → total_of lock (slots ++ s ∷ []) ≡ total_of lock slots
total_push lock slots s dead =
    let a : total_of lock (slots ++ s ∷ []) ≡ sums (share lock) (slots ++ s ∷ []) = sum_by_is (share lock) (slots ++ s ∷ []) in
    let b : total_of lock slots ≡ sums (share lock) slots = sum_by_is (share lock) slots in
    let c : sums (share lock) (slots ++ s ∷ []) ≡ sums (share lock) slots + (share lock s + 0) = sums-append (share lock) slots (s ∷ []) in
    let d : share lock s ≡ 0 = dead_share lock s dead in
    omega arith

-- one more output of a transaction that isn't accepted
pub totals_push : (slots : List Slot) (totals : List ℕ) (s : Slot) → AreTotals slots totals → length slots < 2 ^ 32
    → s.live ≡ false → s.lock < length totals → s.amount < 2 ^ 64 → AreTotals (slots ++ s ∷ []) totals
totals_push slots totals s h few dead known size =
    record {
      few = (let l : length (slots ++ s ∷ []) ≡ length slots + 1 = length_push slots s in omega arith);
      in_locks = All-push (λ (t : Slot). t.lock < length totals) slots s h.in_locks known;
      small = All-push (λ (t : Slot). t.amount < 2 ^ 64) slots s h.small size;
      each = λ lock inside. h.each lock inside ∙ sym (total_push lock slots s dead);
    }

no_total : (lock : ℕ) (slots : List Slot) → All (λ (t : Slot). t.lock < lock) slots → sums (share lock) slots ≡ 0
no_total lock [] h = refl
no_total lock (s ∷ slots) h =
    let here : share lock s ≡ 0 = share_other lock s (λ e. let lt : s.lock < lock = h 0 s (omega arith) in omega arith) in
    let rest : sums (share lock) slots ≡ 0 = no_total lock slots (λ k d lt. h (suc k) d (omega arith)) in
    omega arith

-- one more lock, which no output has
pub totals_more : (slots : List Slot) (totals : List ℕ) → AreTotals slots totals → AreTotals slots (totals ++ 0 ∷ [])
totals_more slots totals h =
    record {
      few = h.few;
      in_locks = λ k d less. let l : (get_or slots k d).lock < length totals = h.in_locks k d less in omega (arith, longer);
      small = h.small;
      each = λ lock inside. at lock (cases_lt lock (length totals)) inside;
    }
  where
    longer : length (totals ++ 0 ∷ []) ≡ length totals + 1
    longer = length_push totals 0

    at : (lock : ℕ) → (lock < length totals) ⊎ (length totals ≤ lock) → lock < length (totals ++ 0 ∷ [])
        → slice_index (totals ++ 0 ∷ []) lock ≡ total_of lock slots
    at lock (inl low) inside = get_or_append_left totals (0 ∷ []) 0 lock low ∙ h.each lock low
    at lock (inr high) inside =
        let same : length totals ≡ lock = omega (arith, longer) in
        get_or_push totals 0 0 lock same
        ∙ sym (sum_by_is (share lock) slots ∙ no_total lock slots (λ k d less. let l : (get_or slots k d).lock < length totals = h.in_locks k d less in omega arith))

-- what is kept stays so where a slot changes
pub kept_put : (slots : List Slot) (sums locks : List ℕ) (accepted : List Bool) (p total new : ℕ) (old s : Slot) → AreKept slots sums locks accepted
    → Changes slots sums p total old s → new ≡ total - left old + left s → AreKept (set slots p s) (set sums s.lock new) locks accepted
kept_put slots sums locks accepted p total new old s h changes e =
    let n : length (set slots p s) ≡ length slots = length-set slots p s in
    let m : length (set sums s.lock new) ≡ length sums = length-set sums s.lock new in
    record {
      totals = changes.after new e;
      long = m ∙ h.long;
      few = (let few : length slots ≤ 16 * length accepted = h.few in omega (arith, n, few));
      few_locks = (let few : length locks ≤ length slots = h.few_locks in omega (arith, n, few));
      few_txs = h.few_txs;
    }
