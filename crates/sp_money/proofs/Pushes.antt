-- What a purse holds where an output of a transaction that isn't accepted comes at the end.
use Rattle.std.proofs.Common.{◌≡◌, ℕ, zero, suc, ◌+◌, ◌*◌, ◌<◌, ◌≤◌, ◌^◌, Bool, true, false, cond, List, [], ◌∷◌, ◌++◌, map, length, get_or, Some, refl, sym, ap, ◌∙◌, arith}
use Rattle.std.specs.Prelude.{All, slice_get, slice_index}
use Rattle.std.proofs.lemmas.List.{append-nil, length-append, length_push, map-append, get_or_append_left}
use Rattle.sp_ids.specs.declared.outpoint.Outpoint.{Outpoint}
use Rattle.sp_model.specs.Graph.{has}
use Rattle.sp_carry.specs.Money.{Coin}
use Rattle.sp_money.specs.declared.slot.Slot.{Slot}
use Rattle.sp_money.specs.Locks.{with_id}
use Rattle.sp_money.specs.Totals.{AreTotals}
use Rattle.sp_money.specs.Kept.{AreKept, coin_of, held_by}
use Rattle.sp_money.specs.Growth.{with_outputs}
use Rattle.sp_money.proofs.Totals.{totals_push}

-- what stands at a place of a list, and that it is one
pub get_some : (xs : List ℕ) (n k : ℕ) → slice_get xs n ≡ Some k → (n < length xs) × (slice_index xs n ≡ k)
get_some [] n k e = cc
get_some (x ∷ xs) zero k e = (omega arith, cc)
get_some (x ∷ xs) (suc n) k e = let r : (n < length xs) × (slice_index xs n ≡ k) = get_some xs n k e in (omega (arith, r.0), r.1)

-- one more, or none
id_behind : (xs : List ℕ) (k : ℕ) → (more : List ℕ) × (with_id xs k ≡ xs ++ more) × (length more ≤ 1)
id_behind xs k = at (has xs k)
  where
    at : (b : Bool) → (more : List ℕ) × (cond b xs (xs ++ k ∷ []) ≡ xs ++ more) × (length more ≤ 1)
    at true = ([], sym (append-nil xs), omega arith)
    at false = (k ∷ [], refl, omega arith)

-- locks behind the others change no output
coins_same : (locks more : List ℕ) (slots : List Slot) → All (λ (s : Slot). s.lock < length locks) slots
    → map (coin_of (locks ++ more)) slots ≡ map (coin_of locks) slots
coins_same locks more [] h = refl
coins_same locks more (s ∷ slots) h =
    let here : slice_index (locks ++ more) s.lock ≡ slice_index locks s.lock = get_or_append_left locks more 0 s.lock (h 0 s (omega arith)) in
    rw (here, coins_same locks more slots (λ k d lt. h (suc k) d (omega arith))) refl

module _ (slots : List Slot) (sums sums' locks locks' starts : List ℕ) (accepted : List Bool) (lock n amount count : ℕ) (name : Outpoint)
    (h : AreKept slots sums locks accepted) (more : locks' ≡ with_id locks lock) (at : slice_get locks' n ≡ Some lock) where
  pub kept_push : length slots < 16 * length accepted → AreTotals slots sums' → length sums' ≡ length locks' → amount < 2 ^ 64
      → AreKept (slots ++ record { name = name; live = false; lock = n; amount = amount; spenders = count } ∷ []) sums' locks' accepted
  kept_push room totals long small =
      let few_txs : length accepted ≤ 131072 = h.few_txs in
      let behind : (zs : List ℕ) × (with_id locks lock ≡ locks ++ zs) × (length zs ≤ 1) = id_behind locks lock in
      let longer : length locks' ≡ length locks + length behind.0 = ap length (more ∙ behind.1) ∙ length-append locks behind.0 in
      let known : n < length locks' = (get_some locks' n lock at).0 in
      let pushed : length (slots ++ record { name = name; live = false; lock = n; amount = amount; spenders = count } ∷ []) ≡ length slots + 1 =
      length_push slots _ in
      record {
        totals = totals_push slots sums' (record { name = name; live = false; lock = n; amount = amount; spenders = count }) totals (omega arith) refl (omega arith) small;
        long = long;
        few = omega arith;
        few_locks = (let few : length locks ≤ length slots = h.few_locks in let one : length behind.0 ≤ 1 = behind.2 in omega arith);
        few_txs = few_txs;
      }

  pub held_push : held_by (slots ++ record { name = name; live = false; lock = n; amount = amount; spenders = count } ∷ []) starts locks' accepted
      ≡ with_outputs (λ (c : Coin). count) (held_by slots starts locks accepted) (record { name = name; amount = amount; lock = lock } ∷ [])
  held_push =
      let behind : (zs : List ℕ) × (with_id locks lock ≡ locks ++ zs) × (length zs ≤ 1) = id_behind locks lock in
      let known : All (λ (s : Slot). s.lock < length locks) slots = λ k d lt. let l : (get_or slots k d).lock < length sums = h.totals.in_locks k d lt in let e : length sums ≡ length locks = h.long in omega arith in
      let coins : map (coin_of locks') slots ≡ map (coin_of locks) slots =
      ap (λ (ls : List ℕ). map (coin_of ls) slots) (more ∙ behind.1) ∙ coins_same locks behind.0 slots known in
      rw (
        map-append (coin_of locks') slots (record { name = name; live = false; lock = n; amount = amount; spenders = count } ∷ []),
        map-append (λ (s : Slot). s.live) slots (record { name = name; live = false; lock = n; amount = amount; spenders = count } ∷ []),
        map-append (λ (s : Slot). s.spenders) slots (record { name = name; live = false; lock = n; amount = amount; spenders = count } ∷ []),
        coins,
        (get_some locks' n lock at).1,
        more,
      ) refl
