-- Where the output stands that an outpoint names, among those of transactions of different ids.
use Rattle.std.proofs.Common.{◌≡◌, ℕ, zero, suc, ◌+◌, ◌-◌, ◌<◌, ◌≤◌, ◌⊎◌, Bool, true, false, ◌||◌, ◌&&◌, List, [], ◌∷◌, ◌++◌, map, length, eqb, refl, sym, ap, ◌∙◌, inl, inr, arith}
use Rattle.std.specs.Prelude.{Some, slice_get, slice_index, slice_index_or}
use Rattle.std.specs.List.{list_any}
use Rattle.std.proofs.lemmas.Bool.{cases_Bool, false≢true, eqb-true, eq-eqb, ne_eqb}
use Rattle.std.proofs.lemmas.List.{append_assoc, length-append}
use Rattle.std.proofs.lemmas.List.Folds.{list_any-append}
use Rattle.sp_ids.specs.declared.outpoint.Outpoint.{Outpoint}
use Rattle.sp_model.specs.Graph.{AreDistinct, has}
use Rattle.sp_tx.specs.declared.parts.Output.{Output}
use Rattle.sp_tx.specs.Parts.{Transaction, of_parts}
use Rattle.sp_tx.specs.Spending.{id_of}
use Rattle.sp_carry.specs.Payment.{payment_of}
use Rattle.sp_carry.specs.Money.{Coin, coins, coins_from}
use Rattle.sp_carry.proofs.Places.{eqb_flip}
use Rattle.sp_money.specs.Held.{coins_of, starts_from}
use Rattle.sp_money.specs.Places.{is_name, StandsAt}

abbrev pub names_one : Outpoint → List Coin → Bool
names_one from cs = list_any (is_name from) cs

and_none : (a : Bool) → (a && false) ≡ false
and_none true = refl
and_none false = refl

other_id : (id k : ℕ) (os : List Output) (from : Outpoint) → eqb from.tx id ≡ false → names_one from (coins_from id k os) ≡ false
other_id id k [] from other = refl
other_id id k (o ∷ os) from other = rw (other, other_id id (suc k) os from other) refl

other_index : (id k : ℕ) (os : List Output) (from : Outpoint) → (from.index < k) ⊎ (k + length os ≤ from.index)
    → names_one from (coins_from id k os) ≡ false
other_index id k [] from h = refl
other_index id k (o ∷ os) from h =
    let apart : eqb from.index k ≡ false = ne_eqb from.index k (λ e. side e h) in
    rw (apart, and_none (eqb from.tx id), other_index id (suc k) os from (next h)) refl
  where
    side : from.index ≡ k → (from.index < k) ⊎ (k + length (o ∷ os) ≤ from.index) → ⊥
    side e (inl low) = omega arith
    side e (inr high) = omega arith

    next : (from.index < k) ⊎ (k + length (o ∷ os) ≤ from.index) → (from.index < suc k) ⊎ (suc k + length os ≤ from.index)
    next (inl low) = inl (omega arith)
    next (inr high) = inr (omega arith)

abbrev first_coin : ℕ → ℕ → Output → Coin
first_coin id k o = record { name = record { tx = id; index = k }; amount = o.amount; lock = o.lock }

-- behind an output of another name
stands_more : (c : Coin) (cs : List Coin) (from : Outpoint) (p : ℕ) → StandsAt cs from p → is_name from c ≡ false → StandsAt (c ∷ cs) from (suc p)
stands_more c cs from p r other =
    record {
      front = c ∷ r.front;
      coin = r.coin;
      back = r.back;
      split = ap (λ (ds : List Coin). c ∷ ds) r.split;
      long = ap suc r.long;
      here = r.here;
      before = rw (other, r.before) refl;
      behind = r.behind;
    }

-- within one transaction
inside : (id k j : ℕ) (os : List Output) (from : Outpoint) → from.tx ≡ id → from.index ≡ k + j → j < length os
    → StandsAt (coins_from id k os) from j
inside id k j [] from tx index lt = absurd (omega arith)
inside id k zero (o ∷ os) from tx index lt =
    record {
      front = [];
      coin = record { name = record { tx = id; index = k }; amount = o.amount; lock = o.lock };
      back = coins_from id (suc k) os;
      split = refl;
      long = refl;
      here = rw (eq-eqb from.tx id tx, eq-eqb from.index k (omega arith)) refl;
      before = refl;
      behind = other_index id (suc k) os from (inl (omega arith));
    }
inside id k (suc j) (o ∷ os) from tx index lt =
    let apart : eqb from.index k ≡ false = ne_eqb from.index k (λ e. omega arith) in
    stands_more (first_coin id k o) (coins_from id (suc k) os) from j (inside id (suc k) j os from tx (omega arith) (omega arith))
    (rw (apart, and_none (eqb from.tx id)) refl)

none_joined : (xs ys : List Coin) (from : Outpoint) → names_one from xs ≡ false → names_one from ys ≡ false → names_one from (xs ++ ys) ≡ false
none_joined xs ys from none others = list_any-append (is_name from) xs ys ∙ rw (none, others) refl

stands_left : (xs ys : List Coin) (from : Outpoint) (p : ℕ) → StandsAt xs from p → names_one from ys ≡ false → StandsAt (xs ++ ys) from p
stands_left xs ys from p r none =
    record {
      front = r.front;
      coin = r.coin;
      back = r.back ++ ys;
      split = ap (λ (cs : List Coin). cs ++ ys) r.split ∙ append_assoc r.front (r.coin ∷ r.back) ys;
      long = r.long;
      here = r.here;
      before = r.before;
      behind = none_joined r.back ys from r.behind none;
    }

stands_right : (xs ys : List Coin) (from : Outpoint) (p q : ℕ) → StandsAt ys from p → names_one from xs ≡ false → q ≡ length xs + p → StandsAt (xs ++ ys) from q
stands_right xs ys from p q r none e =
    record {
      front = xs ++ r.front;
      coin = r.coin;
      back = r.back;
      split = ap (λ (cs : List Coin). xs ++ cs) r.split ∙ sym (append_assoc xs r.front (r.coin ∷ r.back));
      long = length-append xs r.front ∙ (let l : length r.front ≡ p = r.long in omega arith);
      here = r.here;
      before = none_joined xs r.front from none r.before;
      behind = r.behind;
    }

-- transactions of other ids
pub none_stands : (txs : List Transaction) (from : Outpoint) → has (map id_of txs) from.tx ≡ false → names_one from (coins_of txs) ≡ false
none_stands [] from none = refl
none_stands (t ∷ ts) from none = elim (cases_Bool (eqb (id_of t) from.tx)) [
  | inl e ↦ absurd (false≢true (sym none ∙ ap (λ b. b || has (map id_of ts) from.tx) e))
  | inr e ↦
      none_joined (coins (payment_of t)) (coins_of ts) from (other_id (id_of t) 0 t.outputs from (eqb_flip from.tx (id_of t) ∙ e))
      (none_stands ts from (sym (ap (λ b. b || has (map id_of ts) from.tx) e) ∙ none))
]

has_at : (ids : List ℕ) (n id : ℕ) → slice_get ids n ≡ Some id → has ids id ≡ true
has_at [] n id e = cc
has_at (k ∷ ids) zero id e = let same : k ≡ id = some_same e in rw (eq-eqb k id same) refl
  where
    some_same : {a b : ℕ} → Some a ≡ Some b → a ≡ b
    some_same e = cc
has_at (k ∷ ids) (suc n) id e = at (eqb k id) (has_at ids n id e)
  where
    at : (b : Bool) → has ids id ≡ true → (b || has ids id) ≡ true
    at true h = refl
    at false h = h

-- an id that stands behind another one is another one
other_first : (id : ℕ) (ids : List ℕ) (n k : ℕ) → has ids id ≡ false → slice_get ids n ≡ Some k → eqb k id ≡ false
other_first id ids n k none e = at (eqb k id) refl
  where
    at : (b : Bool) → eqb k id ≡ b → b ≡ false
    at false f = refl
    at true f = absurd (false≢true (sym none ∙ has_at ids n id (e ∙ ap (λ (j : ℕ). Some j) (eqb-true k id f))))

some_is : {a b : ℕ} → Some a ≡ Some b → a ≡ b
some_is e = cc

-- no index of the transaction of that id is the outpoint's
pub none_at : (txs : List Transaction) (n : ℕ) (from : Outpoint) → AreDistinct (map id_of txs) → slice_get (map id_of txs) n ≡ Some from.tx
    → length (slice_index_or txs n (of_parts [] [])).outputs ≤ from.index → names_one from (coins_of txs) ≡ false
none_at [] n from once at high = cc
none_at (t ∷ ts) zero from once at high =
    let same : id_of t ≡ from.tx = some_is at in
    none_joined (coins (payment_of t)) (coins_of ts) from (other_index (id_of t) 0 t.outputs from (inr (omega arith)))
    (none_stands ts from (ap (has (map id_of ts)) (sym same) ∙ once.0))
none_at (t ∷ ts) (suc n) from once at high =
    none_joined (coins (payment_of t)) (coins_of ts) from (other_id (id_of t) 0 t.outputs from (other_first (id_of t) (map id_of ts) n from.tx once.0 at))
    (none_at ts n from once.1 at high)

pub coins_long : (id k : ℕ) (os : List Output) → length (coins_from id k os) ≡ length os
coins_long id k [] = refl
coins_long id k (o ∷ os) = ap suc (coins_long id (suc k) os)

pub length-coins : (t : Transaction) → length (coins (payment_of t)) ≡ length t.outputs
length-coins t = coins_long (id_of t) 0 t.outputs

pub length-starts : (first : ℕ) (txs : List Transaction) → length (starts_from first txs) ≡ length txs
length-starts first [] = refl
length-starts first (t ∷ ts) = ap suc (length-starts (first + length t.outputs) ts)

pub starts_least : (first : ℕ) (txs : List Transaction) (n : ℕ) → n < length txs → first ≤ slice_index (starts_from first txs) n
starts_least first [] n lt = absurd (omega arith)
starts_least first (t ∷ ts) zero lt = omega arith
starts_least first (t ∷ ts) (suc n) lt =
    let rest : first + length t.outputs ≤ slice_index (starts_from (first + length t.outputs) ts) n = starts_least (first + length t.outputs) ts n (omega arith) in
    omega arith

pub id_within : (txs : List Transaction) (n id : ℕ) → slice_get (map id_of txs) n ≡ Some id → n < length txs
id_within [] n id e = cc
id_within (t ∷ ts) zero id e = omega arith
id_within (t ∷ ts) (suc n) id e = let r : n < length ts = id_within ts n id e in omega arith

stands_from : (txs : List Transaction) (first n p : ℕ) (from : Outpoint) → AreDistinct (map id_of txs) → slice_get (map id_of txs) n ≡ Some from.tx
    → from.index < length (slice_index_or txs n (of_parts [] [])).outputs → first + p ≡ slice_index (starts_from first txs) n + from.index
    → StandsAt (coins_of txs) from p
stands_from [] first n p from once at lt e = cc
stands_from (t ∷ ts) first zero p from once at lt e =
    let same : id_of t ≡ from.tx = some_is at in
    let index : from.index ≡ 0 + p = omega arith in
    stands_left (coins (payment_of t)) (coins_of ts) from p (inside (id_of t) 0 p t.outputs from (sym same) index (omega arith))
    (none_stands ts from (ap (has (map id_of ts)) (sym same) ∙ once.0))
stands_from (t ∷ ts) first (suc n) p from once at lt e =
    let long : length (coins (payment_of t)) ≡ length t.outputs = length-coins t in
    let least : first + length t.outputs ≤ slice_index (starts_from (first + length t.outputs) ts) n =
    starts_least (first + length t.outputs) ts n (id_within ts n from.tx at) in
    stands_right (coins (payment_of t)) (coins_of ts) from (p - length t.outputs) p
    (stands_from ts (first + length t.outputs) n (p - length t.outputs) from once.1 at lt (omega arith))
    (other_id (id_of t) 0 t.outputs from (other_first (id_of t) (map id_of ts) n from.tx once.0 at)) (omega arith)

pub stands : (txs : List Transaction) (n p : ℕ) (from : Outpoint) → AreDistinct (map id_of txs) → slice_get (map id_of txs) n ≡ Some from.tx
    → from.index < length (slice_index_or txs n (of_parts [] [])).outputs → p ≡ slice_index (starts_from 0 txs) n + from.index
    → StandsAt (coins_of txs) from p
stands txs n p from once at lt e = stands_from txs 0 n p from once at lt (omega arith)
