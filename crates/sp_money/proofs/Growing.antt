-- A purse that is of some transactions is of one more, where its outputs come at the end.
use Rattle.std.proofs.Common.{◌≡◌, ℕ, zero, suc, ◌+◌, ◌<◌, ◌≤◌, Bool, true, false, cond, List, [], ◌∷◌, ◌++◌, map, length, get_or, take, refl, sym, ap, ◌∙◌, arith, zero-add}
use Rattle.std.specs.Prelude.{fold, count_by, slice_index_or}
use Rattle.std.proofs.lemmas.List.{append-nil, append_assoc, flat_map_more, length-append, length-take-le, length_push, map-append, take_at, take_more}
use Rattle.std.proofs.lemmas.List.Sums.{fold-append, sum_by-cons}
use Rattle.sp_ids.specs.declared.outpoint.Outpoint.{Outpoint}
use Rattle.sp_tx.specs.declared.parts.Input.{Input}
use Rattle.sp_tx.specs.declared.parts.Output.{Output}
use Rattle.sp_tx.specs.Parts.{Transaction, of_parts}
use Rattle.sp_carry.specs.Lookups.{is_spent_by, spenders_from}
use Rattle.sp_carry.specs.Payment.{is_same_outpoint, payment_of, spends}
use Rattle.sp_carry.specs.Money.{Coin, coins, coins_from}
use Rattle.sp_carry.specs.Flags.{is_set}
use Rattle.sp_money.specs.declared.store.Store.{Store}
use Rattle.sp_money.specs.Accepted.{accepted_in}
use Rattle.sp_money.specs.Locks.{all_locks, with_id}
use Rattle.sp_money.specs.Held.{coins_of, lives, spender_count, starts_from, Held, IsOf}
use Rattle.sp_money.specs.Places.{is_named}
use Rattle.sp_money.specs.Kept.{held_of, IsKept}
use Rattle.sp_money.specs.Growth.{set_spenders, with_outputs, with_tx, GoesOn, IsFront, IsLonger}
use Rattle.sp_money.proofs.Counts.{count_cons, named_is}
use Rattle.sp_carry.proofs.Places.{eqb_flip}
use Rattle.sp_money.proofs.Standing.{length-coins}

-- ---- one output after another

outputs_push : (f : Coin → ℕ) (h : Held) (cs : List Coin) (c : Coin) (n : ℕ) → n ≡ f c
    → with_outputs (λ (d : Coin). n) (with_outputs f h cs) (c ∷ []) ≡ with_outputs f h (cs ++ c ∷ [])
outputs_push f h cs c n e =
    rw (
      e,
      append_assoc h.coins cs (c ∷ []),
      append_assoc h.live (map (λ (d : Coin). false) cs) (false ∷ []),
      append_assoc h.spenders (map f cs) (f c ∷ []),
      map-append (λ (d : Coin). false) cs (c ∷ []),
      map-append f cs (c ∷ []),
      map-append (λ (d : Coin). d.lock) cs (c ∷ []),
      fold-append with_id h.locks (map (λ (d : Coin). d.lock) cs) (c.lock ∷ []),
    ) refl

pub outputs_next : (f : Coin → ℕ) (was mid next : Held) (cs : List Coin) (i : ℕ) (c : Coin) (n : ℕ) → i < length cs → get_or cs i c ≡ c → n ≡ f c
    → mid ≡ with_outputs f was (take i cs) → next ≡ with_outputs (λ (d : Coin). n) mid (c ∷ []) → next ≡ with_outputs f was (take (i + 1) cs)
outputs_next f was mid next cs i c n lt at e m g =
    g ∙ ap (λ (h : Held). with_outputs (λ (d : Coin). n) h (c ∷ [])) m ∙ outputs_push f was (take i cs) c n e
    ∙ ap (with_outputs f was) (ap (λ (x : Coin). take i cs ++ x ∷ []) (sym at) ∙ sym (take_more cs i c lt))

coin_at : (id k : ℕ) (os : List Output) (i : ℕ) (o : Output) (d : Coin) → i < length os → o ≡ get_or os i o
    → get_or (coins_from id k os) i d ≡ record { name = record { tx = id; index = k + i }; amount = o.amount; lock = o.lock }
coin_at id k [] i o d lt e = absurd (omega arith)
coin_at id k (x ∷ os) zero o d lt e =
    let at : k ≡ k + 0 = omega arith in
    ap (λ (n : ℕ). record { name = record { tx = id; index = n }; amount = x.amount; lock = x.lock }) at
    ∙ ap (λ (y : Output). record { name = record { tx = id; index = k + 0 }; amount = y.amount; lock = y.lock }) (sym e)
coin_at id k (x ∷ os) (suc i) o d lt e =
    let at : suc k + i ≡ k + suc i = omega arith in
    coin_at id (suc k) os i o d (omega arith) e
    ∙ ap (λ (n : ℕ). record { name = record { tx = id; index = n }; amount = o.amount; lock = o.lock }) at

-- the output at a place
pub coin_first : (id : ℕ) (os : List Output) (i : ℕ) (o : Output) (d : Coin) → i < length os → o ≡ get_or os i o
    → get_or (coins_from id 0 os) i d ≡ record { name = record { tx = id; index = i }; amount = o.amount; lock = o.lock }
coin_first id os i o d lt e =
    coin_at id 0 os i o d lt e ∙ ap (λ (n : ℕ). record { name = record { tx = id; index = n }; amount = o.amount; lock = o.lock }) (zero-add i)

-- ---- a list goes on

goes_further : {A : Type 0} (xs ys zs : List A) → GoesOn xs ys → GoesOn ys zs → GoesOn xs zs
goes_further xs ys zs g h = (g.0 ++ h.0, h.1 ∙ ap (λ ws. ws ++ h.0) g.1 ∙ append_assoc xs g.0 h.0)

pub longer_more : (a b c : Store) → IsLonger a b → IsLonger b c → IsLonger a c
longer_more a b c g h =
    record {
      slots = goes_further a.slots.items b.slots.items c.slots.items g.slots h.slots;
      totals = goes_further a.totals.items b.totals.items c.totals.items g.totals h.totals;
      starts = goes_further a.starts.items b.starts.items c.starts.items g.starts h.starts;
      locks = goes_further a.locks b.locks c.locks g.locks h.locks;
      accepted = goes_further a.accepted.items b.accepted.items c.accepted.items g.accepted h.accepted;
    }

front_is : {A : Type 0} (old mid new : List A) (n : ℕ) → n ≡ length old → GoesOn old mid → new ≡ take n mid → new ≡ old
front_is old mid new n e g f = f ∙ ap (take n) g.1 ∙ take_at old g.0 n (sym e)

-- what was there at first is what is left, where the rest is taken back
pub front_kept : (old mid new : Store) (slots txs locks : ℕ) → IsKept old → IsLonger old mid → IsFront mid slots txs locks new
    → slots ≡ length old.slots.items → txs ≡ length old.accepted.items → length old.starts.items ≡ length old.accepted.items → locks ≡ length old.locks
    → IsKept new × (held_of new ≡ held_of old)
front_kept old mid new slots txs locks kept g f a b c d =
    let s : new.slots.items ≡ old.slots.items = front_is old.slots.items mid.slots.items new.slots.items slots a g.slots f.slots in
    let t : new.totals.items ≡ old.totals.items = front_is old.totals.items mid.totals.items new.totals.items locks (d ∙ sym kept.long) g.totals f.totals in
    let u : new.starts.items ≡ old.starts.items = front_is old.starts.items mid.starts.items new.starts.items txs (b ∙ sym c) g.starts f.starts in
    let v : new.locks ≡ old.locks = front_is old.locks mid.locks new.locks locks d g.locks f.locks in
    let w : new.accepted.items ≡ old.accepted.items = front_is old.accepted.items mid.accepted.items new.accepted.items txs b g.accepted f.accepted in
    (rw (s, t, v, w) kept, rw (s, u, v, w) refl)

-- ---- how often an output is spent

same_flip : (a b : Outpoint) → is_same_outpoint a b ≡ is_same_outpoint b a
same_flip a b = rw (eqb_flip a.tx b.tx, eqb_flip a.index b.index) refl

spent_named : (inputs : List Input) (c : Coin) → is_spent_by c.name inputs ≡ is_named inputs c
spent_named [] c = refl
spent_named (i ∷ is) c = rw (same_flip c.name i.from, spent_named is c) refl

spent_is : (t : Transaction) (c : Coin) → is_spent_by c.name t.inputs ≡ spends (payment_of t) c.name
spent_is t c = spent_named t.inputs c ∙ sym (named_is t.inputs c)

accepted_none : (txs : List Transaction) → accepted_in txs [] ≡ []
accepted_none [] = refl
accepted_none (t ∷ ts) = refl

set_count : (p : ℕ → Bool) (first : ℕ) (c : Coin) (txs : List Transaction) (flags : List Bool) → ((j : ℕ) → p (first + j) ≡ is_set flags j)
    → count_by p (spenders_from first c.name txs) ≡ spender_count (accepted_in txs flags) c
set_count p first c [] flags h = refl
set_count p first c (t ∷ ts) [] h =
    at (is_spent_by c.name t.inputs)
    (set_count p (suc first) c ts [] (λ j. let e : suc first + j ≡ first + suc j = omega arith in ap p e ∙ h (suc j)) ∙ ap (λ us. spender_count us c) (accepted_none ts))
  where
    off : p first ≡ false
    off = (let e : first ≡ first + 0 = omega arith in ap p e ∙ h 0)

    at : (b : Bool) → count_by p (spenders_from (suc first) c.name ts) ≡ 0
        → count_by p (cond b (first ∷ spenders_from (suc first) c.name ts) (spenders_from (suc first) c.name ts)) ≡ 0
    at true r = sum_by-cons (λ x. cond (p x) 1 0) first (spenders_from (suc first) c.name ts) ∙ rw (off, r) refl
    at false r = r
set_count p first c (t ∷ ts) (b ∷ flags) h =
    at b (is_spent_by c.name t.inputs) on (sym (spent_is t c))
    (set_count p (suc first) c ts flags (λ j. let e : suc first + j ≡ first + suc j = omega arith in ap p e ∙ h (suc j)))
  where
    on : p first ≡ b
    on = (let e : first ≡ first + 0 = omega arith in ap p e ∙ h 0)

    at : (b s : Bool) → p first ≡ b → spends (payment_of t) c.name ≡ s
        → count_by p (spenders_from (suc first) c.name ts) ≡ spender_count (accepted_in ts flags) c
        → count_by p (cond s (first ∷ spenders_from (suc first) c.name ts) (spenders_from (suc first) c.name ts))
        ≡ spender_count (cond b (payment_of t ∷ accepted_in ts flags) (accepted_in ts flags)) c
    at true true e s r = more e ∙ ap (λ (n : ℕ). 1 + n) r ∙ sym (count_cons c (payment_of t) (accepted_in ts flags) ∙ ap (λ x. cond {A = ℕ} x 1 0 + spender_count (accepted_in ts flags) c) s)
      where
        more : p first ≡ true → count_by p (first ∷ spenders_from (suc first) c.name ts) ≡ 1 + count_by p (spenders_from (suc first) c.name ts)
        more e = sum_by-cons (λ x. cond (p x) 1 0) first (spenders_from (suc first) c.name ts) ∙ ap (λ x. cond {A = ℕ} x 1 0 + count_by p (spenders_from (suc first) c.name ts)) e
    at true false e s r =
        r ∙ sym (count_cons c (payment_of t) (accepted_in ts flags) ∙ ap (λ x. cond {A = ℕ} x 1 0 + spender_count (accepted_in ts flags) c) s ∙ zero-add (spender_count (accepted_in ts flags) c))
    at false true e s r =
        sum_by-cons (λ x. cond (p x) 1 0) first (spenders_from (suc first) c.name ts)
        ∙ ap (λ x. cond {A = ℕ} x 1 0 + count_by p (spenders_from (suc first) c.name ts)) e ∙ zero-add (count_by p (spenders_from (suc first) c.name ts)) ∙ r
    at false false e s r = r

-- the flags that are set among the spenders count the accepted spenders
set_spenders_is : (txs : List Transaction) (flags : List Bool) (c : Coin) → set_spenders txs flags c ≡ spender_count (accepted_in txs flags) c
set_spenders_is txs flags c = set_count (is_set flags) 0 c txs flags (λ j. let e : 0 + j ≡ j = omega arith in ap (is_set flags) e)

accepted_take : (txs : List Transaction) (flags : List Bool) (n : ℕ) → length flags ≤ n → accepted_in (take n txs) flags ≡ accepted_in txs flags
accepted_take [] flags zero le = refl
accepted_take [] flags (suc n) le = refl
accepted_take (t ∷ ts) [] zero le = refl
accepted_take (t ∷ ts) (b ∷ flags) zero le = absurd (omega arith)
accepted_take (t ∷ ts) [] (suc n) le = refl
accepted_take (t ∷ ts) (true ∷ flags) (suc n) le = ap (λ us. payment_of t ∷ us) (accepted_take ts flags n (omega arith))
accepted_take (t ∷ ts) (false ∷ flags) (suc n) le = accepted_take ts flags n (omega arith)

-- ---- one transaction more

accepted_push : (txs : List Transaction) (flags : List Bool) (t : Transaction) → length flags ≡ length txs
    → accepted_in (txs ++ t ∷ []) (flags ++ false ∷ []) ≡ accepted_in txs flags
accepted_push [] [] t long = refl
accepted_push [] (b ∷ flags) t long = absurd (omega arith)
accepted_push (u ∷ txs) [] t long = absurd (omega arith)
accepted_push (u ∷ txs) (true ∷ flags) t long = ap (λ us. payment_of u ∷ us) (accepted_push txs flags t (omega arith))
accepted_push (u ∷ txs) (false ∷ flags) t long = accepted_push txs flags t (omega arith)

lives_push : (txs : List Transaction) (flags : List Bool) (t : Transaction) → length flags ≡ length txs
    → lives txs flags ++ map (λ (o : Output). false) t.outputs ≡ lives (txs ++ t ∷ []) (flags ++ false ∷ [])
lives_push [] [] t long = sym (append-nil (map (λ (o : Output). false) t.outputs))
lives_push [] (b ∷ flags) t long = absurd (omega arith)
lives_push (u ∷ txs) [] t long = absurd (omega arith)
lives_push (u ∷ txs) (b ∷ flags) t long =
    append_assoc (map (λ (o : Output). b) u.outputs) (lives txs flags) (map (λ (o : Output). false) t.outputs)
    ∙ ap (λ bs. map (λ (o : Output). b) u.outputs ++ bs) (lives_push txs flags t (omega arith))

starts_push : (first : ℕ) (txs : List Transaction) (t : Transaction) → starts_from first txs ++ (first + length (coins_of txs)) ∷ [] ≡ starts_from first (txs ++ t ∷ [])
starts_push first [] t = let e : first + 0 ≡ first = omega arith in rw e refl
starts_push first (u ∷ txs) t =
    let l : length (coins (payment_of u) ++ coins_of txs) ≡ length (coins (payment_of u)) + length (coins_of txs) = length-append (coins (payment_of u)) (coins_of txs) in
    let m : length (coins (payment_of u)) ≡ length u.outputs = length-coins u in
    let e : first + length (coins_of (u ∷ txs)) ≡ first + length u.outputs + length (coins_of txs) = omega arith in
    ap (λ (ns : List ℕ). first ∷ ns) (ap (λ (n : ℕ). starts_from (first + length u.outputs) txs ++ n ∷ []) e ∙ starts_push (first + length u.outputs) txs t)

dead_coins : (id k : ℕ) (os : List Output) → map (λ (c : Coin). false) (coins_from id k os) ≡ map (λ (o : Output). false) os
dead_coins id k [] = refl
dead_coins id k (o ∷ os) = ap (λ (bs : List Bool). false ∷ bs) (dead_coins id (suc k) os)

pub coin_locks : (id k : ℕ) (os : List Output) → map (λ (c : Coin). c.lock) (coins_from id k os) ≡ map (λ (o : Output). o.lock) os
coin_locks id k [] = refl
coin_locks id k (o ∷ os) = ap (λ (ns : List ℕ). o.lock ∷ ns) (coin_locks id (suc k) os)

coins_push : (txs : List Transaction) (t : Transaction) → coins_of txs ++ coins (payment_of t) ≡ coins_of (txs ++ t ∷ [])
coins_push txs t = flat_map_more (λ (u : Transaction). coins (payment_of u)) [] txs t

locks_push : (txs : List Transaction) (t : Transaction) → all_locks txs ++ map (λ (o : Output). o.lock) t.outputs ≡ all_locks (txs ++ t ∷ [])
locks_push txs t = flat_map_more (λ (u : Transaction). map (λ (o : Output). o.lock) u.outputs) [] txs t

map_agrees : (f g : Coin → ℕ) (cs : List Coin) → ((c : Coin) → f c ≡ g c) → map f cs ≡ map g cs
map_agrees f g [] h = refl
map_agrees f g (c ∷ cs) h = rw (h c, map_agrees f g cs h) refl

of_push : (all txs : List Transaction) (h : Held) (t : Transaction) → IsOf txs h
    → ((c : Coin) → set_spenders all (h.accepted ++ false ∷ []) c ≡ spender_count (accepted_in (txs ++ t ∷ []) (h.accepted ++ false ∷ [])) c)
    → IsOf (txs ++ t ∷ []) (with_tx all h t)
of_push all txs h t of counts =
    record {
      flags = length_push h.accepted false ∙ ap (λ (n : ℕ). n + 1) of.flags ∙ sym (length_push txs t);
      coins = ap (λ (cs : List Coin). cs ++ coins (payment_of t)) of.coins ∙ coins_push txs t;
      live = ap (λ (bs : List Bool). bs ++ map (λ (c : Coin). false) (coins (payment_of t))) of.live
          ∙ ap (λ (bs : List Bool). lives txs h.accepted ++ bs) (dead_coins (payment_of t).id 0 t.outputs)
          ∙ lives_push txs h.accepted t of.flags;
      spenders =
          ap (λ (ns : List ℕ). ns ++ map (set_spenders all (h.accepted ++ false ∷ [])) (coins (payment_of t)))
          (of.spenders ∙ ap (λ us. map (spender_count us) (coins_of txs)) (sym (accepted_push txs h.accepted t of.flags)))
          ∙ ap (λ (ns : List ℕ). map (spender_count (accepted_in (txs ++ t ∷ []) (h.accepted ++ false ∷ []))) (coins_of txs) ++ ns)
          (map_agrees (set_spenders all (h.accepted ++ false ∷ [])) (spender_count (accepted_in (txs ++ t ∷ []) (h.accepted ++ false ∷ []))) (coins (payment_of t)) counts)
          ∙ sym (map-append (spender_count (accepted_in (txs ++ t ∷ []) (h.accepted ++ false ∷ []))) (coins_of txs) (coins (payment_of t)))
          ∙ ap (map (spender_count (accepted_in (txs ++ t ∷ []) (h.accepted ++ false ∷ [])))) (coins_push txs t);
      starts =
          ap (λ (ns : List ℕ). ns ++ length h.coins ∷ []) of.starts
          ∙ (let e : length h.coins ≡ 0 + length (coins_of txs) = omega (arith, ap length of.coins) in ap (λ (n : ℕ). starts_from 0 txs ++ n ∷ []) e)
          ∙ starts_push 0 txs t;
      locks =
          ap (λ (ks : List ℕ). fold with_id h.locks ks) (coin_locks (payment_of t).id 0 t.outputs)
          ∙ ap (λ (ks : List ℕ). fold with_id ks (map (λ (o : Output). o.lock) t.outputs)) of.locks
          ∙ sym (fold-append with_id [] (all_locks txs) (map (λ (o : Output). o.lock) t.outputs))
          ∙ ap (fold with_id []) (locks_push txs t);
    }

-- the purse is of the first so many transactions, and then of one more
pub of_next : (txs : List Transaction) (n : ℕ) (h : Held) → n < length txs → IsOf (take n txs) h
    → IsOf (take (n + 1) txs) (with_tx txs h (slice_index_or txs n (of_parts [] [])))
of_next txs n h lt of =
    let next : take (n + 1) txs ≡ take n txs ++ slice_index_or txs n (of_parts [] []) ∷ [] = take_more txs n (of_parts [] []) lt in
    let long : length (take n txs) ≡ n = length-take-le n txs (omega arith) in
    let flags : length (h.accepted ++ false ∷ []) ≡ length h.accepted + 1 = length_push h.accepted false in
    let few : length h.accepted ≡ length (take n txs) = of.flags in
    rw next
    (of_push txs (take n txs) h (slice_index_or txs n (of_parts [] [])) of
    (λ c. set_spenders_is txs (h.accepted ++ false ∷ []) c
    ∙ ap (λ us. spender_count us c) (sym (accepted_take txs (h.accepted ++ false ∷ []) (n + 1) (omega arith)) ∙ ap (λ ts. accepted_in ts (h.accepted ++ false ∷ [])) next)))
