-- Inputs change the counts of spenders of the outputs that they name.
use Rattle.std.proofs.Common.{◌≡◌, ℕ, zero, suc, ◌+◌, ◌-◌, ◌<◌, ◌≤◌, Bool, true, false, cond, not, ◌||◌, List, [], ◌∷◌, ◌++◌, map, set, length, get_or, take, eqb, refl, sym, ap, ◌∙◌, inl, inr, arith}
use Rattle.std.specs.Prelude.{slice_index, slice_index_or}
use Rattle.std.specs.List.{list_any}
use Rattle.std.proofs.lemmas.Bool.{cases_Bool, false≢true, eqb-true, eq-eqb, and_parts, or_left, or_right}
use Rattle.std.proofs.lemmas.List.{get_or_at, get_or-map, length-append}
use Rattle.std.proofs.lemmas.List.Folds.{list_any-append}
use Rattle.std.proofs.lemmas.List.Sums.{count_by-le-length, sum_by-cons}
use Rattle.sp_ids.specs.declared.outpoint.Outpoint.{Outpoint}
use Rattle.sp_tx.specs.declared.parts.Input.{Input}
use Rattle.sp_tx.specs.Parts.{Transaction, of_parts}
use Rattle.sp_carry.specs.Payment.{Payment, Spent, is_same_outpoint, payment_of, spends, spent_by}
use Rattle.sp_carry.specs.Lookups.{is_spent_by, spenders_from, spenders_in}
use Rattle.sp_carry.specs.Money.{Coin}
use Rattle.sp_money.specs.Accepted.{accepted_in}
use Rattle.sp_money.specs.Held.{spender_count}
use Rattle.sp_money.specs.Places.{counted, is_name, is_named, shifted, CanCount, CanShift, StandsAt}

-- ---- one input

one_name : (input : Input) (c : Coin) → is_named (input ∷ []) c ≡ is_name input.from c
one_name input c = at (is_name input.from c)
  where
    at : (b : Bool) → (b || false) ≡ b
    at true = refl
    at false = refl

-- an input that names no output changes nothing
pub counted_none : (now : Bool) (input : Input) (cs : List Coin) (ns : List ℕ) → length ns ≡ length cs → list_any (is_name input.from) cs ≡ false
    → counted now (input ∷ []) cs ns ≡ ns
counted_none now input [] [] long none = refl
counted_none now input [] (n ∷ ns) long none = absurd (omega arith)
counted_none now input (c ∷ cs) [] long none = refl
counted_none now input (c ∷ cs) (n ∷ ns) long none = elim (cases_Bool (is_name input.from c)) [
  | inl e ↦ absurd (false≢true (sym none ∙ ap (λ b. b || list_any (is_name input.from) cs) e))
  | inr e ↦
      let rest : list_any (is_name input.from) cs ≡ false = sym (ap (λ b. b || list_any (is_name input.from) cs) e) ∙ none in
      rw (e, counted_none now input cs ns (omega arith) rest) refl
]

counted_at : (now : Bool) (input : Input) (front : List Coin) (c : Coin) (back : List Coin) (ns : List ℕ) (p : ℕ) → length ns ≡ length (front ++ c ∷ back)
    → length front ≡ p → is_name input.from c ≡ true → list_any (is_name input.from) front ≡ false → list_any (is_name input.from) back ≡ false
    → counted now (input ∷ []) (front ++ c ∷ back) ns ≡ set ns p (shifted now (slice_index ns p))
counted_at now input [] c back [] p long at here before behind = absurd (omega arith)
counted_at now input [] c back (n ∷ ns) zero long at here before behind =
    rw (here, counted_none now input back ns (omega arith) behind) refl
counted_at now input [] c back (n ∷ ns) (suc p) long at here before behind = absurd (omega arith)
counted_at now input (f ∷ front) c back [] p long at here before behind = absurd (omega arith)
counted_at now input (f ∷ front) c back (n ∷ ns) zero long at here before behind = absurd (omega arith)
counted_at now input (f ∷ front) c back (n ∷ ns) (suc p) long at here before behind = elim (cases_Bool (is_name input.from f)) [
  | inl e ↦ absurd (false≢true (sym before ∙ ap (λ b. b || list_any (is_name input.from) front) e))
  | inr e ↦
      let rest : list_any (is_name input.from) front ≡ false = sym (ap (λ b. b || list_any (is_name input.from) front) e) ∙ before in
      rw (e, counted_at now input front c back ns p (omega arith) (omega arith) here rest behind) refl
]

-- an input changes the count of the output that it names
pub counted_one : (now : Bool) (input : Input) (cs : List Coin) (ns : List ℕ) (p : ℕ) → length ns ≡ length cs → StandsAt cs input.from p
    → counted now (input ∷ []) cs ns ≡ set ns p (shifted now (slice_index ns p))
counted_one now input cs ns p long h =
    rw h.split (counted_at now input h.front h.coin h.back ns p (long ∙ ap length h.split) h.long h.here h.before h.behind)

-- and it can be
pub can_one : (now : Bool) (input : Input) (cs : List Coin) (ns : List ℕ) (p : ℕ) → StandsAt cs input.from p → CanCount now (input ∷ []) cs ns
    → CanShift now (slice_index ns p)
can_one now input cs ns p h can =
    let at : get_or cs p h.coin ≡ h.coin = ap (λ (xs : List Coin). get_or xs p h.coin) h.split ∙ get_or_at h.front h.coin h.back h.coin p h.long in
    let within : p < length cs = (let l : length cs ≡ length (h.front ++ h.coin ∷ h.back) = ap length h.split in
    let m : length (h.front ++ h.coin ∷ h.back) ≡ length h.front + length (h.coin ∷ h.back) = length-append h.front (h.coin ∷ h.back) in
    let n : length h.front ≡ p = h.long in omega arith) in
    can p h.coin within (ap (is_named (input ∷ [])) at ∙ one_name input h.coin ∙ h.here)

-- ---- one input after another

-- two outpoints that are one with a third are one
joined : (a b c : Outpoint) → is_same_outpoint a c ≡ true → is_same_outpoint b c ≡ true → is_same_outpoint a b ≡ true
joined a b c h k =
    let e : (eqb a.tx c.tx ≡ true) × (eqb a.index c.index ≡ true) = and_parts (eqb a.tx c.tx) (eqb a.index c.index) h in
    let f : (eqb b.tx c.tx ≡ true) × (eqb b.index c.index ≡ true) = and_parts (eqb b.tx c.tx) (eqb b.index c.index) k in
    rw (
      eq-eqb a.tx b.tx (eqb-true a.tx c.tx e.0 ∙ sym (eqb-true b.tx c.tx f.0)),
      eq-eqb a.index b.index (eqb-true a.index c.index e.1 ∙ sym (eqb-true b.index c.index f.1)),
    ) refl

-- no output is named by an input and by another one that spends something else
not_both : (inputs : List Input) (input : Input) (c : Coin) → is_spent_by input.from inputs ≡ false → is_name input.from c ≡ true → is_named inputs c ≡ false
not_both [] input c apart here = refl
not_both (i ∷ is) input c apart here = elim (cases_Bool (is_name i.from c)) [
  | inl e ↦ absurd (false≢true (sym apart ∙ ap (λ b. b || is_spent_by input.from is) (joined input.from i.from c.name here e)))
  | inr e ↦ (
      let other : is_spent_by input.from is ≡ false = or_right_false (is_same_outpoint input.from i.from) (is_spent_by input.from is) apart in
      rw e (not_both is input c other here))
]
  where
    or_right_false : (a b : Bool) → (a || b) ≡ false → b ≡ false
    or_right_false true b h = absurd (false≢true (sym h))
    or_right_false false b h = h

-- the counts after one more input
pub counted_more : (now : Bool) (before : List Input) (input : Input) (cs : List Coin) (ns : List ℕ) → is_spent_by input.from before ≡ false
    → counted now (input ∷ []) cs (counted now before cs ns) ≡ counted now (before ++ input ∷ []) cs ns
counted_more now before input [] ns apart = refl
counted_more now before input (c ∷ cs) [] apart = refl
counted_more now before input (c ∷ cs) (n ∷ ns) apart =
    rw (counted_more now before input cs ns apart, one_name input c, list_any-append (λ (i : Input). is_name i.from c) before (input ∷ []), one_name input c)
    (ap (λ (m : ℕ). m ∷ counted now (before ++ input ∷ []) cs ns) (at (is_named before c) (is_name input.from c) refl refl))
  where
    at : (a b : Bool) → is_named before c ≡ a → is_name input.from c ≡ b
        → cond b (shifted now (cond a (shifted now n) n)) (cond a (shifted now n) n) ≡ cond (a || b) (shifted now n) n
    at true true e f = absurd (false≢true (sym (not_both before input c apart f) ∙ e))
    at true false e f = refl
    at false true e f = refl
    at false false e f = refl

pub none_before : (now : Bool) (cs : List Coin) (ns : List ℕ) → length ns ≡ length cs → counted now [] cs ns ≡ ns
none_before now [] [] long = refl
none_before now [] (n ∷ ns) long = absurd (omega arith)
none_before now (c ∷ cs) [] long = refl
none_before now (c ∷ cs) (n ∷ ns) long = ap (λ (ms : List ℕ). n ∷ ms) (none_before now cs ns (omega arith))

counted_get : (now : Bool) (inputs : List Input) (cs : List Coin) (ns : List ℕ) (k : ℕ) (d : Coin) → length ns ≡ length cs → k < length cs
    → slice_index (counted now inputs cs ns) k ≡ cond (is_named inputs (get_or cs k d)) (shifted now (slice_index ns k)) (slice_index ns k)
counted_get now inputs [] ns k d long lt = absurd (omega arith)
counted_get now inputs (c ∷ cs) [] k d long lt = absurd (omega arith)
counted_get now inputs (c ∷ cs) (n ∷ ns) zero d long lt = refl
counted_get now inputs (c ∷ cs) (n ∷ ns) (suc k) d long lt = counted_get now inputs cs ns k d (omega arith) (omega arith)

named_at : (inputs : List Input) (i : ℕ) (input : Input) (c : Coin) → i < length inputs → input ≡ get_or inputs i input → is_name input.from c ≡ true → is_named inputs c ≡ true
named_at [] i input c lt e here = absurd (omega arith)
named_at (x ∷ xs) zero input c lt e here = or_left (is_name x.from c) (is_named xs c) (ap (λ (i : Input). is_name i.from c) (sym e) ∙ here)
named_at (x ∷ xs) (suc i) input c lt e here = or_right (is_name x.from c) (is_named xs c) (named_at xs i input c (omega arith) e here)

-- the next input can be counted
pub can_next : (now : Bool) (inputs : List Input) (i : ℕ) (input : Input) (cs : List Coin) (ns : List ℕ) → length ns ≡ length cs
    → i < length inputs → input ≡ get_or inputs i input → is_spent_by input.from (take i inputs) ≡ false → CanCount now inputs cs ns
    → CanCount now (input ∷ []) cs (counted now (take i inputs) cs ns)
can_next now inputs i input cs ns long lt e apart can = λ k d within named.
    let here : is_name input.from (get_or cs k d) ≡ true = sym (one_name input (get_or cs k d)) ∙ named in
    let other : is_named (take i inputs) (get_or cs k d) ≡ false = not_both (take i inputs) input (get_or cs k d) apart here in
    let same : slice_index (counted now (take i inputs) cs ns) k ≡ slice_index ns k =
    counted_get now (take i inputs) cs ns k d long within ∙ ap (λ b. cond b (shifted now (slice_index ns k)) (slice_index ns k)) other in
    rw same (can k d within (named_at inputs i input (get_or cs k d) lt e here))

-- ---- a transaction turns

pub named_is : (inputs : List Input) (c : Coin) → list_any (λ (i : Spent). is_same_outpoint i.from c.name) (map spent_by inputs) ≡ is_named inputs c
named_is [] c = refl
named_is (i ∷ is) c = ap (λ b. is_same_outpoint i.from c.name || b) (named_is is c)

pub count_cons : (c : Coin) (t : Payment) (ts : List Payment) → spender_count (t ∷ ts) c ≡ cond (spends t c.name) 1 0 + spender_count ts c
count_cons c t ts = sum_by-cons (λ (u : Payment). cond (spends u c.name) 1 0) t ts

count_turned : (txs : List Transaction) (flags : List Bool) (n : ℕ) (c : Coin) → length flags ≡ length txs → n < length txs
    → spender_count (accepted_in txs (set flags n true)) c
    ≡ spender_count (accepted_in txs (set flags n false)) c + cond (is_named (slice_index_or txs n (of_parts [] [])).inputs c) 1 0
count_turned [] flags n c long lt = absurd (omega arith)
count_turned (t ∷ ts) [] n c long lt = absurd (omega arith)
count_turned (t ∷ ts) (b ∷ flags) zero c long lt =
    count_cons c (payment_of t) (accepted_in ts flags)
    ∙ (let e : cond {A = ℕ} (spends (payment_of t) c.name) 1 0 ≡ cond (is_named t.inputs c) 1 0 = ap (λ b. cond {A = ℕ} b 1 0) (named_is t.inputs c) in omega arith)
count_turned (t ∷ ts) (true ∷ flags) (suc n) c long lt =
    let a : spender_count (payment_of t ∷ accepted_in ts (set flags n true)) c ≡ cond (spends (payment_of t) c.name) 1 0 + spender_count (accepted_in ts (set flags n true)) c =
    count_cons c (payment_of t) (accepted_in ts (set flags n true)) in
    let b : spender_count (payment_of t ∷ accepted_in ts (set flags n false)) c ≡ cond (spends (payment_of t) c.name) 1 0 + spender_count (accepted_in ts (set flags n false)) c =
    count_cons c (payment_of t) (accepted_in ts (set flags n false)) in
    let r : spender_count (accepted_in ts (set flags n true)) c
    ≡ spender_count (accepted_in ts (set flags n false)) c + cond (is_named (slice_index_or ts n (of_parts [] [])).inputs c) 1 0 =
    count_turned ts flags n c (omega arith) (omega arith) in
    omega arith
count_turned (t ∷ ts) (false ∷ flags) (suc n) c long lt = count_turned ts flags n c (omega arith) (omega arith)

-- the flag is what it was set to already
set_same : (flags : List Bool) (n : ℕ) (b d : Bool) → n < length flags → get_or flags n d ≡ b → set flags n b ≡ flags
set_same [] n b d lt e = refl
set_same (f ∷ flags) zero b d lt e = ap (λ (x : Bool). x ∷ flags) (sym e)
set_same (f ∷ flags) (suc n) b d lt e = ap (λ (fs : List Bool). f ∷ fs) (set_same flags n b d (omega arith) e)

module _ (txs : List Transaction) (flags : List Bool) (n : ℕ) (long : length flags ≡ length txs) (lt : n < length txs) where
  count_at : (now : Bool) (c : Coin) → get_or flags n now ≡ not now
      → spender_count (accepted_in txs (set flags n now)) c
      ≡ cond (is_named (slice_index_or txs n (of_parts [] [])).inputs c) (shifted now (spender_count (accepted_in txs flags) c)) (spender_count (accepted_in txs flags) c)
  count_at true c e =
      let was : spender_count (accepted_in txs (set flags n false)) c ≡ spender_count (accepted_in txs flags) c =
      ap (λ (fs : List Bool). spender_count (accepted_in txs fs) c) (set_same flags n false true (omega arith) e) in
      count_turned txs flags n c long lt ∙ ap (λ (k : ℕ). k + cond (is_named (slice_index_or txs n (of_parts [] [])).inputs c) 1 0) was
      ∙ at (is_named (slice_index_or txs n (of_parts [] [])).inputs c) (spender_count (accepted_in txs flags) c)
    where
      at : (b : Bool) (m : ℕ) → m + cond b 1 0 ≡ cond b (m + 1) m
      at true m = refl
      at false m = omega arith
  count_at false c e =
      let was : spender_count (accepted_in txs (set flags n true)) c ≡ spender_count (accepted_in txs flags) c =
      ap (λ (fs : List Bool). spender_count (accepted_in txs fs) c) (set_same flags n true false (omega arith) e) in
      at (is_named (slice_index_or txs n (of_parts [] [])).inputs c) _ _ (sym was ∙ count_turned txs flags n c long lt)
    where
      at : (b : Bool) (m k : ℕ) → m ≡ k + cond b 1 0 → k ≡ cond b (m - 1) m
      at true m k e = omega arith
      at false m k e = omega arith

  -- the counts of spenders follow
  pub counts_turned : (now : Bool) (cs : List Coin) → get_or flags n now ≡ not now
      → counted now (slice_index_or txs n (of_parts [] [])).inputs cs (map (spender_count (accepted_in txs flags)) cs)
      ≡ map (spender_count (accepted_in txs (set flags n now))) cs
  counts_turned now [] e = refl
  counts_turned now (c ∷ cs) e = rw (counts_turned now cs e, count_at now c e) refl

  accepted_few : (ts : List Transaction) (fs : List Bool) → length (accepted_in ts fs) ≤ length fs
  accepted_few [] fs = omega arith
  accepted_few (t ∷ ts) [] = omega arith
  accepted_few (t ∷ ts) (true ∷ fs) = let r : length (accepted_in ts fs) ≤ length fs = accepted_few ts fs in omega arith
  accepted_few (t ∷ ts) (false ∷ fs) = let r : length (accepted_in ts fs) ≤ length fs = accepted_few ts fs in omega arith

  can_count_at : (now : Bool) (c : Coin) → get_or flags n now ≡ not now → length flags ≤ 131072
      → is_named (slice_index_or txs n (of_parts [] [])).inputs c ≡ true → CanShift now (spender_count (accepted_in txs flags) c)
  can_count_at true c e few named =
      let a : spender_count (accepted_in txs flags) c ≤ length (accepted_in txs flags) = count_by-le-length (λ (t : Payment). spends t c.name) (accepted_in txs flags) in
      let b : length (accepted_in txs flags) ≤ length flags = accepted_few txs flags in
      omega arith
  can_count_at false c e few named =
      let was : spender_count (accepted_in txs (set flags n true)) c ≡ spender_count (accepted_in txs flags) c =
      ap (λ (fs : List Bool). spender_count (accepted_in txs fs) c) (set_same flags n true false (omega arith) e) in
      let t : spender_count (accepted_in txs (set flags n true)) c
      ≡ spender_count (accepted_in txs (set flags n false)) c + cond (is_named (slice_index_or txs n (of_parts [] [])).inputs c) 1 0 = count_turned txs flags n c long lt in
      let o : cond {A = ℕ} (is_named (slice_index_or txs n (of_parts [] [])).inputs c) 1 0 ≡ 1 = ap (λ b. cond {A = ℕ} b 1 0) named in
      omega arith

  -- and they can
  pub can_turn : (now : Bool) (cs : List Coin) → get_or flags n now ≡ not now → length flags ≤ 131072
      → CanCount now (slice_index_or txs n (of_parts [] [])).inputs cs (map (spender_count (accepted_in txs flags)) cs)
  can_turn now cs e few = λ k d within named.
      rw (get_or-map (spender_count (accepted_in txs flags)) cs k d 0 within) (can_count_at now (get_or cs k d) e few named)

-- ---- spenders by number

spenders_few : (first : ℕ) (from : Outpoint) (txs : List Transaction) → length (spenders_from first from txs) ≤ length txs
spenders_few first from [] = omega arith
spenders_few first from (t ∷ ts) = at (is_spent_by from t.inputs) (spenders_few (suc first) from ts)
  where
    at : (b : Bool) → length (spenders_from (suc first) from ts) ≤ length ts
        → length (cond b (first ∷ spenders_from (suc first) from ts) (spenders_from (suc first) from ts)) ≤ length (t ∷ ts)
    at true r = omega arith
    at false r = omega arith

-- no more transactions spend an outpoint than there are
pub few_spenders : (txs : List Transaction) (from : Outpoint) → length (spenders_in txs from) ≤ length txs
few_spenders txs from = spenders_few 0 from txs
