-- The first carriers and the transactions that they have, and what more carriers change of them.
use Rattle.std.proofs.Common.{◌≡◌, ◌≢◌, ℕ, zero, suc, ◌+◌, ◌-◌, ◌<◌, ◌≤◌, Bool, true, false, cond, eqb, List, [], ◌∷◌, ◌++◌, length, map, max, take, get_or, Option, Some, None, refl, sym, ap, ◌∙◌, inl, inr, arith, subst, append-nil, append_assoc, length-append, IsTrue, ◌↔◌}
use Rattle.std.specs.Prelude.{All}
use Rattle.std.proofs.lemmas.Bool.{cases_lt, eqb-false, false≢true}
use Rattle.std.proofs.lemmas.List.{length-take-le, take-append-le, take-map, take_all, take_more}
use Rattle.std.proofs.lemmas.List.Elements.{All-nil, All-push, All-tail, All-take}
use Rattle.sp_dag.specs.Numbered.{Numbered}
use Rattle.sp_tx.specs.Parts.{of_parts, Transaction}
use Rattle.sp_tx.specs.Spending.{id_of}
use Rattle.sp_model.specs.Graph.{AreDistinct}
use Rattle.sp_model.proofs.Sets.{AreDistinct-take}
use Rattle.sp_carry.specs.declared.carrier.Carrier.{Carrier}
use Rattle.sp_carry.specs.Carried.{Carried, carried_by, carriers_from, carriers_in, next_carrier, number_of, tx_at, used, used_from, with_carrier, with_carriers, with_row, with_tx, AreLinked}
use Rattle.sp_carry.specs.declared.table.Table.{Table}
use Rattle.sp_carry.specs.Kept.{Keeps}
use Rattle.sp_carry.specs.Growth.{front, AreInTurn}
use Rattle.sp_carry.proofs.Linked.{counts_more, linked_more, none_yet_from}
use Rattle.sp_carry.proofs.Finding.{number_within}

-- ---- how many transactions carriers have

pub used-more : (n : ℕ) (xs : List Carrier) → n ≤ used_from n xs
used-more n [] = omega arith
used-more n (r ∷ rs) = (let rest = used-more (max n (suc r.tx)) rs in omega (arith, rest))

pub used-append : (n : ℕ) (xs ys : List Carrier) → used_from n (xs ++ ys) ≡ used_from (used_from n xs) ys
used-append n [] ys = refl
used-append n (r ∷ rs) ys = used-append (max n (suc r.tx)) rs ys

pub all_used : (n : ℕ) (xs : List Carrier) → All (λ (r : Carrier). r.tx < used_from n xs) xs
all_used n [] k d le = absurd (omega arith)
all_used n (r ∷ rs) zero d le = (let rest = used-more (max n (suc r.tx)) rs in omega (arith, rest))
all_used n (r ∷ rs) (suc k) d le = all_used (max n (suc r.tx)) rs k d (omega arith)

-- no more than there are
pub used-few : (n most : ℕ) (xs : List Carrier) → n ≤ most → All (λ (r : Carrier). r.tx < most) xs → used_from n xs ≤ most
used-few n most [] le all = le
used-few n most (r ∷ rs) le all =
    (let here : r.tx < most = all 0 r (omega arith) in
    used-few (max n (suc r.tx)) most rs (omega (arith, le, here)) (All-tail (λ (r : Carrier). r.tx < most) r rs all))

-- and one at most for each carrier
pub used-short : (n : ℕ) (xs : List Carrier) → AreInTurn n xs → used_from n xs ≤ n + length xs
used-short n [] turn = omega arith
used-short n (r ∷ rs) turn = (let rest = used-short (max n (suc r.tx)) rs turn.1 in omega (arith, rest, turn.0))

-- each of them has a carrier
pub used-carried : (n first tx : ℕ) (xs : List Carrier) → AreInTurn n xs → n ≤ tx → tx < used_from n xs → carriers_from first tx xs ≡ [] → ⊥
used-carried n first tx [] turn le lt none = absurd (omega arith)
used-carried n first tx (r ∷ rs) turn le lt none = at (eqb r.tx tx) refl (used-carried (max n (suc r.tx)) (suc first) tx rs turn.1) none
  where
    at : (c : Bool) → eqb r.tx tx ≡ c → (max n (suc r.tx) ≤ tx → tx < used_from (max n (suc r.tx)) rs → carriers_from (suc first) tx rs ≡ [] → ⊥)
        → cond c (first ∷ carriers_from (suc first) tx rs) (carriers_from (suc first) tx rs) ≡ [] → ⊥
    at true e rest = λ none. (let long : suc (length (carriers_from (suc first) tx rs)) ≡ 0 = ap length none in omega (arith, long))
    at false e rest = rest (let other : r.tx ≢ tx = eqb-false r.tx tx e in (elim (cases_lt r.tx tx) [ inl less ↦ omega (arith, less, le) | inr past ↦ absurd (other (omega (arith, past, turn.0, le))) ])) lt

-- carriers in turn, and one more
pub turn-more : (n : ℕ) (xs : List Carrier) (r : Carrier) → AreInTurn n xs → r.tx ≤ used_from n xs → AreInTurn n (xs ++ r ∷ [])
turn-more n [] r turn le = (le, tt)
turn-more n (x ∷ xs) r turn le = (turn.0, turn-more (max n (suc x.tx)) xs r turn.1 le)

pub turn-take : (n m : ℕ) (xs : List Carrier) → AreInTurn n xs → AreInTurn n (take m xs)
turn-take n zero xs turn = tt
turn-take n (suc m) [] turn = tt
turn-take n (suc m) (x ∷ xs) turn = (turn.0, turn-take (max n (suc x.tx)) m xs turn.1)

pub turn-at : (n m : ℕ) (xs : List Carrier) (r : Carrier) → AreInTurn n xs → m < length xs → (get_or xs m r).tx ≤ used_from n (take m xs)
turn-at n m [] r turn le = absurd (omega arith)
turn-at n zero (x ∷ xs) r turn le = turn.0
turn-at n (suc m) (x ∷ xs) r turn le = turn-at (max n (suc x.tx)) m xs r turn.1 (omega arith)

-- ---- all transactions are those of the carriers

pub used-all : (k : Carried) → AreLinked k → used k.rows ≡ length k.txs
used-all k linked =
    let few : used k.rows ≤ length k.txs = used-few 0 (length k.txs) k.rows (omega arith) linked.txs in
    elim (cases_lt (used k.rows) (length k.txs)) [
      | inl less ↦ absurd (linked.used (used k.rows) less (none_yet_from 0 (used k.rows) k.rows (all_used 0 k.rows)))
      | inr past ↦ omega (arith, few, past)
    ]

pub used-front : (k : Carried) (n : ℕ) → AreLinked k → used (take n k.rows) ≤ length k.txs
used-front k n linked =
    used-few 0 (length k.txs) (take n k.rows) (omega arith) (All-take (λ (r : Carrier). r.tx < length k.txs) n k.rows linked.txs)

pub linked_front : (k : Carried) (n : ℕ) → AreLinked k → AreInTurn 0 k.rows → AreLinked (front k n)
linked_front k n linked turn =
    let long : length (front k n).txs ≡ used (take n k.rows) = length-take-le (used (take n k.rows)) k.txs (used-front k n linked) in
    record {
      ids = subst AreDistinct (take-map id_of (used (take n k.rows)) k.txs) (AreDistinct-take (used (take n k.rows)) (map id_of k.txs) linked.ids);
      txs = subst (λ (m : ℕ). All (λ (r : Carrier). r.tx < m) (take n k.rows)) (sym long) (all_used 0 (take n k.rows));
      used = λ tx lt. used-carried 0 0 tx (take n k.rows) (turn-take 0 n k.rows turn) (omega arith) (omega (arith, lt, long));
    }

pub front_whole : (k : Carried) (n : ℕ) → AreLinked k → length k.rows ≤ n → front k n ≡ k
front_whole k n linked le =
    let rows : take n k.rows ≡ k.rows = take_all n k.rows le in
    let txs : take (used (take n k.rows)) k.txs ≡ k.txs =
    take_all (used (take n k.rows)) k.txs (omega (arith, ap used rows, used-all k linked)) in
    ap (λ (ts : List Transaction). let f : Carried = record { blocks = k.blocks; txs = ts; rows = take n k.rows } in f) txs
    ∙ ap (λ (rs : List Carrier). let f : Carried = record { blocks = k.blocks; txs = k.txs; rows = rs } in f) rows

-- ---- more carriers

turn_more : (table : Numbered) (k : Carried) (t : Transaction) → AreLinked k → AreInTurn 0 k.rows → AreInTurn 0 (with_carrier table k t).rows
turn_more table k t linked turn = at (number_of k (id_of t)) refl
  where
    at : (o : Option ℕ) → number_of k (id_of t) ≡ o → AreInTurn 0 (carried_by table k t o).rows
    at None e = turn-more 0 k.rows (next_carrier table k (length k.txs) t) turn (omega (arith, used-all k linked))
    at (Some n) e =
        turn-more 0 k.rows (next_carrier table k n (tx_at k n)) turn (let within : n < length k.txs = number_within k (id_of t) n e in omega (arith, within, used-all k linked))

front_of : (k : Carried) (n : ℕ) (ts : List Transaction) (rs : List Carrier) → AreLinked k → n ≤ length k.rows
    → front (record { blocks = k.blocks; txs = k.txs ++ ts; rows = k.rows ++ rs }) n ≡ front k n
front_of k n ts rs linked le =
    let rows : take n (k.rows ++ rs) ≡ take n k.rows = take-append-le n k.rows rs le in
    ap (λ (l : List Carrier). let f : Carried = record { blocks = k.blocks; txs = take (used l) (k.txs ++ ts); rows = l } in f) rows
    ∙ ap (λ (l : List Transaction). let f : Carried = record { blocks = k.blocks; txs = l; rows = take n k.rows } in f)
    (take-append-le (used (take n k.rows)) k.txs ts (used-front k n linked))

front_more : (table : Numbered) (k : Carried) (t : Transaction) (n : ℕ) → AreLinked k → n ≤ length k.rows → front (with_carrier table k t) n ≡ front k n
front_more table k t n linked le = at (number_of k (id_of t))
  where
    at : (o : Option ℕ) → front (carried_by table k t o) n ≡ front k n
    at None = front_of k n (t ∷ []) (next_carrier table k (length k.txs) t ∷ []) linked le
    at (Some m) =
        ap (λ (l : List Transaction). let f : Carried = record { blocks = k.blocks; txs = take (used (take n (k.rows ++ next_carrier table k m (tx_at k m) ∷ []))) l; rows = take n (k.rows ++ next_carrier table k m (tx_at k m) ∷ []) } in f)
        (sym (append-nil k.txs))
        ∙ front_of k n [] (next_carrier table k m (tx_at k m) ∷ []) linked le

-- what more carriers of the next block leave
pub record GoesOn (k now : Carried) : Type 0 where
  pub linked : AreLinked now
  pub turn : AreInTurn 0 k.rows → AreInTurn 0 now.rows
  pub same : front now (length k.rows) ≡ k
  pub blocks : now.blocks ≡ k.blocks
  pub more : List Carrier
  pub rows : now.rows ≡ k.rows ++ more
  pub theirs : All (λ (r : Carrier). r.block ≡ k.blocks) more
  pub more_txs : List Transaction
  pub txs : now.txs ≡ k.txs ++ more_txs

goes_on : (table : Numbered) (k now : Carried) (t : Transaction) → GoesOn k now → GoesOn k (with_carrier table now t)
goes_on table k now t h = at (number_of now (id_of t)) refl
  where
    le : length k.rows ≤ length now.rows
    le = omega (arith, ap length h.rows, length-append k.rows h.more)

    linked : AreLinked (with_carrier table now t)
    linked = linked_more table now t h.linked

    turn : AreInTurn 0 k.rows → AreInTurn 0 (with_carrier table now t).rows
    turn was = turn_more table now t h.linked (h.turn was)

    same : front (with_carrier table now t) (length k.rows) ≡ k
    same = front_more table now t (length k.rows) h.linked le ∙ h.same

    row : (r : Carrier) → now.rows ++ r ∷ [] ≡ k.rows ++ (h.more ++ r ∷ [])
    row r = ap (λ (l : List Carrier). l ++ r ∷ []) h.rows ∙ append_assoc k.rows h.more (r ∷ [])

    at : (o : Option ℕ) → number_of now (id_of t) ≡ o → GoesOn k (with_carrier table now t)
    at None e =
        record {
          linked = linked;
          turn = turn;
          same = same;
          blocks = (counts_more table now t).2 ∙ h.blocks;
          more = h.more ++ next_carrier table now (length now.txs) t ∷ [];
          rows = ap (λ (o : Option ℕ). (carried_by table now t o).rows) e ∙ row (next_carrier table now (length now.txs) t);
          theirs = All-push (λ (r : Carrier). r.block ≡ k.blocks) h.more (next_carrier table now (length now.txs) t) h.theirs h.blocks;
          more_txs = h.more_txs ++ t ∷ [];
          txs = ap (λ (o : Option ℕ). (carried_by table now t o).txs) e ∙ ap (λ (l : List Transaction). l ++ t ∷ []) h.txs ∙ append_assoc k.txs h.more_txs (t ∷ []);
        }
    at (Some n) e =
        record {
          linked = linked;
          turn = turn;
          same = same;
          blocks = (counts_more table now t).2 ∙ h.blocks;
          more = h.more ++ next_carrier table now n (tx_at now n) ∷ [];
          rows = ap (λ (o : Option ℕ). (carried_by table now t o).rows) e ∙ row (next_carrier table now n (tx_at now n));
          theirs = All-push (λ (r : Carrier). r.block ≡ k.blocks) h.more (next_carrier table now n (tx_at now n)) h.theirs h.blocks;
          more_txs = h.more_txs;
          txs = ap (λ (o : Option ℕ). (carried_by table now t o).txs) e ∙ h.txs;
        }

grown_from : (table : Numbered) (k now : Carried) (ts : List Transaction) → GoesOn k now → GoesOn k (with_carriers table now ts)
grown_from table k now [] h = h
grown_from table k now (t ∷ ts) h = grown_from table k (with_carrier table now t) ts (goes_on table k now t h)

pub grown : (table : Numbered) (k : Carried) (ts : List Transaction) → AreLinked k → GoesOn k (with_carriers table k ts)
grown table k ts linked =
    grown_from table k k ts
    (record {
      linked = linked;
      turn = λ was. was;
      same = front_whole k (length k.rows) linked (omega arith);
      blocks = refl;
      more = [];
      rows = sym (append-nil k.rows);
      theirs = All-nil (λ (r : Carrier). r.block ≡ k.blocks);
      more_txs = [];
      txs = sym (append-nil k.txs);
    })

-- ---- the last carrier is taken back

module _ (k : Carried) (n : ℕ) (linked : AreLinked k) (turn : AreInTurn 0 k.rows) (lt : n < length k.rows) (old mid : Table) (none : Bool) (h : Keeps old (front k (n + 1)))
    (row : (k : Carried) (r : Carrier) → Keeps old (with_row k r) → Keeps mid k)
    (left : (k : Carried) (r : Carrier) → Keeps old (with_row k r) → IsTrue none ↔ (carriers_in k.rows r.tx ≡ [])) where
  abbrev last : Carrier
  last = get_or k.rows n (record { block = 0; tx = 0; sound = true })

  abbrev there : ℕ
  there = used (take n k.rows)

  rows_are : take (n + 1) k.rows ≡ take n k.rows ++ last ∷ []
  rows_are = take_more k.rows n (record { block = 0; tx = 0; sound = true }) lt

  in_turn : last.tx ≤ there
  in_turn = turn-at 0 n k.rows (record { block = 0; tx = 0; sound = true }) turn lt

  count : used (take (n + 1) k.rows) ≡ max there (suc last.tx)
  count = ap used rows_are ∙ used-append 0 (take n k.rows) (last ∷ [])

  -- with the last one, where its transaction was there
  known : last.tx < there → front k (n + 1) ≡ with_row (front k n) last
  known less =
      (let same : used (take (n + 1) k.rows) ≡ there = omega (arith, count, less) in
      ap (λ (m : ℕ). let f : Carried = record { blocks = k.blocks; txs = take m k.txs; rows = take (n + 1) k.rows } in f) same
      ∙ ap (λ (l : List Carrier). let f : Carried = record { blocks = k.blocks; txs = take there k.txs; rows = l } in f) rows_are)

  -- and where it is a new one
  fresh : there ≤ last.tx → front k (n + 1) ≡ with_row (with_tx (front k n) (tx_at k there)) last
  fresh le =
      (let same : used (take (n + 1) k.rows) ≡ there + 1 = omega (arith, count, le, in_turn) in
      let inside : there < length k.txs = (let few = used-front k (n + 1) linked in omega (arith, few, same)) in
      ap (λ (m : ℕ). let f : Carried = record { blocks = k.blocks; txs = take m k.txs; rows = take (n + 1) k.rows } in f) same
      ∙ ap (λ (l : List Transaction). let f : Carried = record { blocks = k.blocks; txs = l; rows = take (n + 1) k.rows } in f) (take_more k.txs there (of_parts [] []) inside)
      ∙ ap (λ (l : List Carrier). let f : Carried = record { blocks = k.blocks; txs = take there k.txs ++ tx_at k there ∷ []; rows = l } in f) rows_are)

  -- its transaction was there exactly where it has another carrier
  pub back_row : none ≡ false → Keeps mid (front k n)
  back_row is =
      elim (cases_lt last.tx there) [
        | inl less ↦ row (front k n) last (subst (Keeps old) (known less) h)
        | inr le ↦ absurd (false≢true (sym is ∙ (left (with_tx (front k n) (tx_at k there)) last (subst (Keeps old) (fresh le) h)).1
            (ap (λ (tx : ℕ). carriers_in (take n k.rows) tx) (let same : last.tx ≡ there = omega (arith, le, in_turn) in same) ∙ none_yet_from 0 there (take n k.rows) (all_used 0 (take n k.rows)))))
      ]

  pub back_whole : (new : Table) → none ≡ true → ((k : Carried) (t : Transaction) → Keeps mid (with_tx k t) → carriers_in k.rows (length k.txs) ≡ [] → Keeps new k) → Keeps new (front k n)
  back_whole new is dropped =
      elim (cases_lt last.tx there) [
        | inl less ↦ absurd (used-carried 0 0 last.tx (take n k.rows) (turn-take 0 n k.rows turn) (omega arith) less
            ((left (front k n) last (subst (Keeps old) (known less) h)).0 is))
        | inr le ↦ (let whole = row (with_tx (front k n) (tx_at k there)) last (subst (Keeps old) (fresh le) h) in
            let long : length (front k n).txs ≡ there = length-take-le there k.txs (used-front k n linked) in
            dropped (front k n) (tx_at k there) whole
            (ap (λ (tx : ℕ). carriers_in (take n k.rows) tx) long ∙ none_yet_from 0 there (take n k.rows) (all_used 0 (take n k.rows))))
      ]

-- one step of taking back
pub step_back : (k : Carried) (old new : Table) → AreLinked k → AreInTurn 0 k.rows → 0 < length old.rows.items → length old.rows.items ≤ length k.rows
    → Keeps old (front k (length old.rows.items))
    → ((k : Carried) (n : ℕ) → AreLinked k → AreInTurn 0 k.rows → n < length k.rows → Keeps old (front k (n + 1)) → Keeps new (front k n))
    → Keeps new (front k (length new.rows.items)) × (length new.rows.items + 1 ≡ length old.rows.items)
step_back k old new linked turn some le h back =
    let n = length old.rows.items - 1 in
    let next : length old.rows.items ≡ n + 1 = omega (arith, some) in
    let now : Keeps new (front k n) = back k n linked turn (omega (arith, next, le)) (subst (λ (m : ℕ). Keeps old (front k m)) next h) in
    let left : length new.rows.items ≡ n = ap length now.rows ∙ length-take-le n k.rows (omega (arith, next, le)) in
    (subst (λ (m : ℕ). Keeps new (front k m)) (sym left) now, omega (arith, left, next))
