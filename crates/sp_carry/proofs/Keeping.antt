-- What one more transaction, and one more carrier, change in what a table keeps, and how each is taken back.
use Rattle.std.proofs.Common.{◌≡◌, ◌↔◌, ℕ, zero, suc, Bool, true, false, cond, eqb, not, ◌||◌, ◌+◌, ◌-◌, ◌<◌, ◌≤◌, List, [], ◌∷◌, ◌++◌, length, map, take, get_or, set, Some, None, refl, sym, ap, ◌∙◌, arith, length-append, subst, IsTrue, inl, inr}
use Rattle.std.proofs.lemmas.Bool.{cases_lt, eqb-true, eqb-false, eq-eqb, ne_eqb, false≢true, false_from_ne_true, lt-ltb}
use Rattle.std.proofs.lemmas.List.{append-nil, map-append, get_or-set_same, get_or-set_other, length-set, get_or-take, length-take-le}
use Rattle.std.proofs.Math.Seq.{take-append_seam}
use Rattle.std.proofs.Math.ListN.{length-map}
use Rattle.std.specs.Prelude.{All, position}
use Rattle.std.specs.List.{list_any, position_or_len}
use Rattle.sp_ids.specs.declared.outpoint.Outpoint.{Outpoint}
use Rattle.sp_tx.specs.Parts.{Transaction}
use Rattle.sp_tx.specs.Spending.{id_of}
use Rattle.sp_carry.specs.declared.carrier.Carrier.{Carrier}
use Rattle.sp_carry.specs.declared.table.Table.{Table}
use Rattle.sp_carry.specs.Lookups.{is_spent_by, kept_at, spenders_from, spenders_in, IsForgotten, IsNoted}
use Rattle.sp_carry.specs.Carried.{Carried, carriers_from, carriers_in, with_tx, with_row}
use Rattle.sp_carry.specs.Kept.{carried_of, Keeps}

pub carriers_push : (first tx : ℕ) (rows : List Carrier) (r : Carrier)
    → carriers_from first tx (rows ++ r ∷ []) ≡ carriers_from first tx rows ++ cond (eqb r.tx tx) ((first + length rows) ∷ []) []
carriers_push first tx [] r = ap (λ (n : ℕ). cond (eqb r.tx tx) (n ∷ []) []) (let e : first ≡ first + 0 = omega arith in e)
carriers_push first tx (x ∷ xs) r = at (eqb x.tx tx) (carriers_push (suc first) tx xs r)
  where
    on : suc first + length xs ≡ first + suc (length xs)
    on = omega arith

    at : (c : Bool)
        → carriers_from (suc first) tx (xs ++ r ∷ []) ≡ carriers_from (suc first) tx xs ++ cond (eqb r.tx tx) ((suc first + length xs) ∷ []) []
        → cond c (first ∷ carriers_from (suc first) tx (xs ++ r ∷ [])) (carriers_from (suc first) tx (xs ++ r ∷ []))
        ≡ cond c (first ∷ carriers_from (suc first) tx xs) (carriers_from (suc first) tx xs) ++ cond (eqb r.tx tx) ((first + suc (length xs)) ∷ []) []
    at true h = rw (h, on) refl
    at false h = rw (h, on) refl

pub spenders_push : (first : ℕ) (from : Outpoint) (txs : List Transaction) (t : Transaction)
    → spenders_from first from (txs ++ t ∷ []) ≡ spenders_from first from txs ++ cond (is_spent_by from t.inputs) ((first + length txs) ∷ []) []
spenders_push first from [] t = ap (λ (n : ℕ). cond (is_spent_by from t.inputs) (n ∷ []) []) (let e : first ≡ first + 0 = omega arith in e)
spenders_push first from (x ∷ xs) t = at (is_spent_by from x.inputs) (spenders_push (suc first) from xs t)
  where
    on : suc first + length xs ≡ first + suc (length xs)
    on = omega arith

    at : (c : Bool)
        → spenders_from (suc first) from (xs ++ t ∷ []) ≡ spenders_from (suc first) from xs ++ cond (is_spent_by from t.inputs) ((suc first + length xs) ∷ []) []
        → cond c (first ∷ spenders_from (suc first) from (xs ++ t ∷ [])) (spenders_from (suc first) from (xs ++ t ∷ []))
        ≡ cond c (first ∷ spenders_from (suc first) from xs) (spenders_from (suc first) from xs) ++ cond (is_spent_by from t.inputs) ((first + suc (length xs)) ∷ []) []
    at true h = rw (h, on) refl
    at false h = rw (h, on) refl

pub carriers_last : (tx : ℕ) (rows : List Carrier) (r : Carrier) → carriers_in (rows ++ r ∷ []) tx ≡ carriers_in rows tx ++ cond (eqb r.tx tx) (length rows ∷ []) []
carriers_last tx rows r =
    carriers_push 0 tx rows r ∙ ap (λ (n : ℕ). carriers_in rows tx ++ cond (eqb r.tx tx) (n ∷ []) []) (let e : 0 + length rows ≡ length rows = omega arith in e)

pub spenders_last : (from : Outpoint) (txs : List Transaction) (t : Transaction)
    → spenders_in (txs ++ t ∷ []) from ≡ spenders_in txs from ++ cond (is_spent_by from t.inputs) (length txs ∷ []) []
spenders_last from txs t =
    spenders_push 0 from txs t
    ∙ ap (λ (n : ℕ). spenders_in txs from ++ cond (is_spent_by from t.inputs) (n ∷ []) []) (let e : 0 + length txs ≡ length txs = omega arith in e)

pub any_within : {X : Type 0} (p : X → Bool) (xs : List X) → list_any p xs ≡ true → position_or_len p xs < length xs
any_within p [] h = absurd (false≢true h)
any_within {X} p (x ∷ xs) h = at (p x) h (any_within p xs)
  where
    at : (c : Bool) → (c || list_any p xs) ≡ true → (list_any p xs ≡ true → position_or_len p xs < length xs)
        → cond (not c) (1 + position_or_len p xs) 0 < suc (length xs)
    at true h rest = omega arith
    at false h rest = (let less : position_or_len p xs < length xs = rest h in omega arith)

-- an id that isn't found isn't there
pub none_found : (ids : List ℕ) (id : ℕ) → position (eqb id) ids ≡ None → list_any (eqb id) ids ≡ false
none_found ids id none =
    false_from_ne_true (list_any (eqb id) ids)
    (λ h. some_none (sym (ap (λ (c : Bool). cond c (Some (position_or_len (eqb id) ids)) None) (lt-ltb (position_or_len (eqb id) ids) (length ids) (any_within (eqb id) ids h))) ∙ none))
  where
    some_none : {n : ℕ} → Some n ≡ None → ⊥
    some_none e = cc

-- one list behind all lists
one_behind : (lists : List (List ℕ)) (list : List ℕ) (n : ℕ) → get_or (lists ++ list ∷ []) n [] ≡ cond (eqb (length lists) n) list (get_or lists n [])
one_behind [] list zero = refl
one_behind [] list (suc n) = sym (ap (λ (c : Bool). cond c list []) (ne_eqb 0 (suc n) (λ e. omega (arith, e))))
one_behind (x ∷ xs) list zero = sym (ap (λ (c : Bool). cond c list x) (ne_eqb (suc (length xs)) 0 (λ e. omega (arith, e))))
one_behind (x ∷ xs) list (suc n) = one_behind xs list n ∙ ap (λ (c : Bool). cond c list (get_or xs n [])) (same (length xs) n)
  where
    same : (a b : ℕ) → eqb a b ≡ eqb (suc a) (suc b)
    same a b = at (eqb a b) refl
      where
        at : (c : Bool) → eqb a b ≡ c → c ≡ eqb (suc a) (suc b)
        at true e = sym (eq-eqb (suc a) (suc b) (ap suc (eqb-true a b e)))
        at false e = sym (ne_eqb (suc a) (suc b) (λ s. eqb-false a b e (omega (arith, s))))

pub any_default : {X : Type 0} (xs : List X) (i : ℕ) (d e : X) → i < length xs → get_or xs i d ≡ get_or xs i e
any_default [] i d e lt = absurd (omega arith)
any_default (x ∷ xs) zero d e lt = refl
any_default (x ∷ xs) (suc i) d e lt = any_default xs i d e (omega arith)

pub keeps_new : (t u : Table) (k : Carried) (x : Transaction) (r : Carrier) (id number : ℕ) → Keeps t k → u.blocks ≡ t.blocks
    → u.txs.items ≡ t.txs.items ++ x ∷ [] → u.ids ≡ t.ids ++ id ∷ [] → id ≡ id_of x → u.rows.items ≡ t.rows.items ++ r ∷ []
    → u.by_tx.items ≡ t.by_tx.items ++ (number ∷ []) ∷ [] → IsNoted t.spenders.lists u.spenders.lists x.inputs r.tx
    → r.tx ≡ length t.txs.items → number ≡ length t.rows.items → carriers_in k.rows r.tx ≡ [] → Keeps u (with_row (with_tx k x) r)
keeps_new t u k x r id number h blocks txs ids is rows lists noted last place none =
    record {
      blocks = blocks ∙ h.blocks;
      txs = txs ∙ ap (λ (ts : List Transaction). ts ++ x ∷ []) h.txs;
      ids = ids ∙ rw (h.ids, is) (sym (map-append id_of k.txs (x ∷ [])));
      rows = rows ∙ ap (λ (rs : List Carrier). rs ++ r ∷ []) h.rows;
      long = ap length lists ∙ length-append t.by_tx.items ((number ∷ []) ∷ []) ∙ ap (λ (n : ℕ). n + 1) h.long ∙ sym (length-append k.txs (x ∷ []));
      lists = λ tx.
          ap (λ (xs : List (List ℕ)). get_or xs tx []) lists ∙ one_behind t.by_tx.items (number ∷ []) tx
          ∙ ap (λ (n : ℕ). cond (eqb n tx) (number ∷ []) (get_or t.by_tx.items tx [])) here ∙ at tx (eqb r.tx tx) refl ∙ sym (carriers_last tx k.rows r);
      spenders = λ from. noted from ∙ rw (h.spenders from, last, h.txs) (sym (spenders_last from k.txs x));
    }
  where
    here : length t.by_tx.items ≡ r.tx
    here = h.long ∙ sym (last ∙ ap length h.txs)

    at : (tx : ℕ) (c : Bool) → eqb r.tx tx ≡ c
        → cond c (number ∷ []) (get_or t.by_tx.items tx []) ≡ carriers_in k.rows tx ++ cond c (length k.rows ∷ []) []
    at tx true e =
        let same : r.tx ≡ tx = eqb-true r.tx tx e in
        ap (λ (n : ℕ). n ∷ []) (place ∙ ap length h.rows)
        ∙ ap (λ (xs : List ℕ). xs ++ length k.rows ∷ []) (sym none ∙ ap (carriers_in k.rows) same)
    at tx false e = h.lists tx ∙ sym (append-nil (carriers_in k.rows tx))

pub keeps_row : (t u : Table) (k : Carried) (r : Carrier) (list : List ℕ) (number : ℕ) → Keeps t k → u.blocks ≡ t.blocks → u.txs.items ≡ t.txs.items
    → u.ids ≡ t.ids → u.rows.items ≡ t.rows.items ++ r ∷ [] → r.tx < length t.by_tx.items → list ≡ get_or t.by_tx.items r.tx list
    → u.by_tx.items ≡ set t.by_tx.items r.tx (list ++ number ∷ []) → number ≡ length t.rows.items
    → ((from : Outpoint) → kept_at u.spenders.lists from ≡ kept_at t.spenders.lists from) → Keeps u (with_row k r)
keeps_row t u k r list number h blocks txs ids rows there read lists last spenders =
    record {
      blocks = blocks ∙ h.blocks;
      txs = txs ∙ h.txs;
      ids = ids ∙ h.ids;
      rows = rows ∙ ap (λ (rs : List Carrier). rs ++ r ∷ []) h.rows;
      long = ap length lists ∙ length-set t.by_tx.items r.tx (list ++ number ∷ []) ∙ h.long;
      lists = λ tx. ap (λ (xs : List (List ℕ)). get_or xs tx []) lists ∙ at tx (eqb r.tx tx) refl ∙ sym (carriers_last tx k.rows r);
      spenders = λ from. spenders from ∙ h.spenders from;
    }
  where
    is_last : number ≡ length k.rows
    is_last = last ∙ ap length h.rows

    here : list ≡ carriers_in k.rows r.tx
    here = read ∙ any_default t.by_tx.items r.tx list [] there ∙ h.lists r.tx

    at : (tx : ℕ) (c : Bool) → eqb r.tx tx ≡ c
        → get_or (set t.by_tx.items r.tx (list ++ number ∷ [])) tx [] ≡ carriers_in k.rows tx ++ cond c (length k.rows ∷ []) []
    at tx true e =
        let same : r.tx ≡ tx = eqb-true r.tx tx e in
        ap (λ (n : ℕ). get_or (set t.by_tx.items r.tx (list ++ number ∷ [])) n []) (sym same)
        ∙ get_or-set_same t.by_tx.items r.tx (list ++ number ∷ []) [] there ∙ rw (here, is_last, same) refl
    at tx false e =
        get_or-set_other t.by_tx.items r.tx tx (list ++ number ∷ []) [] (λ same. eqb-false r.tx tx e (sym same)) ∙ h.lists tx
        ∙ sym (append-nil (carriers_in k.rows tx))

-- two lists with one more at the end
pub last_same : {X : Type 0} (xs ys : List X) (x y : X) → xs ++ x ∷ [] ≡ ys ++ y ∷ [] → (xs ≡ ys) × (x ≡ y)
last_same [] [] x y e = (refl, ap (λ (l : List _). get_or l 0 x) e)
last_same [] (z ∷ ys) x y e = absurd (let long : length (x ∷ []) ≡ length (z ∷ (ys ++ y ∷ [])) = ap length e in omega (arith, long, length-append ys (y ∷ [])))
last_same (z ∷ xs) [] x y e = absurd (let long : length (z ∷ (xs ++ x ∷ [])) ≡ length (y ∷ []) = ap length e in omega (arith, long, length-append xs (x ∷ [])))
last_same {X} (z ∷ xs) (w ∷ ys) x y e =
    let rest : (xs ≡ ys) × (x ≡ y) = last_same xs ys x y (ap tail e) in
    let first : z ≡ w = ap (λ (l : List X). get_or l 0 z) e in
    (ap (λ (v : X). v ∷ xs) first ∙ ap (λ (l : List X). w ∷ l) rest.0, rest.1)
  where
    tail : List X → List X
    tail [] = []
    tail (v ∷ vs) = vs

-- the last carrier is taken back, and the last number of those under its transaction
pub row_dropped : (t u : Table) (k : Carried) (r row : Carrier) (list now : List ℕ) → Keeps t (with_row k r) → u.blocks ≡ t.blocks → u.txs.items ≡ t.txs.items
    → u.ids ≡ t.ids → t.rows.items ≡ u.rows.items ++ row ∷ [] → row.tx < length t.by_tx.items → list ≡ get_or t.by_tx.items row.tx list
    → ((front : List ℕ) (last : ℕ) → list ≡ front ++ last ∷ [] → now ≡ front) → u.by_tx.items ≡ set t.by_tx.items row.tx now
    → ((from : Outpoint) → kept_at u.spenders.lists from ≡ kept_at t.spenders.lists from) → Keeps u k
row_dropped t u k r row list now h blocks txs ids rows there read popped lists spenders =
    record {
      blocks = blocks ∙ h.blocks;
      txs = txs ∙ h.txs;
      ids = ids ∙ h.ids;
      rows = both.0;
      long = ap length lists ∙ length-set t.by_tx.items row.tx now ∙ h.long;
      lists = λ tx. ap (λ (xs : List (List ℕ)). get_or xs tx []) lists ∙ at tx (eqb row.tx tx) refl;
      spenders = λ from. spenders from ∙ h.spenders from;
    }
  where
    both : (u.rows.items ≡ k.rows) × (row ≡ r)
    both = last_same u.rows.items k.rows row r (sym rows ∙ h.rows)

    full : (tx : ℕ) → get_or t.by_tx.items tx [] ≡ carriers_in k.rows tx ++ cond (eqb row.tx tx) (length k.rows ∷ []) []
    full tx =
        h.lists tx ∙ carriers_last tx k.rows r
        ∙ ap (λ (v : Carrier). carriers_in k.rows tx ++ cond (eqb v.tx tx) (length k.rows ∷ []) []) (sym both.1)

    here : list ≡ carriers_in k.rows row.tx ++ length k.rows ∷ []
    here =
        read ∙ any_default t.by_tx.items row.tx list [] there ∙ full row.tx
        ∙ ap (λ (c : Bool). carriers_in k.rows row.tx ++ cond c (length k.rows ∷ []) []) (eq-eqb row.tx row.tx refl)

    at : (tx : ℕ) (c : Bool) → eqb row.tx tx ≡ c → get_or (set t.by_tx.items row.tx now) tx [] ≡ carriers_in k.rows tx
    at tx true e =
        let same : row.tx ≡ tx = eqb-true row.tx tx e in
        ap (λ (n : ℕ). get_or (set t.by_tx.items row.tx now) n []) (sym same)
        ∙ get_or-set_same t.by_tx.items row.tx now [] there ∙ popped (carriers_in k.rows row.tx) (length k.rows) here ∙ ap (carriers_in k.rows) same
    at tx false e =
        get_or-set_other t.by_tx.items row.tx tx now [] (λ same. eqb-false row.tx tx e (sym same)) ∙ full tx
        ∙ ap (λ (c : Bool). carriers_in k.rows tx ++ cond c (length k.rows ∷ []) []) e ∙ append-nil (carriers_in k.rows tx)

-- whether a transaction has a carrier left
pub none_left : (t : Table) (left_rows : List Carrier) (k : Carried) (r row : Carrier) (list : List ℕ) (none : Bool) → Keeps t (with_row k r)
    → t.rows.items ≡ left_rows ++ row ∷ [] → row.tx < length t.by_tx.items → list ≡ get_or t.by_tx.items row.tx list
    → ((front : List ℕ) (last : ℕ) → list ≡ front ++ last ∷ [] → IsTrue none ↔ (front ≡ [])) → IsTrue none ↔ (carriers_in k.rows r.tx ≡ [])
none_left t left_rows k r row list none h rows there read left =
    let both : (left_rows ≡ k.rows) × (row ≡ r) = last_same left_rows k.rows row r (sym rows ∙ h.rows) in
    let here : list ≡ carriers_in k.rows r.tx ++ length k.rows ∷ [] =
    read ∙ any_default t.by_tx.items row.tx list [] there ∙ h.lists row.tx ∙ carriers_last row.tx k.rows r
    ∙ ap (λ (v : Carrier). carriers_in k.rows v.tx ++ cond (eqb r.tx v.tx) (length k.rows ∷ []) []) both.1
    ∙ ap (λ (c : Bool). carriers_in k.rows r.tx ++ cond c (length k.rows ∷ []) []) (eq-eqb r.tx r.tx refl) in
    left (carriers_in k.rows r.tx) (length k.rows) here

-- a table in which the same is found keeps the same
pub keeps_same : (t u : Table) (k : Carried) → Keeps t k → u.blocks ≡ t.blocks → u.txs.items ≡ t.txs.items → u.ids ≡ t.ids → u.rows.items ≡ t.rows.items
    → u.by_tx.items ≡ t.by_tx.items → ((from : Outpoint) → kept_at u.spenders.lists from ≡ kept_at t.spenders.lists from) → Keeps u k
keeps_same t u k h blocks txs ids rows lists spenders =
    record {
      blocks = blocks ∙ h.blocks;
      txs = txs ∙ h.txs;
      ids = ids ∙ h.ids;
      rows = rows ∙ h.rows;
      long = ap length lists ∙ h.long;
      lists = λ tx. ap (λ (xs : List (List ℕ)). get_or xs tx []) lists ∙ h.lists tx;
      spenders = λ from. spenders from ∙ h.spenders from;
    }

pub all_cons : (n x : ℕ) (xs : List ℕ) → x < n → All (λ m. m < n) xs → All (λ m. m < n) (x ∷ xs)
all_cons n x xs lt rest zero d within = lt
all_cons n x xs lt rest (suc k) d within = rest k d (omega (arith, within))

below_from : (first n : ℕ) (from : Outpoint) (txs : List Transaction) → first + length txs ≤ n → All (λ m. m < n) (spenders_from first from txs)
below_from first n from [] le = λ k d within. absurd (omega (arith, within))
below_from first n from (x ∷ xs) le = at (is_spent_by from x.inputs) (below_from (suc first) n from xs (omega (arith, le)))
  where
    at : (c : Bool) → All (λ m. m < n) (spenders_from (suc first) from xs)
        → All (λ m. m < n) (cond c (first ∷ spenders_from (suc first) from xs) (spenders_from (suc first) from xs))
    at true rest = all_cons n first (spenders_from (suc first) from xs) (omega (arith, le)) rest
    at false rest = rest

pub spenders_below : (from : Outpoint) (txs : List Transaction) → All (λ m. m < length txs) (spenders_in txs from)
spenders_below from txs = below_from 0 (length txs) from txs (omega arith)

-- the numbers that are noted are those of transactions
pub noted_below : (t : Table) (n : ℕ) → Keeps t (carried_of t) → n ≡ length t.txs.items → (from : Outpoint) → All (λ m. m < n) (kept_at t.spenders.lists from)
noted_below t n h e from =
    subst (λ (l : List ℕ). All (λ m. m < n) l) (sym (h.spenders from)) (below_from 0 n from t.txs.items (omega (arith, e)))

-- the last transaction is taken back, which has no carrier
pub tx_dropped : (t u : Table) (k : Carried) (x tx : Transaction) (number : ℕ) → Keeps t (with_tx k x) → carriers_in k.rows (length k.txs) ≡ []
    → u.blocks ≡ t.blocks → t.txs.items ≡ u.txs.items ++ tx ∷ [] → number ≡ length u.txs.items → u.ids ≡ take (length t.ids - 1) t.ids
    → u.rows.items ≡ t.rows.items → u.by_tx.items ≡ take (length t.by_tx.items - 1) t.by_tx.items
    → ((first : Outpoint → List ℕ) → IsForgotten first t.spenders.lists u.spenders.lists tx.inputs number) → Keeps u k
tx_dropped t u k x tx number h none blocks txs last ids rows lists forgotten =
    record {
      blocks = blocks ∙ h.blocks;
      txs = both.0;
      ids = ids ∙ rw (one_less, h.ids) (ap (take (length k.txs)) (map-append id_of k.txs (x ∷ []))
          ∙ ap (λ (n : ℕ). take n (map id_of k.txs ++ id_of x ∷ [])) (sym (length-map k.txs id_of))
          ∙ take-append_seam (map id_of k.txs) (id_of x ∷ []));
      rows = rows ∙ h.rows;
      long = ap length lists ∙ length-take-le (length t.by_tx.items - 1) t.by_tx.items (omega (arith, long)) ∙ shorter;
      lists = λ n. ap (λ (xs : List (List ℕ)). get_or xs n []) lists ∙ at n;
      spenders = λ from.
          forgotten (spenders_in k.txs) (record { below = λ o. subst (λ (m : ℕ). All (λ n. n < m) (spenders_in k.txs o)) (sym is_last) (spenders_below o k.txs); partly = partly }) from
          ∙ ap (λ (xs : List ℕ). cond (is_spent_by from tx.inputs) (spenders_in k.txs from) xs) (h.spenders from ∙ spenders_last from k.txs x)
          ∙ ap (λ (y : Transaction). cond (is_spent_by from y.inputs) (spenders_in k.txs from) (spenders_in k.txs from ++ cond (is_spent_by from x.inputs) (length k.txs ∷ []) [])) both.1
          ∙ spent (is_spent_by from x.inputs) (spenders_in k.txs from);
    }
  where
    both : (u.txs.items ≡ k.txs) × (tx ≡ x)
    both = last_same u.txs.items k.txs tx x (sym txs ∙ h.txs)

    is_last : number ≡ length k.txs
    is_last = last ∙ ap length both.0

    one_less : length t.ids - 1 ≡ length k.txs
    one_less =
        (let more : length t.ids ≡ length k.txs + 1 = ap length h.ids ∙ length-map (k.txs ++ x ∷ []) id_of ∙ length-append k.txs (x ∷ []) in omega (arith, more))

    long : length t.by_tx.items ≡ length k.txs + 1
    long = h.long ∙ length-append k.txs (x ∷ [])

    shorter : length t.by_tx.items - 1 ≡ length k.txs
    shorter = omega (arith, long)

    partly : (o : Outpoint) → (noted : Bool) × (kept_at t.spenders.lists o ≡ spenders_in k.txs o ++ cond noted (number ∷ []) [])
    partly o = (
      is_spent_by o x.inputs,
      h.spenders o ∙ spenders_last o k.txs x ∙ ap (λ (n : ℕ). spenders_in k.txs o ++ cond (is_spent_by o x.inputs) (n ∷ []) []) (sym is_last),
    )

    spent : (c : Bool) (list : List ℕ) → cond c list (list ++ cond c (length k.txs ∷ []) []) ≡ list
    spent true list = refl
    spent false list = append-nil list

    beyond : (xs : List (List ℕ)) (n : ℕ) → length xs ≤ n → get_or xs n [] ≡ []
    beyond [] n le = refl
    beyond (y ∷ ys) zero le = absurd (omega (arith, le))
    beyond (y ∷ ys) (suc n) le = beyond ys n (omega (arith, le))

    at : (n : ℕ) → get_or (take (length t.by_tx.items - 1) t.by_tx.items) n [] ≡ carriers_in k.rows n
    at n = by (eqb (length k.txs) n) refl
      where
        cut : length (take (length t.by_tx.items - 1) t.by_tx.items) ≡ length k.txs
        cut = length-take-le (length t.by_tx.items - 1) t.by_tx.items (omega (arith, long)) ∙ shorter

        by : (c : Bool) → eqb (length k.txs) n ≡ c → get_or (take (length t.by_tx.items - 1) t.by_tx.items) n [] ≡ carriers_in k.rows n
        by true e =
            let same : length k.txs ≡ n = eqb-true (length k.txs) n e in
            beyond (take (length t.by_tx.items - 1) t.by_tx.items) n (omega (arith, cut, same)) ∙ sym none ∙ ap (carriers_in k.rows) same
        by false e = within (eqb-false (length k.txs) n e)
          where
            above : length k.txs ≤ n → (length k.txs ≡ n → ⊥) → length t.by_tx.items ≤ n
            above ge other = elim (cases_lt (length k.txs) n) [ inl less ↦ omega (arith, long, less) | inr le ↦ absurd (other (omega (arith, ge, le))) ]

            within : (length k.txs ≡ n → ⊥) → get_or (take (length t.by_tx.items - 1) t.by_tx.items) n [] ≡ carriers_in k.rows n
            within other =
                elim (cases_lt n (length k.txs)) [
                  | inl less ↦ get_or-take (length t.by_tx.items - 1) t.by_tx.items n [] (omega (arith, shorter, less)) ∙ h.lists n
                  | inr ge ↦ beyond (take (length t.by_tx.items - 1) t.by_tx.items) n (omega (arith, cut, ge))
                      ∙ sym (beyond t.by_tx.items n (above ge other)) ∙ h.lists n
                ]
