-- What the blocks of a set carry under an id, found by the tables of numbers.
use Rattle.std.proofs.Common.{◌≡◌, ℕ, zero, suc, Bool, true, false, cond, eqb, ◌+◌, ◌<◌, ◌≤◌, ◌&&◌, ◌||◌, List, [], ◌∷◌, length, map, get_or, Option, Some, None, refl, sym, ap, ◌∙◌, arith, inl, inr}
use Rattle.std.specs.Prelude.{All, slice_get, filter, flat_map, unwrap_or}
use Rattle.std.specs.List.{list_any, find, position_or_len}
use Rattle.std.proofs.lemmas.Bool.{false_from_ne_true, and_parts, and_from, or_left, or_right, eqb-true, eq-eqb, lt-ltb}
use Rattle.std.proofs.lemmas.List.Quantifiers.{position-Some}
use Rattle.std.proofs.Math.ListN.{length-map}
use Rattle.sp_model.specs.Graph.{AreDistinct, has}
use Rattle.sp_dag.proofs.Ids.{number_of_id}
use Rattle.sp_tx.specs.Parts.{Transaction, of_parts}
use Rattle.sp_tx.specs.Spending.{id_of}
use Rattle.sp_carry.specs.declared.carrier.Carrier.{Carrier}
use Rattle.sp_carry.specs.Payment.{Payment, payment_of}
use Rattle.sp_carry.specs.Carried.{Carried, carriers_from, carriers_in, number_of, payments_in, tx_at, AreLinked}
use Rattle.sp_carry.specs.Worth.{block_at}
use Rattle.sp_carry.proofs.Keeping.{all_cons, any_within}
use Rattle.sp_carry.proofs.Members.{IsIn, any_of_member, member_of_any, in_flat_map, in_flat_map_from, in_filter, in_filter_from, in_map, in_map_from, member_meets, bool_same}
use Rattle.sp_carry.proofs.Conflicts.{in_from_has}

-- where all that pass are one, that is what is found
pub find_one : {A : Type 0} (p : A → Bool) (xs : List A) (one : A) → ((x : A) → IsIn xs x → p x ≡ true → x ≡ one) → find p xs ≡ cond (list_any p xs) (Some one) None
find_one p [] one h = refl
find_one {A} p (x ∷ xs) one h = at (p x) refl (find_one p xs one (λ y there passes. h y (inr there) passes))
  where
    at : (c : Bool) → p x ≡ c → find p xs ≡ cond (list_any p xs) (Some one) None → cond c (Some x) (find p xs) ≡ cond (c || list_any p xs) (Some one) None
    at true e rest = ap (λ (y : A). Some y) (h x (inl refl) e)
    at false e rest = rest

-- whether a carrier of the transaction stands in a block that passes
abbrev pub is_below : (ℕ → Bool) → List Carrier → ℕ → Bool
is_below past rows tx = list_any (λ (r : Carrier). (eqb r.tx tx) && past r.block) rows

any_from : (past q : ℕ → Bool) (first tx : ℕ) (rows : List Carrier) → ((i : ℕ) → i < length rows → q (first + i) ≡ past (block_at rows i))
    → list_any q (carriers_from first tx rows) ≡ is_below past rows tx
any_from past q first tx [] h = refl
any_from past q first tx (x ∷ xs) h =
    at (eqb x.tx tx) (any_from past q (suc first) tx xs (λ i lt. (let e : suc first + i ≡ first + suc i = omega arith in ap q e) ∙ h (suc i) (omega (arith, lt))))
  where
    here : q first ≡ past x.block
    here = (let e : first ≡ first + 0 = omega arith in ap q e) ∙ h 0 (omega arith)

    at : (c : Bool) → list_any q (carriers_from (suc first) tx xs) ≡ is_below past xs tx
        → list_any q (cond c (first ∷ carriers_from (suc first) tx xs) (carriers_from (suc first) tx xs)) ≡ ((c && past x.block) || is_below past xs tx)
    at true rest = rw (here, rest) refl
    at false rest = rest

-- a look-up over the list of a transaction's carriers is one over all carriers
pub any_carriers : (past : ℕ → Bool) (tx : ℕ) (rows : List Carrier) → list_any (λ c. past (block_at rows c)) (carriers_in rows tx) ≡ is_below past rows tx
any_carriers past tx rows =
    any_from past (λ c. past (block_at rows c)) 0 tx rows (λ i lt. (let e : 0 + i ≡ i = omega arith in ap (λ (n : ℕ). past (block_at rows n)) e))

carriers_below_from : (first n tx : ℕ) (rows : List Carrier) → first + length rows ≤ n → All (λ m. m < n) (carriers_from first tx rows)
carriers_below_from first n tx [] le = λ k d within. absurd (omega (arith, within))
carriers_below_from first n tx (x ∷ xs) le = at (eqb x.tx tx) (carriers_below_from (suc first) n tx xs (omega (arith, le)))
  where
    at : (c : Bool) → All (λ m. m < n) (carriers_from (suc first) tx xs)
        → All (λ m. m < n) (cond c (first ∷ carriers_from (suc first) tx xs) (carriers_from (suc first) tx xs))
    at true rest = all_cons n first (carriers_from (suc first) tx xs) (omega (arith, le)) rest
    at false rest = rest

pub carriers_below : (rows : List Carrier) (tx : ℕ) → All (λ m. m < length rows) (carriers_in rows tx)
carriers_below rows tx = carriers_below_from 0 (length rows) tx rows (omega arith)

-- the number of an id is that of a transaction
pub number_within : (k : Carried) (id n : ℕ) → number_of k id ≡ Some n → n < length k.txs
number_within k id n found =
    let p = position-Some (eqb id) (map id_of k.txs) n 0 found in
    let long : length (map id_of k.txs) ≡ length k.txs = length-map k.txs id_of in omega (arith, p.0, long)

-- the id of a transaction by its number
pub id_at : (txs : List Transaction) (n : ℕ) → n < length txs → slice_get (map id_of txs) n ≡ Some (id_of (get_or txs n (of_parts [] [])))
id_at [] n lt = absurd (omega (arith, lt))
id_at (t ∷ ts) zero lt = refl
id_at (t ∷ ts) (suc n) lt = id_at ts n (omega (arith, lt))

any_at : (ids : List ℕ) (id n : ℕ) → slice_get ids n ≡ Some id → list_any (eqb id) ids ≡ true
any_at [] id n there = cc
any_at (x ∷ xs) id zero there =
    (let same : x ≡ id = ap (λ (o : Option ℕ). unwrap_or o 0) there in or_left (eqb id x) (list_any (eqb id) xs) (eq-eqb id x (sym same)))
any_at (x ∷ xs) id (suc n) there = or_right (eqb id x) (list_any (eqb id) xs) (any_at xs id n there)

-- the number of a transaction's id is its own
pub number_is : (k : Carried) (n id : ℕ) → AreDistinct (map id_of k.txs) → n < length k.txs → id_of (tx_at k n) ≡ id → number_of k id ≡ Some n
number_is k n id apart lt same = at (number_of k id) refl
  where
    there : slice_get (map id_of k.txs) n ≡ Some id
    there = id_at k.txs n lt ∙ ap (λ (i : ℕ). Some i) same

    at : (o : Option ℕ) → number_of k id ≡ o → o ≡ Some n
    at None e =
        absurd (none_some (sym e ∙ ap (λ (c : Bool). cond c (Some (position_or_len (eqb id) (map id_of k.txs))) None)
        (lt-ltb (position_or_len (eqb id) (map id_of k.txs)) (length (map id_of k.txs)) (any_within (eqb id) (map id_of k.txs) (any_at (map id_of k.txs) id n there)))))
      where
        none_some : {m : ℕ} → None ≡ Some m → ⊥
        none_some e = cc
    at (Some m) e =
        ap (λ (i : ℕ). Some i) (sym (ap (λ (o : Option ℕ). unwrap_or o 0) e) ∙ number_of_id (map id_of k.txs) id n apart there)

-- the transaction of an id's number has the id
pub number_id : (k : Carried) (id n : ℕ) → number_of k id ≡ Some n → id_of (tx_at k n) ≡ id
number_id k id n found =
    let p = position-Some (eqb id) (map id_of k.txs) n 0 found in
    let within : n < length k.txs = number_within k id n found in
    let here : get_or (map id_of k.txs) n 0 ≡ id_of (tx_at k n) = get_map k.txs n within in
    sym here ∙ sym (eqb-true id (get_or (map id_of k.txs) n 0) p.1)
  where
    get_map : (ts : List Transaction) (i : ℕ) → i < length ts → get_or (map id_of ts) i 0 ≡ id_of (get_or ts i (of_parts [] []))
    get_map [] i lt = absurd (omega (arith, lt))
    get_map (t ∷ ts) zero lt = refl
    get_map (t ∷ ts) (suc i) lt = get_map ts i (omega (arith, lt))

-- what a block of the set carries is the transaction of one of the carriers
carrier_of : (k : Carried) (set : List ℕ) (x : Payment) → IsIn (flat_map (payments_in k) set) x
    → (r : Carrier) × IsIn k.rows r × (has set r.block ≡ true) × (payment_of (tx_at k r.tx) ≡ x)
carrier_of k set x h =
    let block : (z : ℕ) × IsIn set z × IsIn (payments_in k z) x = in_flat_map (payments_in k) set x h in
    let row : (r : Carrier) × IsIn (filter (λ (r : Carrier). eqb r.block block.0) k.rows) r × (payment_of (tx_at k r.tx) ≡ x) =
    in_map (λ (r : Carrier). payment_of (tx_at k r.tx)) (filter (λ (r : Carrier). eqb r.block block.0) k.rows) x block.2 in
    let both : IsIn k.rows row.0 × (eqb row.0.block block.0 ≡ true) = in_filter (λ (r : Carrier). eqb r.block block.0) k.rows row.0 row.1 in
    (row.0, both.0, any_of_member (λ z. eqb z row.0.block) set block.0 block.1 (eq-eqb block.0 row.0.block (sym (eqb-true row.0.block block.0 both.1))), row.2)

of_carrier : (k : Carried) (set : List ℕ) (r : Carrier) → IsIn k.rows r → has set r.block ≡ true → IsIn (flat_map (payments_in k) set) (payment_of (tx_at k r.tx))
of_carrier k set r h there =
    in_flat_map_from (payments_in k) set r.block (payment_of (tx_at k r.tx)) (in_from_has set r.block there)
    (in_map_from (λ (r : Carrier). payment_of (tx_at k r.tx)) (filter (λ (q : Carrier). eqb q.block r.block) k.rows) r
    (in_filter_from (λ (q : Carrier). eqb q.block r.block) k.rows r h (eq-eqb r.block r.block refl)))

-- an id that has no number is found nowhere
pub found_none : (k : Carried) (set : List ℕ) (id : ℕ) → AreLinked k → number_of k id ≡ None → find (λ (t : Payment). eqb t.id id) (flat_map (payments_in k) set) ≡ None
found_none k set id linked none =
    find_one (λ (t : Payment). eqb t.id id) (flat_map (payments_in k) set) (payment_of (tx_at k 0)) (λ x there passes. absurd (nowhere x there passes))
    ∙ ap (λ (c : Bool). cond c (Some (payment_of (tx_at k 0))) None)
    (false_from_ne_true (list_any (λ (t : Payment). eqb t.id id) (flat_map (payments_in k) set))
    (λ h. let m : (x : Payment) × IsIn (flat_map (payments_in k) set) x × (eqb x.id id ≡ true) = member_of_any (λ (t : Payment). eqb t.id id) (flat_map (payments_in k) set) h in
    nowhere m.0 m.1 m.2))
  where
    some_none : {n : ℕ} → Some n ≡ None → ⊥
    some_none e = cc

    nowhere : (x : Payment) → IsIn (flat_map (payments_in k) set) x → eqb x.id id ≡ true → ⊥
    nowhere x there passes =
        let c : (r : Carrier) × IsIn k.rows r × (has set r.block ≡ true) × (payment_of (tx_at k r.tx) ≡ x) = carrier_of k set x there in
        some_none (sym (number_is k c.0.tx id linked.ids (member_meets (λ (r : Carrier). r.tx < length k.txs) k.rows c.0 linked.txs c.1)
        (ap (λ (t : Payment). t.id) c.3 ∙ eqb-true x.id id passes)) ∙ none)

-- one that has a number is found where a block of the set carries its transaction
pub found_some : (k : Carried) (set : List ℕ) (id n : ℕ) → AreLinked k → number_of k id ≡ Some n
    → find (λ (t : Payment). eqb t.id id) (flat_map (payments_in k) set) ≡ cond (is_below (has set) k.rows n) (Some (payment_of (tx_at k n))) None
found_some k set id n linked found =
    find_one (λ (t : Payment). eqb t.id id) (flat_map (payments_in k) set) (payment_of (tx_at k n)) is_one
    ∙ ap (λ (c : Bool). cond c (Some (payment_of (tx_at k n))) None)
    (bool_same (list_any (λ (t : Payment). eqb t.id id) (flat_map (payments_in k) set)) (is_below (has set) k.rows n) into back)
  where
    some_same : {a b : ℕ} → Some a ≡ Some b → a ≡ b
    some_same {a} {b} e = ap (λ (o : Option ℕ). unwrap_or o a) e

    number_at : (x : Payment) (r : Carrier) → IsIn k.rows r → payment_of (tx_at k r.tx) ≡ x → eqb x.id id ≡ true → r.tx ≡ n
    number_at x r there is passes =
        some_same (sym (number_is k r.tx id linked.ids (member_meets (λ (r : Carrier). r.tx < length k.txs) k.rows r linked.txs there)
        (ap (λ (t : Payment). t.id) is ∙ eqb-true x.id id passes)) ∙ found)

    is_one : (x : Payment) → IsIn (flat_map (payments_in k) set) x → eqb x.id id ≡ true → x ≡ payment_of (tx_at k n)
    is_one x there passes =
        let c : (r : Carrier) × IsIn k.rows r × (has set r.block ≡ true) × (payment_of (tx_at k r.tx) ≡ x) = carrier_of k set x there in
        sym c.3 ∙ ap (λ (m : ℕ). payment_of (tx_at k m)) (number_at x c.0 c.1 c.3 passes)

    into : list_any (λ (t : Payment). eqb t.id id) (flat_map (payments_in k) set) ≡ true → is_below (has set) k.rows n ≡ true
    into h =
        let m : (x : Payment) × IsIn (flat_map (payments_in k) set) x × (eqb x.id id ≡ true) = member_of_any (λ (t : Payment). eqb t.id id) (flat_map (payments_in k) set) h in
        let c : (r : Carrier) × IsIn k.rows r × (has set r.block ≡ true) × (payment_of (tx_at k r.tx) ≡ m.0) = carrier_of k set m.0 m.1 in
        any_of_member (λ (r : Carrier). eqb r.tx n && has set r.block) k.rows c.0 c.1
        (and_from (eqb c.0.tx n) (has set c.0.block) (eq-eqb c.0.tx n (number_at m.0 c.0 c.1 c.3 m.2)) c.2)

    back : is_below (has set) k.rows n ≡ true → list_any (λ (t : Payment). eqb t.id id) (flat_map (payments_in k) set) ≡ true
    back h =
        let m : (r : Carrier) × IsIn k.rows r × ((eqb r.tx n && has set r.block) ≡ true) = member_of_any (λ (r : Carrier). eqb r.tx n && has set r.block) k.rows h in
        let both : (eqb m.0.tx n ≡ true) × (has set m.0.block ≡ true) = and_parts (eqb m.0.tx n) (has set m.0.block) m.2 in
        any_of_member (λ (t : Payment). eqb t.id id) (flat_map (payments_in k) set) (payment_of (tx_at k m.0.tx)) (of_carrier k set m.0 m.1 both.1)
        (eq-eqb (id_of (tx_at k m.0.tx)) id (ap (λ (j : ℕ). id_of (tx_at k j)) (eqb-true m.0.tx n both.0) ∙ number_id k id n found))
