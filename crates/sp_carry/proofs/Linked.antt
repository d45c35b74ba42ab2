-- One more carrier leaves carriers and transactions linked, and can be taken back.
use Rattle.std.proofs.Common.{◌≡◌, ◌≢◌, ℕ, suc, Bool, true, false, cond, eqb, ◌||◌, ◌+◌, ◌<◌, ◌≤◌, List, [], ◌∷◌, ◌++◌, length, map, Option, Some, None, refl, sym, ap, ◌∙◌, arith, length-append, subst, inl, inr}
use Rattle.std.specs.Prelude.{All}
use Rattle.std.specs.List.{list_any}
use Rattle.std.proofs.lemmas.Bool.{cases_lt, eq-eqb, ne_eqb, eqb-false, false≢true, or_parts}
use Rattle.std.proofs.lemmas.List.{map-append}
use Rattle.std.proofs.lemmas.List.Elements.{All-push, All-weaker}
use Rattle.sp_dag.specs.Numbered.{Numbered}
use Rattle.sp_tx.specs.Parts.{Transaction}
use Rattle.sp_tx.specs.Spending.{id_of}
use Rattle.sp_model.specs.Graph.{AreDistinct, has}
use Rattle.sp_carry.specs.declared.carrier.Carrier.{Carrier}
use Rattle.sp_carry.specs.declared.table.Table.{Table}
use Rattle.sp_carry.specs.Carried.{Carried, carried_by, carriers_from, carriers_in, ledger_of, next_carrier, number_of, tx_at, with_carrier, with_carriers, with_row, with_tx, AreLinked}
use Rattle.sp_carry.specs.Ledger.{is_sound}
use Rattle.sp_carry.specs.Payment.{payment_of}
use Rattle.sp_carry.specs.Growth.{HasRoom}
use Rattle.sp_carry.specs.Kept.{carried_of, IsKept, Keeps}
use Rattle.sp_carry.proofs.Keeping.{carriers_last, none_found}
use Rattle.sp_carry.proofs.Finding.{number_within}

-- no carrier has a number beyond all transactions
pub none_yet_from : (first tx : ℕ) (rows : List Carrier) → All (λ (r : Carrier). r.tx < tx) rows → carriers_from first tx rows ≡ []
none_yet_from first tx [] all = refl
none_yet_from first tx (r ∷ rs) all =
    ap (λ (c : Bool). cond c (first ∷ carriers_from (suc first) tx rs) (carriers_from (suc first) tx rs))
    (ne_eqb r.tx tx (λ e. let lt : r.tx < tx = all 0 r (omega arith) in omega (arith, lt, e)))
    ∙ none_yet_from (suc first) tx rs (λ k d lt. all (suc k) d (omega (arith, lt)))

pub none_yet : (k : Carried) → AreLinked k → carriers_in k.rows (length k.txs) ≡ []
none_yet k linked = none_yet_from 0 (length k.txs) k.rows linked.txs

distinct_push : (ids : List ℕ) (id : ℕ) → AreDistinct ids → list_any (eqb id) ids ≡ false → AreDistinct (ids ++ id ∷ [])
distinct_push [] id h fresh = (refl, tt)
distinct_push (x ∷ xs) id h fresh =
    let parts : (eqb id x ≡ false) × (list_any (eqb id) xs ≡ false) = or_parts (eqb id x) (list_any (eqb id) xs) fresh in
    (has_push xs (eqb id x) h.0 parts.0, distinct_push xs id h.1 parts.1)
  where
    flip : (a b : ℕ) → eqb a b ≡ false → eqb b a ≡ false
    flip a b e = ne_eqb b a (λ s. false≢true (sym e ∙ eq-eqb a b (sym s)))

    has_push : (ys : List ℕ) (c : Bool) → has ys x ≡ false → c ≡ false → has (ys ++ id ∷ []) x ≡ false
    has_push [] c h e = ap (λ (b : Bool). b || false) (eqb_false)
      where
        eqb_false : eqb id x ≡ false
        eqb_false = (or_parts (eqb id x) (list_any (eqb id) xs) fresh).0
    has_push (y ∷ ys) c h e =
        let parts : (eqb y x ≡ false) × (has ys x ≡ false) = or_parts (eqb y x) (has ys x) h in
        ap (λ (b : Bool). b || has (ys ++ id ∷ []) x) parts.0 ∙ has_push ys c parts.1 e

not_nil : {X : Type 0} (xs : List X) (x : X) → xs ++ x ∷ [] ≢ []
not_nil xs x e = (let long : length (xs ++ x ∷ []) ≡ 0 = ap length e in omega (arith, long, length-append xs (x ∷ [])))

left_nil : {X : Type 0} (xs ys : List X) → xs ++ ys ≡ [] → xs ≡ []
left_nil [] ys e = refl
left_nil (x ∷ xs) ys e = absurd (let long : length (x ∷ (xs ++ ys)) ≡ 0 = ap length e in omega (arith, long))

pub linked_row : (k : Carried) (r : Carrier) → AreLinked k → r.tx < length k.txs → AreLinked (with_row k r)
linked_row k r linked lt =
    record {
      ids = linked.ids;
      txs = All-push (λ (q : Carrier). q.tx < length k.txs) k.rows r linked.txs lt;
      used = λ tx within e. linked.used tx within (left_nil (carriers_in k.rows tx) _ (sym (carriers_last tx k.rows r) ∙ e));
    }

-- a new transaction with its first carrier
pub linked_new : (k : Carried) (t : Transaction) (r : Carrier) → AreLinked k → number_of k (id_of t) ≡ None → r.tx ≡ length k.txs
    → AreLinked (with_row (with_tx k t) r)
linked_new k t r linked fresh last =
    record {
      ids = subst AreDistinct (sym (map-append id_of k.txs (t ∷ []))) (distinct_push (map id_of k.txs) (id_of t) linked.ids (none_found (map id_of k.txs) (id_of t) fresh));
      txs = All-push (λ (q : Carrier). q.tx < length (k.txs ++ t ∷ [])) k.rows r
          (All-weaker (λ (q : Carrier). q.tx < length k.txs) (λ (q : Carrier). q.tx < length (k.txs ++ t ∷ [])) (λ q lt. omega (arith, lt, length-append k.txs (t ∷ []))) k.rows linked.txs)
          (omega (arith, last, length-append k.txs (t ∷ [])));
      used = λ tx within e. at tx (eqb r.tx tx) refl within (sym (carriers_last tx k.rows r) ∙ e);
    }
  where
    at : (tx : ℕ) (c : Bool) → eqb r.tx tx ≡ c → tx < length (k.txs ++ t ∷ []) → carriers_in k.rows tx ++ cond c (length k.rows ∷ []) [] ≡ [] → ⊥
    at tx true e within none = not_nil (carriers_in k.rows tx) (length k.rows) none
    at tx false e within none =
        linked.used tx (let other : r.tx ≡ tx → ⊥ = eqb-false r.tx tx e in less tx within other) (left_nil (carriers_in k.rows tx) [] none)
      where
        less : (n : ℕ) → n < length (k.txs ++ t ∷ []) → (r.tx ≡ n → ⊥) → n < length k.txs
        less n within other = elim (cases_lt n (length k.txs)) [ inl lt ↦ lt | inr ge ↦ absurd (other (omega (arith, last, ge, within, length-append k.txs (t ∷ [])))) ]

pub linked_more : (table : Numbered) (k : Carried) (t : Transaction) → AreLinked k → AreLinked (with_carrier table k t)
linked_more table k t linked = at (number_of k (id_of t)) refl
  where
    at : (o : Option ℕ) → number_of k (id_of t) ≡ o → AreLinked (carried_by table k t o)
    at None e = linked_new k t (next_carrier table k (length k.txs) t) linked e refl
    at (Some n) e = linked_row k (next_carrier table k n (tx_at k n)) linked (number_within k (id_of t) n e)

-- how many there are
pub counts_more : (table : Numbered) (k : Carried) (t : Transaction)
    → (length (with_carrier table k t).rows ≡ length k.rows + 1) × (length (with_carrier table k t).txs ≤ length k.txs + 1) × ((with_carrier table k t).blocks ≡ k.blocks)
counts_more table k t = at (number_of k (id_of t))
  where
    at : (o : Option ℕ) → (length (carried_by table k t o).rows ≡ length k.rows + 1) × (length (carried_by table k t o).txs ≤ length k.txs + 1) × ((carried_by table k t o).blocks ≡ k.blocks)
    at None = (length-append k.rows _, omega (arith, length-append k.txs (t ∷ [])), refl)
    at (Some n) = (length-append k.rows _, omega arith, refl)

-- the blocks of the carriers
pub blocks_more : (table : Numbered) (k : Carried) (t : Transaction) (n : ℕ) → All (λ (r : Carrier). r.block < n) k.rows → k.blocks < n
    → All (λ (r : Carrier). r.block < n) (with_carrier table k t).rows
blocks_more table k t n all next = at (number_of k (id_of t))
  where
    at : (o : Option ℕ) → All (λ (r : Carrier). r.block < n) (carried_by table k t o).rows
    at None = All-push (λ (r : Carrier). r.block < n) k.rows (next_carrier table k (length k.txs) t) all next
    at (Some m) = All-push (λ (r : Carrier). r.block < n) k.rows (next_carrier table k m (tx_at k m)) all next

pub room_more : (table : Numbered) (k : Carried) (t : Transaction) (more : ℕ) → HasRoom table (suc more) k → HasRoom table more (with_carrier table k t)
room_more table k t more room =
    let counts = counts_more table k t in
    record {
      linked = linked_more table k t room.linked;
      rows = blocks_more table k t (length table.parents) room.rows room.next;
      next = subst (λ (n : ℕ). n < length table.parents) (sym counts.2) room.next;
      few = omega (arith, counts.0, counts.1, room.few);
      room = omega (arith, counts.0, room.room);
    }

-- ---- what is there is what the table keeps

pub kept_is : (t : Table) (k : Carried) → Keeps t k → carried_of t ≡ k
kept_is t k h =
    ap (λ (n : ℕ). record { blocks = n; txs = t.txs.items; rows = t.rows.items }) h.blocks
    ∙ ap (λ (ts : List Transaction). record { blocks = k.blocks; txs = ts; rows = t.rows.items }) h.txs
    ∙ ap (λ (rs : List Carrier). record { blocks = k.blocks; txs = k.txs; rows = rs }) h.rows

pub is_kept : (t : Table) (k : Carried) → Keeps t k → IsKept t
is_kept t k h = subst (Keeps t) (sym (kept_is t k h)) h

-- ---- carriers in turn

pub carriers_push : (table : Numbered) (k : Carried) (ts : List Transaction) (t : Transaction)
    → with_carriers table k (ts ++ t ∷ []) ≡ with_carrier table (with_carriers table k ts) t
carriers_push table k [] t = refl
carriers_push table k (x ∷ xs) t = carriers_push table (with_carrier table k x) xs t

pub room_all : (table : Numbered) (k : Carried) (ts : List Transaction) (more : ℕ) → HasRoom table (length ts + more) k → HasRoom table more (with_carriers table k ts)
room_all table k [] more room = subst (λ (n : ℕ). HasRoom table n k) (let e : 0 + more ≡ more = omega arith in e) room
room_all table k (t ∷ ts) more room =
    room_all table (with_carrier table k t) ts more
    (room_more table k t (length ts + more) (subst (λ (n : ℕ). HasRoom table n k) (let e : length (t ∷ ts) + more ≡ suc (length ts + more) = omega arith in e) room))

-- where there is a carrier there is a transaction
pub some_tx : (k : Carried) → AreLinked k → 0 < length k.rows → 0 < length k.txs
some_tx k linked some = at k.rows some linked.txs
  where
    at : (rows : List Carrier) → 0 < length rows → All (λ (r : Carrier). r.tx < length k.txs) rows → 0 < length k.txs
    at [] some all = absurd (omega (arith, some))
    at (r ∷ rs) some all = (let lt : r.tx < length k.txs = all 0 r (omega arith) in omega (arith, lt))

-- a carrier of a transaction that has a number
pub carried_known : (table : Numbered) (k : Carried) (t : Transaction) (tx : ℕ) (sound : Bool) → number_of k (id_of t) ≡ Some tx
    → sound ≡ is_sound (ledger_of table k) k.blocks (payment_of (tx_at k tx))
    → with_row k (record { block = k.blocks; tx = tx; sound = sound }) ≡ with_carrier table k t
carried_known table k t tx sound found is =
    ap (λ (s : Bool). with_row k (record { block = k.blocks; tx = tx; sound = s })) is ∙ sym (ap (carried_by table k t) found)
