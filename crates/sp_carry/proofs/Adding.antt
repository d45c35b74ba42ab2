-- The carriers of a block, one after another.
use Rattle.std.proofs.Common.{◌≡◌, ℕ, ◌+◌, ◌<◌, ◌≤◌, List, [], ◌∷◌, ◌++◌, length, map, take, get_or, Result, Ok, Err, sym, ap, ◌∙◌, arith, subst}
use Rattle.std.specs.Prelude.{OnErr}
use Rattle.std.proofs.lemmas.List.{map_push, take_more, length-take-le}
use Rattle.sp_dag.specs.Numbered.{Numbered}
use Rattle.sp_tx.specs.Parts.{Transaction}
use Rattle.sp_tx.specs.Spending.{id_of}
use Rattle.sp_carry.specs.declared.table.Table.{Table}
use Rattle.sp_carry.specs.Carried.{Carried, with_carrier, with_carriers}
use Rattle.sp_carry.specs.Growth.{HasRoom}
use Rattle.sp_carry.specs.Kept.{carried_of, Keeps}
use Rattle.sp_carry.proofs.Linked.{carriers_push, kept_is, room_all}

pub always_err : {T E A : Type 0} (r : Result T E) → A → OnErr r A
always_err (Ok x) a = tt
always_err (Err e) a = a

pub room_less : (table : Numbered) (m n : ℕ) (k : Carried) → m ≤ n → HasRoom table n k → HasRoom table m k
room_less table m n k le room =
    record { linked = room.linked; rows = room.rows; next = room.next; few = room.few; room = omega (arith, le, room.room) }

-- there is room for the next one
pub room_at : (table : Numbered) (k : Carried) (txs : List Transaction) (i : ℕ) (t : Table) → HasRoom table (length txs) k → i < length txs
    → Keeps t (with_carriers table k (take i txs)) → HasRoom table 1 (carried_of t)
room_at table k txs i t room lt kept =
    let long : length (take i txs) ≡ i = length-take-le i txs (omega (arith, lt)) in
    subst (HasRoom table 1) (sym (kept_is t (with_carriers table k (take i txs)) kept))
    (room_all table k (take i txs) 1 (room_less table (length (take i txs) + 1) (length txs) k (omega (arith, long, lt)) room))

-- the next one is there
pub carried_more : (table : Numbered) (k : Carried) (txs : List Transaction) (i : ℕ) (tx : Transaction) (old new : Table) → i < length txs → tx ≡ get_or txs i tx
    → Keeps old (with_carriers table k (take i txs)) → Keeps new (with_carrier table (carried_of old) tx)
    → Keeps new (with_carriers table k (take (i + 1) txs))
carried_more table k txs i tx old new lt is kept now =
    subst (Keeps new)
    (ap (λ (c : Carried). with_carrier table c tx) (kept_is old (with_carriers table k (take i txs)) kept)
    ∙ sym (carriers_push table k (take i txs) tx)
    ∙ ap (with_carriers table k) (sym (take_more txs i tx lt ∙ ap (λ (x : Transaction). take i txs ++ x ∷ []) (sym is))))
    now

-- the last one isn't
pub partly_there : (table : Numbered) (k : Carried) (txs : List Transaction) (i : ℕ) (old new : Table) → Keeps old (with_carriers table k (take i txs))
    → Keeps new (carried_of old) → (count : ℕ) × Keeps new (with_carriers table k (take count txs))
partly_there table k txs i old new kept now = (i, subst (Keeps new) (kept_is old (with_carriers table k (take i txs)) kept) now)

-- the next one's id is there
pub ids_more : (txs : List Transaction) (i : ℕ) (tx : Transaction) (id : ℕ) (ids new : List ℕ) → i < length txs → tx ≡ get_or txs i tx → id ≡ id_of tx
    → ids ≡ map id_of (take i txs) → new ≡ ids ++ id ∷ [] → new ≡ map id_of (take (i + 1) txs)
ids_more txs i tx id ids new lt is is_id were now =
    now ∙ ap (λ (l : List ℕ). l ++ id ∷ []) were ∙ ap (λ (n : ℕ). map id_of (take i txs) ++ n ∷ []) is_id ∙ sym (map_push id_of (take i txs) tx)
    ∙ ap (map id_of) (sym (take_more txs i tx lt ∙ ap (λ (x : Transaction). take i txs ++ x ∷ []) (sym is)))
