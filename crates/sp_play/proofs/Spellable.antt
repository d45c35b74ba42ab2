-- The genesis block of the grants so far is a block.
use Rattle.std.proofs.Common.{◌≡◌, ◌≤◌, ◌<◌, ℕ, true, false, suc, List, [], ◌∷◌, ◌++◌, length, refl, sym, ap, subst, ◌∙◌, append_assoc, eqb, inl, inr, arith}
use Rattle.std.specs.Prelude.{IfSome, None, Option, Some, if◌then◌else◌}
use Rattle.std.specs.BTreeSet.{BTreeSet, Updates}
use Rattle.std.specs.List.{list_any}
use Rattle.std.specs.Ordering.{nat_cmp}
use Rattle.sp_play.proofs.Twins.{ids_back, ids_block, ids_tx}
use Rattle.std.proofs.lemmas.Bool.{cases_Bool, eq-eqb, eqb-true}
use Rattle.std.proofs.lemmas.List.{append-nil, length-append}
use Rattle.sp_form.specs.Turns.{InTurn}
use Rattle.sp_tx.specs.declared.parts.Input.{Input}
use Rattle.std.specs.Ordering.{is_lt}
use Rattle.sp_ids.specs.Digest.{sha256_number}
use Rattle.sp_ids.specs.Outpoints.{outpoint_cmp}
use Rattle.sp_tx.specs.Parts.{Transaction}
use Rattle.sp_tx.specs.Spelling.{IsTx}
use Rattle.sp_tx.specs.Spending.{id_of}
use Rattle.sp_block.specs.Format.{has_known_id, of_parts, shares_outpoint, with_tx}
use Rattle.sp_block.specs.Spelling.{IsCarried, IsSpellable}
use Rattle.sp_play.specs.Judging.{by_outpoint, put_input}
use Rattle.sp_play.specs.Kept.{AreKept, AreShort, genesis_parts, IsKept, IsShort}
use Rattle.sp_play.specs.Room.{HasRoom}
use Rattle.sp_play.specs.Known.{at_start, Entry, genesis_text, grant_in, grants_of, is_of_id}
use Rattle.sp_play.specs.Things.{LockedTx}
use Rattle.sp_play.specs.declared.thing.Thing.{Thing}
use Rattle.sp_play.specs.declared.thing.Thing.TheVariants as kinds
use Rattle.sp_play.proofs.Apart.{neither, same_eqb}

pub grants_push : (entries : List Entry) (entry : Entry) → grants_of (entries ++ entry ∷ []) ≡ grants_of entries ++ grant_in entry.1
unfolding grants_of
grants_push [] entry = append-nil (grant_in entry.1)
grants_push (first ∷ entries) entry = ap (λ (ts : List Transaction). grant_in first.1 ++ ts) (grants_push entries entry) ∙ sym (append_assoc (grant_in first.1) (grants_of entries) (grant_in entry.1))

-- before the first grant
pub spellable_start : IsSpellable true (genesis_parts at_start.entries)
unfolding grants_of
spellable_start = record {
  rules = record { salt = omega arith; nonce = omega arith; parent_count = refl; parents = tt; few_txs = omega arith; txs = tt };
  short = omega arith;
}

-- a name that is no grant changes nothing
pub spellable_other : (entries : List Entry) (word : List ℕ) (thing : Thing) → grant_in thing ≡ [] → IsSpellable true (genesis_parts entries) → IsSpellable true (genesis_parts (entries ++ (word, thing) ∷ []))
spellable_other entries word thing none h =
    let same : grants_of entries ≡ grants_of (entries ++ (word, thing) ∷ []) = sym (grants_push entries (word, thing) ∙ ap (λ (ts : List Transaction). grants_of entries ++ ts) none ∙ append-nil (grants_of entries)) in
    subst (λ (ts : List Transaction). IsSpellable true (of_parts 0 0 [] ts)) same h

-- one transaction more in turn
in_turn_push : (seen xs : List Transaction) (t : Transaction) → InTurn (IsCarried true) with_tx seen xs → IsCarried true (seen ++ xs) t → InTurn (IsCarried true) with_tx seen (xs ++ t ∷ [])
in_turn_push seen [] t h last = (subst (λ (ts : List Transaction). IsCarried true ts t) (append-nil seen) last, tt)
in_turn_push seen (x ∷ xs) t h last =
    (h.0, in_turn_push (with_tx seen x) xs t h.1 (subst (λ (ts : List Transaction). IsCarried true ts t) (sym (append_assoc seen (x ∷ []) xs)) last))

-- a transaction whose id no name has is none of the grants
pub no_twin : (entries : List Entry) (t : Transaction) → list_any (λ (entry : Entry). is_of_id (id_of t) entry.1) entries ≡ false → has_known_id (grants_of entries) t ≡ false
unfolding grants_of
no_twin [] t h = refl
no_twin ((name, kinds.Genesis) ∷ entries) t h = no_twin entries t h
no_twin ((name, kinds.Made bytes) ∷ entries) t h = no_twin entries t h
no_twin ((name, kinds.Tx named) ∷ entries) t h =
    let parts = neither (eqb (id_of named.tx) (id_of t)) (list_any (λ (entry : Entry). is_of_id (id_of t) entry.1) entries) h in
    let other : eqb (id_of t) (id_of named.tx) ≡ false = same_eqb (id_of named.tx) (id_of t) false parts.0 in
    let rest = no_twin entries t parts.1 in
    elim (cases_Bool (eqb (length named.tx.inputs) 0)) [
      | inl e ↦ rw e (rw other rest)
      | inr e ↦ rw e rest
    ]

no_outpoints : (earlier : List Transaction) (inputs : List Input) (t : Transaction) → t.inputs ≡ inputs → length inputs ≡ 0 → shares_outpoint earlier t ≡ false
no_outpoints earlier [] t e none = rw e refl
no_outpoints earlier (x ∷ xs) t e none = absurd (omega arith)

-- one grant more
pub spellable_grant : (entries : List Entry) (word : List ℕ) (named : LockedTx) → IsTx named.tx → length named.tx.inputs ≡ 0 → list_any (λ (entry : Entry). is_of_id (id_of named.tx) entry.1) entries ≡ false → length (grants_of entries) < 256
    → length (genesis_text (grants_of entries ++ named.tx ∷ [])) ≤ 65536 → IsSpellable true (genesis_parts entries) → IsSpellable true (genesis_parts (entries ++ (word, kinds.Tx named) ∷ []))
spellable_grant entries word named valid none new few short h =
    let t = named.tx in
    let is_grant : eqb (length t.inputs) 0 ≡ true = eq-eqb (length t.inputs) 0 none in
    let one : grant_in (kinds.Tx named) ≡ t ∷ [] = rw is_grant refl in
    let all : grants_of entries ++ t ∷ [] ≡ grants_of (entries ++ (word, kinds.Tx named) ∷ []) = sym (grants_push entries (word, kinds.Tx named) ∙ ap (λ (ts : List Transaction). grants_of entries ++ ts) one) in
    let carried : IsCarried true (grants_of entries) t = record { tx = valid; kind = is_grant; new_id = no_twin entries t new; new_outpoints = no_outpoints (grants_of entries) t.inputs t refl none } in
    let more : IsSpellable true (of_parts 0 0 [] (grants_of entries ++ t ∷ [])) = record {
      rules = record {
        salt = h.rules.salt;
        nonce = h.rules.nonce;
        parent_count = h.rules.parent_count;
        parents = h.rules.parents;
        few_txs = omega (arith, length-append (grants_of entries) (t ∷ []), few);
        txs = in_turn_push [] (grants_of entries) t h.rules.txs carried;
      };
      short = short;
    } in
    subst (λ (ts : List Transaction). IsSpellable true (of_parts 0 0 [] ts)) all more

put_long : (x : Input) (ys : List Input) → length (put_input x ys) ≡ suc (length ys)
put_long x [] = refl
put_long x (y ∷ ys) = elim (cases_Bool (is_lt (outpoint_cmp y.from x.from))) [
  | inl e ↦ rw e (ap suc (put_long x ys))
  | inr e ↦ rw e refl
]

pub sorted_long : (xs : List Input) → length (by_outpoint xs) ≡ length xs
unfolding by_outpoint
sorted_long [] = refl
sorted_long (x ∷ xs) = put_long x (by_outpoint xs) ∙ ap suc (sorted_long xs)

-- one name more
short_push : (entries : List Entry) (entry : Entry) → AreShort entries → IsShort entry.1 → AreShort (entries ++ entry ∷ [])
short_push [] entry h last = (last, tt)
short_push (first ∷ entries) entry h last = (h.0, short_push entries entry h.1 last)

-- what is kept of the first names, of a block more, and of a transaction more

pub kept_start : IsKept 0 at_start.entries
kept_start = record { work = omega arith; few = omega arith; genesis = spellable_start; short = (tt, tt) }

pub kept_block : (bits : ℕ) (entries : List Entry) (word bytes : List ℕ) → IsKept bits entries → length entries < 4096 → length bytes ≤ 65536 → IsKept bits (entries ++ (word, kinds.Made bytes) ∷ [])
kept_block bits entries word bytes h room fits = record {
  work = h.work;
  few = omega (arith, length-append {A = Entry} entries ((word, kinds.Made bytes) ∷ []));
  genesis = spellable_other entries word (kinds.Made bytes) refl h.genesis;
  short = short_push entries (word, kinds.Made bytes) h.short fits;
}

pub kept_tx : (bits : ℕ) (entries : List Entry) (word : List ℕ) (named : LockedTx) → IsKept bits entries → length entries < 4096 → IsTx named.tx → list_any (λ (entry : Entry). is_of_id (id_of named.tx) entry.1) entries ≡ false → (length named.tx.inputs ≡ 0 → HasRoom entries named.tx)
    → IsKept bits (entries ++ (word, kinds.Tx named) ∷ [])
kept_tx bits entries word named h room valid new fits =
    let few : length (entries ++ (word, kinds.Tx named) ∷ []) ≤ 4096 = omega (arith, length-append {A = Entry} entries ((word, kinds.Tx named) ∷ [])) in
    let short = short_push entries (word, kinds.Tx named) h.short tt in
    elim (cases_Bool (eqb (length named.tx.inputs) 0)) [
      | inl e ↦ (let none : length named.tx.inputs ≡ 0 = eqb-true (length named.tx.inputs) 0 e in
          let has = fits none in
          record { work = h.work; few = few; genesis = spellable_grant entries word named valid none new has.few has.short h.genesis; short = short })
      | inr e ↦ record { work = h.work; few = few; genesis = spellable_other entries word (kinds.Tx named) (rw e refl) h.genesis; short = short }
    ]

-- ---- the id of the genesis block beside them

other_grants : (entries : List Entry) (word : List ℕ) (thing : Thing) → grant_in thing ≡ [] → grants_of entries ≡ grants_of (entries ++ (word, thing) ∷ [])
other_grants entries word thing none = sym (grants_push entries (word, thing) ∙ ap (λ (ts : List Transaction). grants_of entries ++ ts) none ∙ append-nil (grants_of entries))

-- a name that is no grant leaves it
id_stays : (entries : List Entry) (word : List ℕ) (thing : Thing) (genesis : Option ℕ) → grant_in thing ≡ [] → IfSome genesis (λ id. id ≡ sha256_number (genesis_text (grants_of entries))) → IfSome genesis (λ id. id ≡ sha256_number (genesis_text (grants_of (entries ++ (word, thing) ∷ []))))
id_stays entries word thing None none h = tt
id_stays entries word thing (Some id) none h = h ∙ ap (λ (ts : List Transaction). sha256_number (genesis_text ts)) (other_grants entries word thing none)

pub are_kept_block : (bits : ℕ) (entries : List Entry) (genesis : Option ℕ) (ids : BTreeSet ℕ) (word bytes : List ℕ) → AreKept bits entries genesis ids → length entries < 4096 → length bytes ≤ 65536 → AreKept bits (entries ++ (word, kinds.Made bytes) ∷ []) genesis ids
are_kept_block bits entries genesis ids word bytes h room fits =
    record { all = kept_block bits entries word bytes h.all room fits; id = id_stays entries word (kinds.Made bytes) genesis refl h.id; ids = ids_block ids entries word bytes h.ids }

-- a grant leaves no id of the genesis block, and another transaction leaves it
pub are_kept_tx : (bits : ℕ) (entries : List Entry) (before after : Option ℕ) (old new : BTreeSet ℕ) (word : List ℕ) (named : LockedTx) (id : ℕ) → after ≡ (if eqb (length named.tx.inputs) 0 then None else before) → id ≡ id_of named.tx → Updates nat_cmp old new id true → AreKept bits entries before old → length entries < 4096 → IsTx named.tx
    → list_any (λ (entry : Entry). is_of_id (id_of named.tx) entry.1) entries ≡ false → (length named.tx.inputs ≡ 0 → HasRoom entries named.tx) → AreKept bits (entries ++ (word, kinds.Tx named) ∷ []) after new
are_kept_tx bits entries before after old new word named id is noted up h room valid fresh fits =
    let all = kept_tx bits entries word named h.all room valid fresh fits in
    let ids = ids_tx old new entries word named id noted h.ids up in
    elim (cases_Bool (eqb (length named.tx.inputs) 0)) [
      | inl e ↦ (let none : after ≡ None = is ∙ rw e refl in record { all = all; id = rw none tt; ids = ids })
      | inr e ↦ (let same : after ≡ before = is ∙ rw e refl in record { all = all; id = rw same (id_stays entries word (kinds.Tx named) before (rw e refl) h.id); ids = ids })
    ]

-- where the transaction wasn't added, its id is taken back
pub are_kept_back : (bits : ℕ) (entries : List Entry) (genesis : Option ℕ) (old mid new : BTreeSet ℕ) (t : Transaction) (id : ℕ) → id ≡ id_of t → list_any (λ (entry : Entry). is_of_id (id_of t) entry.1) entries ≡ false → Updates nat_cmp old mid id true → Updates nat_cmp mid new id false → AreKept bits entries genesis old → AreKept bits entries genesis new
are_kept_back bits entries genesis old mid new t id is fresh noted back h =
    let none : list_any (λ (entry : Entry). is_of_id id entry.1) entries ≡ false = ap (λ (i : ℕ). list_any (λ (entry : Entry). is_of_id i entry.1) entries) is ∙ fresh in
    record { all = h.all; id = h.id; ids = ids_back old mid new entries id none h.ids noted back }
