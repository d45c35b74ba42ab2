-- The set of the ids of the transactions that were made.
use Rattle.std.proofs.Common.{rules, tests, ◌≡◌, ℕ, Bool, true, false, cond, eqb, ◌||◌, List, [], ◌∷◌, ◌++◌, refl, sym, ap, ◌∙◌, inl, inr}
use Rattle.std.specs.BTreeSet.{BTreeSet, IsEmpty, Updates}
use Rattle.std.specs.List.{list_any}
use Rattle.std.specs.Ordering.{is_eq, nat_cmp}
use Rattle.std.proofs.lemmas.Bool.{cases_Bool, eqb-true}
use Rattle.std.proofs.lemmas.List.Folds.{list_any-append}
use Rattle.sp_tx.specs.Spending.{id_of}
use Rattle.sp_play.specs.Kept.{HasTxIds}
use Rattle.sp_play.specs.Known.{at_start, Entry, is_of_id}
use Rattle.sp_play.specs.Things.{LockedTx}
use Rattle.sp_play.specs.declared.thing.Thing.{Thing}
use Rattle.sp_play.specs.declared.thing.Thing.TheVariants as kinds

same_ids : (x y : ℕ) → is_eq (nat_cmp x y) ≡ eqb x y
same_ids x y = search (rules, tests)

or_last : (p r : Bool) → cond p true r ≡ (r || (p || false))
or_last true true = refl
or_last true false = refl
or_last false true = refl
or_last false false = refl

or_none : (r : Bool) → r ≡ (r || (false || false))
or_none true = refl
or_none false = refl

-- one of the names more
any_push : (q : ℕ) (entries : List Entry) (word : List ℕ) (thing : Thing) → list_any (λ (entry : Entry). is_of_id q entry.1) (entries ++ (word, thing) ∷ []) ≡ (list_any (λ (entry : Entry). is_of_id q entry.1) entries || (is_of_id q thing || false))
any_push q entries word thing = list_any-append (λ (entry : Entry). is_of_id q entry.1) entries ((word, thing) ∷ [])

-- a block leaves the set
pub ids_block : (ids : BTreeSet ℕ) (entries : List Entry) (word bytes : List ℕ) → HasTxIds ids entries → HasTxIds ids (entries ++ (word, kinds.Made bytes) ∷ [])
ids_block ids entries word bytes h q = h q ∙ or_none (list_any (λ (entry : Entry). is_of_id q entry.1) entries) ∙ sym (any_push q entries word (kinds.Made bytes))

-- a transaction is noted
pub ids_tx : (old new : BTreeSet ℕ) (entries : List Entry) (word : List ℕ) (named : LockedTx) (id : ℕ) → id ≡ id_of named.tx → HasTxIds old entries → Updates nat_cmp old new id true → HasTxIds new (entries ++ (word, kinds.Tx named) ∷ [])
ids_tx old new entries word named id is h u q =
    let others = list_any (λ (entry : Entry). is_of_id q entry.1) entries in
    let same : is_eq (nat_cmp id q) ≡ eqb (id_of named.tx) q = same_ids id q ∙ ap (λ (i : ℕ). eqb i q) is in
    u.0 q ∙ rw (h q, same) (or_last (eqb (id_of named.tx) q) others) ∙ sym (any_push q entries word (kinds.Tx named))

-- one that was noted, and was new, is taken back
pub ids_back : (old mid new : BTreeSet ℕ) (entries : List Entry) (id : ℕ) → list_any (λ (entry : Entry). is_of_id id entry.1) entries ≡ false → HasTxIds old entries → Updates nat_cmp old mid id true → Updates nat_cmp mid new id false → HasTxIds new entries
ids_back old mid new entries id fresh h noted back q = elim (cases_Bool (is_eq (nat_cmp id q))) [
  | inl e ↦ (
      let same : id ≡ q = eqb-true id q (sym (same_ids id q) ∙ e) in
      let none : list_any (λ (entry : Entry). is_of_id q entry.1) entries ≡ false = ap (λ (i : ℕ). list_any (λ (entry : Entry). is_of_id i entry.1) entries) (sym same) ∙ fresh in
      back.0 q ∙ rw (e, none) refl)
  | inr e ↦ back.2 q e ∙ noted.2 q e ∙ h q
]

-- before the first transaction
pub ids_none : (ids : BTreeSet ℕ) → IsEmpty ids → HasTxIds ids at_start.entries
ids_none ids h q = rw h refl
