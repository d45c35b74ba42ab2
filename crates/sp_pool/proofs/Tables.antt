-- Entries by id: a block with a new id goes last.
use Rattle.std.proofs.Common.{◌≡◌, ℕ, Bool, true, false, ◌||◌, List, [], ◌∷◌, ◌++◌, refl, sym, ap, ◌∙◌, eqb, nat_eq}
use Rattle.std.specs.Prelude.{if◌then◌else◌}
use Rattle.std.specs.List.{IsDistinct, AllByRecursion}
use Rattle.std.specs.Map.{keys_of, values_of}
use Rattle.std.proofs.lemmas.Bool.{eqb-true, eq-eqb, false≢true}
use Rattle.std.proofs.lemmas.List.{map-append}
use Rattle.std.proofs.lemmas.Map.Keys.{IsDistinct-head, IsDistinct-tail}
use Rattle.indexmap.specs.IndexMap.{insert_entry}
use Rattle.sp_block.specs.Block.{ReadBlock}
use Rattle.sp_model.specs.Graph.{has}
use Rattle.sp_pool.specs.Kept.{AreApart, ids_of}
use Rattle.sp_pool.specs.Marks.{marked, Marked, with_unmarked}
use Rattle.sp_pool.proofs.Growth.{same_bool}

pub eqb_flip : (a b : ℕ) → eqb a b ≡ eqb b a
eqb_flip a b = same_bool (eqb a b) (eqb b a) (λ e. eq-eqb b a (sym (eqb-true a b e))) (λ e. eq-eqb a b (sym (eqb-true b a e)))

no_key : (k : ℕ) (ks : List ℕ) → AllByRecursion (λ y. nat_eq k y ≡ false) ks → has ks k ≡ false
no_key k [] all = refl
no_key k (y ∷ ys) all = at (eqb y k) (eqb_flip y k ∙ all.0) (no_key k ys all.1)
  where
    at : (c : Bool) → c ≡ false → has ys k ≡ false → (c || has ys k) ≡ false
    at true e rest = e
    at false e rest = rest

pub AreApart-ids : (blocks : List ReadBlock) → IsDistinct nat_eq (ids_of blocks) → AreApart blocks
AreApart-ids [] h = tt
AreApart-ids (b ∷ bs) h =
    (no_key b.id (ids_of bs) (IsDistinct-head nat_eq b.id (ids_of bs) h), AreApart-ids bs (IsDistinct-tail nat_eq b.id (ids_of bs) h))

insert_entry-fresh : (k : ℕ) (b : ReadBlock) (es : List (ℕ × ReadBlock)) → has (keys_of es) k ≡ false → insert_entry nat_eq es k b ≡ es ++ (k, b) ∷ []
insert_entry-fresh k b [] fresh = refl
insert_entry-fresh k b (e ∷ es) fresh = at (eqb e.0 k) (nat_eq k e.0) (eqb_flip k e.0) fresh (insert_entry-fresh k b es)
  where
    at : (c d : Bool) → d ≡ c → (c || has (keys_of es) k) ≡ false → (has (keys_of es) k ≡ false → insert_entry nat_eq es k b ≡ es ++ (k, b) ∷ [])
        → (if d then (e.0, b) ∷ es else e ∷ insert_entry nat_eq es k b) ≡ e ∷ es ++ (k, b) ∷ []
    at true d same fresh rest = absurd (false≢true (sym fresh))
    at false true same fresh rest = absurd (false≢true (sym same))
    at false false same fresh rest = ap (λ (l : List (ℕ × ReadBlock)). e ∷ l) (rest fresh)

-- the block goes last, under its own id
pub pushed : (es new : List (ℕ × ReadBlock)) (id : ℕ) (b : ReadBlock) → keys_of es ≡ ids_of (values_of es) → has (ids_of (values_of es)) b.id ≡ false
    → id ≡ b.id → new ≡ insert_entry nat_eq es id b → (values_of new ≡ values_of es ++ b ∷ []) × (keys_of new ≡ ids_of (values_of new))
pushed es new id b keyed fresh own is_new =
    let last : new ≡ es ++ (b.id, b) ∷ [] =
    is_new ∙ ap (λ (k : ℕ). insert_entry nat_eq es k b) own ∙ insert_entry-fresh b.id b es (ap (λ (ks : List ℕ). has ks b.id) keyed ∙ fresh) in
    let values : values_of new ≡ values_of es ++ b ∷ [] = ap values_of last ∙ map-append (λ (e : ℕ × ReadBlock). e.1) es ((b.id, b) ∷ []) in
    let keys : keys_of new ≡ keys_of es ++ b.id ∷ [] = ap keys_of last ∙ map-append (λ (e : ℕ × ReadBlock). e.0) es ((b.id, b) ∷ []) in
    (values, keys ∙ ap (λ (l : List ℕ). l ++ b.id ∷ []) keyed ∙ sym (map-append (λ (x : ReadBlock). x.id) (values_of es) (b ∷ [])) ∙ sym (ap ids_of values))

-- one block more, without a mark
pub marked_push : (m : Marked) (before : Marked) (b : ReadBlock) (blocks : List ReadBlock) (marks : List Bool) (seen : List ℕ) → before ≡ m
    → blocks ≡ before.blocks ++ b ∷ [] → marks ≡ before.marks ++ false ∷ [] → seen ≡ before.seen ++ 0 ∷ [] → marked blocks marks seen ≡ with_unmarked m b
marked_push m before b blocks marks seen same by_block by_mark by_seen = rw (by_block, by_mark, by_seen) (ap (λ (x : Marked). with_unmarked x b) same)
