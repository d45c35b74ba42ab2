-- The place of an id, and what it says of the id.
use Rattle.std.proofs.Common.{◌≡◌, ℕ, ◌+◌, ◌<◌, ◌≤◌, Bool, true, false, cond, not, List, [], ◌∷◌, length, get_or, refl, sym, ap, ◌∙◌, eqb, nat_eq, nat_lt, Option, Some, None, is_some, arith}
use Rattle.std.specs.Prelude.{find, position, slice_get, if◌then◌else◌}
use Rattle.std.specs.List.{position_or_len}
use Rattle.std.specs.Option.{option_and_then}
use Rattle.std.proofs.lemmas.Bool.Decides.{nat_tests}
use Rattle.std.proofs.lemmas.List.{length-map}
use Rattle.std.proofs.lemmas.List.Folds.{find_at, list_any_at}
use Rattle.std.proofs.lemmas.List.Quantifiers.{position-Some}
use Rattle.std.proofs.lemmas.Option.{slice_get_past}
use Rattle.sp_block.specs.Block.{ReadBlock}
use Rattle.sp_model.specs.Graph.{has}
use Rattle.sp_pool.specs.Kept.{ids_of, standing_of}
use Rattle.sp_pool.specs.declared.answers.Standing.{Standing}
use Rattle.sp_pool.specs.declared.answers.Standing.TheVariants.{Known, Full, Fresh}
use Rattle.sp_pool.proofs.Tables.{eqb_flip}
use Rattle.sp_pool.proofs.Marking.{no_place}

-- an id has a place exactly where it is there
pub place_there : (k : ℕ) (ks : List ℕ) (o : Option ℕ) → o ≡ position (nat_eq k) ks → is_some o ≡ has ks k
place_there k ks None e = sym (no_place k ks (sym e))
place_there k ks (Some i) e =
    let found = position-Some (nat_eq k) ks i 0 (sym e) in
    sym (list_any_at (λ x. eqb x k) ks i 0 found.0 (eqb_flip (get_or ks i 0) k ∙ found.1))

pub Known-standing : (kept : List ReadBlock) (id : ℕ) → has (ids_of kept) id ≡ true → Known ≡ standing_of kept id
Known-standing kept id h = ap (λ (b : Bool). if b then Known else (if nat_lt (length kept) 512 then Fresh else Full)) (sym h)

pub Fresh-standing : (kept : List ReadBlock) (id : ℕ) → has (ids_of kept) id ≡ false → length kept < 512 → Fresh ≡ standing_of kept id
Fresh-standing kept id h less =
    let room : nat_lt (length kept) 512 ≡ true = grind (arith, nat_tests) in
    ap (λ (b : Bool). if b then Fresh else Full) (sym room)
    ∙ ap (λ (b : Bool). if b then Known else (if nat_lt (length kept) 512 then Fresh else Full)) (sym h)

pub Full-standing : (kept : List ReadBlock) (id : ℕ) → has (ids_of kept) id ≡ false → 512 ≤ length kept → Full ≡ standing_of kept id
Full-standing kept id h more =
    let room : nat_lt (length kept) 512 ≡ false = grind (arith, nat_tests) in
    ap (λ (b : Bool). if b then Fresh else Full) (sym room)
    ∙ ap (λ (b : Bool). if b then Known else (if nat_lt (length kept) 512 then Fresh else Full)) (sym h)

-- a fresh id isn't there, and there is room
pub from_fresh : (kept : List ReadBlock) (id : ℕ) → standing_of kept id ≡ Fresh → (has (ids_of kept) id ≡ false) × (length kept < 512)
from_fresh kept id h = at (has (ids_of kept) id) (nat_lt (length kept) 512) refl h
  where
    at : (c d : Bool) → nat_lt (length kept) 512 ≡ d → ◌≡◌ {A = Standing} (if c then Known else (if d then Fresh else Full)) Fresh → (c ≡ false) × (length kept < 512)
    at true d e h = absurd (cc)
    at false true e h = (refl, grind (arith, nat_tests, e))
    at false false e h = absurd (cc)

same_place : (id : ℕ) (bs : List ReadBlock) → position_or_len (λ (b : ReadBlock). eqb b.id id) bs ≡ position_or_len (nat_eq id) (ids_of bs)
same_place id [] = refl
same_place id (b ∷ bs) =
    let here : eqb b.id id ≡ eqb id b.id = eqb_flip b.id id in
    let rest : position_or_len (λ (b : ReadBlock). eqb b.id id) bs ≡ position_or_len (nat_eq id) (ids_of bs) = same_place id bs in
    ap (λ (c : Bool). cond (not c) (1 + position_or_len (λ (b : ReadBlock). eqb b.id id) bs) 0) here ∙ ap (λ (n : ℕ). cond (not (eqb id b.id)) (1 + n) 0) rest

-- the block at an id's place is the first with this id
pub found_by_id : (id : ℕ) (bs : List ReadBlock) → find (λ (b : ReadBlock). eqb b.id id) bs ≡ option_and_then (slice_get bs) (position (nat_eq id) (ids_of bs))
found_by_id id bs =
    find_at (λ (b : ReadBlock). eqb b.id id) bs ∙ ap (slice_get bs) (same_place id bs)
    ∙ at (position_or_len (nat_eq id) (ids_of bs)) (nat_lt (position_or_len (nat_eq id) (ids_of bs)) (length (ids_of bs))) refl
  where
    at : (n : ℕ) (c : Bool) → nat_lt n (length (ids_of bs)) ≡ c → slice_get bs n ≡ option_and_then (slice_get bs) (cond c (Some n) None)
    at n true e = refl
    at n false e = (let same = length-map bs (λ (b : ReadBlock). b.id) in slice_get_past bs n (grind (arith, nat_tests, e, same)))
