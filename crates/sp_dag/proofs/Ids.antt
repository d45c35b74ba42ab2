-- The ids of the numbered blocks, and a new block behind them.
use Rattle.std.proofs.Common.{◌≡◌, ℕ, zero, suc, ◌+◌, ◌<◌, Bool, true, false, cond, ◌||◌, not, List, [], ◌∷◌, ◌++◌, length, map, get_or, refl, sym, ap, subst, ◌∙◌, inl, inr, eqb, Option, Some, None, arith, length-append}
use Rattle.std.specs.Prelude.{All, slice_get, position, unwrap_or, if◌then◌else◌}
use Rattle.std.specs.List.{list_any, position_or_len}
use Rattle.std.proofs.Math.ListN.{get_or-append, length-map}
use Rattle.std.proofs.Math.Seq.{get_or-append_seam}
use Rattle.std.proofs.lemmas.Bool.{cases_lt, eqb-true, eq-eqb, false≢true, or_left, or_right, lt-ltb}
use Rattle.std.proofs.lemmas.List.Folds.{position_or_len_push}
use Rattle.std.proofs.lemmas.List.Sums.{passes_at_first}
use Rattle.std.proofs.lemmas.Option.{slice_get-get_or}
use Rattle.std.proofs.lemmas.List.Elements.{All-map}
use Rattle.std.proofs.lemmas.List.Quantifiers.{position-Some}
use Rattle.indexmap.specs.IndexSet.{insert_key}
use Rattle.sp_model.specs.declared.profile.Profile.{Profile}
use Rattle.sp_model.specs.Graph.{AreDistinct, has}
use Rattle.sp_dag.specs.Numbered.{Numbered, IsNumbered, number_of, with_block}
use Rattle.sp_dag.proofs.Bools.{eqb_flip, eqb_apart}
use Rattle.sp_dag.proofs.Grown.{AreInOrder-push}
use Rattle.sp_dag.proofs.Adds.{AreBefore-all}

-- the number that a look-up finds is one of the id
pub number_found : (ids : List ℕ) (id n : ℕ) → position (eqb id) ids ≡ Some n → slice_get ids n ≡ Some id
number_found ids id n found =
    let at = position-Some (eqb id) ids n 0 found in
    slice_get-get_or ids n 0 at.0 ∙ ap (λ (k : ℕ). Some k) (sym (eqb-true id (get_or ids n 0) at.1))

-- a number that is told is one of the blocks
pub number_below : (ids : List ℕ) (id : ℕ) → 0 < length ids → number_of ids id < length ids
number_below ids id some = at (position (eqb id) ids) refl
  where
    at : (o : Option ℕ) → position (eqb id) ids ≡ o → unwrap_or o 0 < length ids
    at None e = some
    at (Some n) e = (position-Some (eqb id) ids n 0 e).0

pub numbers_below : (ids parents numbers : List ℕ) (n : ℕ) → 0 < length ids → length ids ≡ n → numbers ≡ map (number_of ids) parents → All (λ p. p < n) numbers
numbers_below ids parents numbers n some long is =
    subst (λ (l : List ℕ). All (λ p. p < n) l) (sym is)
    (All-map (λ p. p < n) (number_of ids) parents
    (λ k d le. let below : number_of ids (get_or parents k d) < length ids = number_below ids (get_or parents k d) some in omega arith))

-- an id that is there is found
found_before : (ids : List ℕ) (id : ℕ) → has ids id ≡ true → position_or_len (eqb id) ids < length ids
found_before [] id there = absurd (false≢true there)
found_before (x ∷ xs) id there = at (eqb x id) (eqb id x) (eqb_flip id x) there (found_before xs id)
  where
    at : (c d : Bool) → d ≡ c → (c || has xs id) ≡ true → (has xs id ≡ true → position_or_len (eqb id) xs < length xs)
        → cond (not d) (1 + position_or_len (eqb id) xs) 0 < suc (length xs)
    at c true same there rest = omega arith
    at true false same there rest = absurd (false≢true same)
    at false false same there rest = (let less : position_or_len (eqb id) xs < length xs = rest there in omega arith)

number_is : (ids : List ℕ) (id : ℕ) → position_or_len (eqb id) ids < length ids → number_of ids id ≡ position_or_len (eqb id) ids
number_is ids id le =
    ap (λ (c : Bool). unwrap_or (cond c (Some (position_or_len (eqb id) ids)) None) 0) (lt-ltb (position_or_len (eqb id) ids) (length ids) le)

-- the number of an id is that of a block with the id
pub id_of_number : (ids : List ℕ) (id : ℕ) → has ids id ≡ true → slice_get ids (number_of ids id) ≡ Some id
id_of_number ids id there =
    let inside : position_or_len (eqb id) ids < length ids = found_before ids id there in
    ap (slice_get ids) (number_is ids id inside) ∙ slice_get-get_or ids (position_or_len (eqb id) ids) 0 inside
    ∙ ap (λ (k : ℕ). Some k) (sym (eqb-true id (get_or ids (position_or_len (eqb id) ids) 0) (passes_at_first (eqb id) ids 0 inside)))

-- what stands in a list is a member
has-slice_get : (ids : List ℕ) (id n : ℕ) → slice_get ids n ≡ Some id → has ids id ≡ true
has-slice_get [] id n there = cc
has-slice_get (x ∷ xs) id zero there =
    (let same : x ≡ id = ap (λ (o : Option ℕ). unwrap_or o 0) there in or_left (eqb x id) (has xs id) (eq-eqb x id same))
has-slice_get (x ∷ xs) id (suc n) there = or_right (eqb x id) (has xs id) (has-slice_get xs id n there)

pub one_place : (ids : List ℕ) (id m n : ℕ) → AreDistinct ids → slice_get ids m ≡ Some id → slice_get ids n ≡ Some id → m ≡ n
one_place [] id m n h first second = cc
one_place (x ∷ xs) id zero zero h first second = refl
one_place (x ∷ xs) id zero (suc n) h first second =
    (let same : x ≡ id = ap (λ (o : Option ℕ). unwrap_or o 0) first in
    absurd (false≢true (sym h.0 ∙ ap (has xs) same ∙ has-slice_get xs id n second)))
one_place (x ∷ xs) id (suc m) zero h first second =
    (let same : x ≡ id = ap (λ (o : Option ℕ). unwrap_or o 0) second in
    absurd (false≢true (sym h.0 ∙ ap (has xs) same ∙ has-slice_get xs id m first)))
one_place (x ∷ xs) id (suc m) (suc n) h first second = ap suc (one_place xs id m n h.1 first second)

-- a block's number is that of its id
pub number_of_id : (ids : List ℕ) (id n : ℕ) → AreDistinct ids → slice_get ids n ≡ Some id → number_of ids id ≡ n
number_of_id ids id n h there = one_place ids id (number_of ids id) n h (id_of_number ids id (has-slice_get ids id n there)) there

-- an id that is added changes no number
pub number_of_stays : (ids : List ℕ) (id other : ℕ) → has ids id ≡ true → number_of (ids ++ other ∷ []) id ≡ number_of ids id
number_of_stays ids id other there =
    let inside : position_or_len (eqb id) ids < length ids = found_before ids id there in
    let same : position_or_len (eqb id) (ids ++ other ∷ []) ≡ position_or_len (eqb id) ids =
    position_or_len_push (eqb id) ids other
    ∙ ap (λ (c : Bool). cond c (length ids + cond (eqb id other) 0 1) (position_or_len (eqb id) ids)) (eqb_apart (position_or_len (eqb id) ids) (length ids) inside) in
    number_is (ids ++ other ∷ []) id (omega (arith, length-append ids (other ∷ []))) ∙ same ∙ sym (number_is ids id inside)

-- an id that isn't there goes last
pub keys-fresh : (ids : List ℕ) (id : ℕ) → has ids id ≡ false → insert_key eqb ids id ≡ ids ++ id ∷ []
keys-fresh ids id fresh = ap (λ (c : Bool). if c then ids else ids ++ id ∷ []) (none ids fresh)
  where
    none : (ids : List ℕ) → has ids id ≡ false → list_any (eqb id) ids ≡ false
    none [] fresh = refl
    none (x ∷ xs) fresh = at (eqb x id) (eqb id x) (eqb_flip id x) fresh (none xs)
      where
        at : (c d : Bool) → d ≡ c → (c || has xs id) ≡ false → (has xs id ≡ false → list_any (eqb id) xs ≡ false) → (d || list_any (eqb id) xs) ≡ false
        at true d same fresh rest = absurd (false≢true (sym fresh))
        at false true same fresh rest = absurd (false≢true (sym same))
        at false false same fresh rest = rest fresh

has-append : (xs ys : List ℕ) (k : ℕ) → has (xs ++ ys) k ≡ (has xs k || has ys k)
has-append [] ys k = refl
has-append (x ∷ xs) ys k = at (eqb x k) (has-append xs ys k)
  where
    at : (c : Bool) → has (xs ++ ys) k ≡ (has xs k || has ys k) → (c || has (xs ++ ys) k) ≡ ((c || has xs k) || has ys k)
    at true rest = refl
    at false rest = rest

AreDistinct-push : (ids : List ℕ) (id : ℕ) → AreDistinct ids → has ids id ≡ false → AreDistinct (ids ++ id ∷ [])
AreDistinct-push [] id h fresh = (refl, tt)
AreDistinct-push (x ∷ xs) id h fresh =
    let parts = apart (eqb x id) (has xs id) fresh in
    (has-append xs (id ∷ []) x ∙ both (has xs x) (eqb id x) h.0 (eqb_flip id x ∙ parts.0), AreDistinct-push xs id h.1 parts.1)
  where
    apart : (c d : Bool) → (c || d) ≡ false → (c ≡ false) × (d ≡ false)
    apart true d e = absurd (false≢true (sym e))
    apart false d e = (refl, e)

    both : (c d : Bool) → c ≡ false → d ≡ false → (c || (d || false)) ≡ false
    both true d e f = absurd (false≢true (sym e))
    both false true e f = absurd (false≢true (sym f))
    both false false e f = refl

abbrev pub numbered : Profile → List ℕ → List ℕ → List (List ℕ) → Numbered
numbered profile ids salts parents = record { profile = profile; ids = ids; salts = salts; parents = parents }

-- the numbered blocks with one more
pub IsNumbered-push : (profile : Profile) (ids salts : List ℕ) (parents : List (List ℕ)) (id salt : ℕ) (numbers : List ℕ) → IsNumbered (numbered profile ids salts parents)
    → has ids id ≡ false → length parents < 512 → 0 < length numbers → All (λ p. p < length parents) numbers
    → IsNumbered (numbered profile (ids ++ id ∷ []) (salts ++ salt ∷ []) (parents ++ numbers ∷ []))
IsNumbered-push profile ids salts parents id salt numbers h fresh room some before = record {
  some = omega (arith, length-append parents (numbers ∷ []));
  small = omega (arith, length-append parents (numbers ∷ []));
  long = omega (arith, length-append parents (numbers ∷ []), length-append ids (id ∷ []), h.long);
  salts_long = omega (arith, length-append parents (numbers ∷ []), length-append salts (salt ∷ []), h.salts_long);
  distinct = AreDistinct-push ids id h.distinct fresh;
  order = AreInOrder-push parents numbers h.order (AreBefore-all (length parents) numbers before);
  genesis = get_or-append parents (numbers ∷ []) [] 0 h.some ∙ h.genesis;
  rooted = λ z less inside. elim (cases_lt z (length parents)) [
    | inl old ↦ subst (λ (l : List ℕ). 0 < length l) (sym (get_or-append parents (numbers ∷ []) [] z old)) (h.rooted z less old)
    | inr high ↦ (let same : z ≡ length parents = omega (arith, length-append parents (numbers ∷ [])) in
        subst (λ (l : List ℕ). 0 < length l)
        (sym (ap (λ (k : ℕ). get_or (parents ++ numbers ∷ []) k []) same ∙ get_or-append_seam parents numbers [] [])) some)
  ];
}

-- the same, with the values as they are read
pub IsNumbered-adds : (blocks : Numbered) (id salt : ℕ) (parents : List ℕ) (profile : Profile) (ids salts : List ℕ) (table : List (List ℕ)) (keys new_salts numbers : List ℕ) (new_table : List (List ℕ))
    → numbered profile ids salts table ≡ blocks → IsNumbered (numbered profile ids salts table)
    → has blocks.ids id ≡ false → length blocks.parents < 512 → 0 < length parents
    → numbers ≡ map (number_of ids) parents → keys ≡ insert_key eqb ids id → new_salts ≡ salts ++ salt ∷ [] → new_table ≡ table ++ numbers ∷ []
    → IsNumbered (numbered profile keys new_salts new_table) × (numbered profile keys new_salts new_table ≡ with_block blocks id salt parents)
IsNumbered-adds blocks id salt parents profile ids salts table keys new_salts numbers new_table view h fresh room some is_numbers is_keys is_salts is_table =
    let fresh_here : has ids id ≡ false = ap (λ (b : Numbered). has b.ids id) view ∙ fresh in
    let room_here : length table ≡ length blocks.parents = ap (λ (b : Numbered). length b.parents) view in
    let some_here : length numbers ≡ length parents = ap length is_numbers ∙ length-map parents (number_of ids) in
    let ids_some : 0 < length ids = omega (arith, h.some, h.long) in
    let pushed : keys ≡ ids ++ id ∷ [] = is_keys ∙ keys-fresh ids id fresh_here in
    let new =
    IsNumbered-push profile ids salts table id salt numbers h fresh_here (omega arith) (omega arith)
    (numbers_below ids parents numbers (length table) ids_some h.long is_numbers) in
    let is : numbered profile keys new_salts new_table ≡ numbered profile (ids ++ id ∷ []) (salts ++ salt ∷ []) (table ++ numbers ∷ []) =
    λ k. numbered profile (pushed k) (is_salts k) (is_table k) in (
      subst IsNumbered (sym is) new,
      is ∙ ap (λ (l : List ℕ). numbered profile (ids ++ id ∷ []) (salts ++ salt ∷ []) (table ++ l ∷ [])) is_numbers ∙ ap (λ (b : Numbered). with_block b id salt parents) view,
    )
