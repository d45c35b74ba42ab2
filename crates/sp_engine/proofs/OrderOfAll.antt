-- The order of presence of any kept blocks of different ids has each present block, and so the list of ids of transactions has each that a present block carries.
use Rattle.std.proofs.Common.{◌≡◌, ℕ, zero, suc, ◌+◌, ◌≤◌, ◌<◌, Bool, true, false, cond, ◌||◌, List, [], ◌∷◌, ◌++◌, length, length-append, append_assoc, Option, Some, None, refl, sym, ap, subst, ◌∙◌, inl, inr, eqb, arith}
use Rattle.std.specs.Prelude.{find, fold}
use Rattle.std.proofs.Math.ListN.{length-map}
use Rattle.std.proofs.lemmas.Bool.{eqb-true, false≢true, or_cases}
use Rattle.std.proofs.lemmas.List.{append-nil, map-append}
use Rattle.std.proofs.lemmas.List.Folds.{list_any-append}
use Rattle.sp_block.specs.Block.{ReadBlock}
use Rattle.sp_model.specs.Graph.{AreDistinct, has}
use Rattle.sp_model.proofs.Sets.{same_truth}
use Rattle.sp_pool.specs.Kept.{AreApart, ids_of, is_ready, IsNext, present, Releases}
use Rattle.sp_pool.proofs.Growth.{present_kept, present_stays, released}
use Rattle.sp_pool.proofs.KeptBlocks.{AreDistinct-push, has-push}
use Rattle.sp_pool.proofs.Runs.{Releases-distinct}
use Rattle.sp_engine.specs.Presence.{joining, joins_then, order_from, order_of}
use Rattle.sp_money.specs.Locks.{each_once, with_id}
use Rattle.sp_engine.proofs.Counts.{distinct_within}
use Rattle.sp_engine.proofs.NumberedBlocks.{next_fresh, next_kept}

-- ---- so many blocks join as are released, where they may be as many as there are

no_more : (kept : List ReadBlock) (set : List ℕ) → find (is_ready set) kept ≡ None → Releases kept set []
unfolding Releases
no_more kept set e = e

one_more : (kept : List ReadBlock) (set : List ℕ) (id : ℕ) (ids : List ℕ) → IsNext kept set id → Releases kept (set ++ id ∷ []) ids → Releases kept set (id ∷ ids)
unfolding Releases
one_more kept set id ids next rest = (next, rest)

within_more : (kept : List ReadBlock) (set : List ℕ) (id : ℕ) → IsNext kept set id → ((z : ℕ) → has set z ≡ true → has (ids_of kept) z ≡ true)
    → (z : ℕ) → has (set ++ id ∷ []) z ≡ true → has (ids_of kept) z ≡ true
within_more kept set id next within z there = elim (or_cases (has set z) (eqb id z) (sym (has-push set id z) ∙ there)) [
  | inl old ↦ within z old
  | inr new ↦ ap (has (ids_of kept)) (sym (eqb-true id z new)) ∙ next_kept next
]

-- there is a kept block more than the set has
room : (kept : List ReadBlock) (set : List ℕ) (id : ℕ) → AreDistinct set → ((z : ℕ) → has set z ≡ true → has (ids_of kept) z ≡ true) → IsNext kept set id
    → length set < length kept
room kept set id once within next =
    let few : length (set ++ id ∷ []) ≤ length (ids_of kept) =
    distinct_within (set ++ id ∷ []) (ids_of kept) (AreDistinct-push set id once (next_fresh next)) (within_more kept set id next within) in
    let same : length (ids_of kept) ≡ length kept = length-map kept (λ (b : ReadBlock). b.id) in
    omega (arith, few, same, length-append set (id ∷ []))

joining_releases : (n : ℕ) (kept : List ReadBlock) (set : List ℕ) → AreDistinct set → ((z : ℕ) → has set z ≡ true → has (ids_of kept) z ≡ true)
    → length kept ≤ length set + n → Releases kept set (joining n kept set)
unfolding joining
joining_releases zero kept set once within le = at (find (is_ready set) kept) refl
  where
    at : (o : Option ReadBlock) → find (is_ready set) kept ≡ o → Releases kept set []
    at None e = no_more kept set e
    at (Some b) e =
        let more : length set < length kept = room kept set b.id once within (record { block = b; earliest = e; same = refl }) in
        absurd (omega (arith, le, more))
joining_releases (suc n) kept set once within le =
    at (find (is_ready set) kept) refl (λ b e. let next : IsNext kept set b.id = record { block = b; earliest = e; same = refl } in (
      next,
      joining_releases n kept (set ++ b.id ∷ []) (AreDistinct-push set b.id once (next_fresh next)) (within_more kept set b.id next within)
          (omega (arith, le, length-append set (b.id ∷ []))),
    ))
  where
    at : (o : Option ReadBlock) → find (is_ready set) kept ≡ o
        → ((b : ReadBlock) → find (is_ready set) kept ≡ Some b → IsNext kept set b.id × Releases kept (set ++ b.id ∷ []) (joining n kept (set ++ b.id ∷ [])))
        → Releases kept set (joins_then o (λ id. joining n kept (set ++ id ∷ [])))
    at None e rest = no_more kept set e
    at (Some b) e rest = (let both = rest b e in one_more kept set b.id (joining n kept (set ++ b.id ∷ [])) both.0 both.1)

-- ---- the order

-- the set has each present block once
record HasPresent (kept : List ReadBlock) (set : List ℕ) : Type 0 where
  same : (z : ℕ) → has set z ≡ has (present kept) z
  once : AreDistinct set

front_distinct : (xs ys : List ℕ) → AreDistinct (xs ++ ys) → AreDistinct xs
front_distinct [] ys h = tt
front_distinct (x ∷ xs) ys h = (left (has xs x) (has ys x) (sym (list_any-append (λ k. eqb k x) xs ys) ∙ h.0), front_distinct xs ys h.1)
  where
    left : (a b : Bool) → (a || b) ≡ false → a ≡ false
    left true b e = absurd (false≢true (sym e))
    left false b e = refl

one_joins : (kept : List ReadBlock) (set : List ℕ) (b : ReadBlock) → AreApart (kept ++ b ∷ []) → HasPresent kept set
    → HasPresent (kept ++ b ∷ []) (set ++ joining (length (kept ++ b ∷ [])) (kept ++ b ∷ []) set)
one_joins kept set b apart h =
    let comes : Releases (kept ++ b ∷ []) set (joining (length (kept ++ b ∷ [])) (kept ++ b ∷ []) set) =
    joining_releases (length (kept ++ b ∷ [])) (kept ++ b ∷ []) set h.once (λ z there. present_kept (kept ++ b ∷ []) z (stay z there)) (omega arith) in
    record {
      same = λ z. sym (released (kept ++ b ∷ []) set (joining (length (kept ++ b ∷ [])) (kept ++ b ∷ []) set) apart stay comes z);
      once = Releases-distinct (kept ++ b ∷ []) set set (joining (length (kept ++ b ∷ [])) (kept ++ b ∷ []) set) (λ z. refl) h.once comes;
    }
  where
    stay : (z : ℕ) → has set z ≡ true → has (present (kept ++ b ∷ [])) z ≡ true
    stay z there = present_stays kept b z (sym (h.same z) ∙ there)

order_has : (kept : List ReadBlock) (set : List ℕ) (more : List ReadBlock) → AreApart (kept ++ more) → HasPresent kept set → HasPresent (kept ++ more) (order_from kept set more)
unfolding order_from
order_has kept set [] apart h = subst (λ (k : List ReadBlock). HasPresent k set) (sym (append-nil kept)) h
order_has kept set (b ∷ more) apart h =
    let same : (kept ++ b ∷ []) ++ more ≡ kept ++ b ∷ more = append_assoc kept (b ∷ []) more in
    let whole : AreApart ((kept ++ b ∷ []) ++ more) = subst (λ (k : List ReadBlock). AreApart k) (sym same) apart in
    let front : AreApart (kept ++ b ∷ []) =
    front_distinct (ids_of (kept ++ b ∷ [])) (ids_of more) (subst (λ (ids : List ℕ). AreDistinct ids) (map-append (λ (x : ReadBlock). x.id) (kept ++ b ∷ []) more) whole) in
    subst (λ (k : List ReadBlock). HasPresent k (order_from (kept ++ b ∷ []) (set ++ joining (length (kept ++ b ∷ [])) (kept ++ b ∷ []) set) more)) same
    (order_has (kept ++ b ∷ []) (set ++ joining (length (kept ++ b ∷ [])) (kept ++ b ∷ []) set) more whole (one_joins kept set b front h))

pub in_order : (kept : List ReadBlock) → AreApart kept → (z : ℕ) → has (order_of kept) z ≡ has (present kept) z
in_order kept apart z =
    (order_has [] [] kept apart (record { same = λ y. same_truth false (has (present []) y) (λ h. absurd (false≢true h)) (λ h. present_kept [] y h); once = tt })).same z

-- ---- ids, each once

has_with : (ids : List ℕ) (id z : ℕ) → has (with_id ids id) z ≡ (has ids z || eqb id z)
has_with ids id z = at (has ids id) refl
  where
    known : (a b : Bool) → (b ≡ true → a ≡ true) → a ≡ (a || b)
    known true b h = refl
    known false true h = h refl
    known false false h = refl

    at : (c : Bool) → has ids id ≡ c → has (cond c ids (ids ++ id ∷ [])) z ≡ (has ids z || eqb id z)
    at true e = known (has ids z) (eqb id z) (λ same. ap (has ids) (sym (eqb-true id z same)) ∙ e)
    at false e = has-push ids id z

has_all : (ids more : List ℕ) (z : ℕ) → has (fold with_id ids more) z ≡ (has ids z || has more z)
has_all ids [] z = none (has ids z)
  where
    none : (a : Bool) → a ≡ (a || false)
    none true = refl
    none false = refl
has_all ids (id ∷ more) z =
    has_all (with_id ids id) more z ∙ ap (λ (c : Bool). c || has more z) (has_with ids id z) ∙ together (has ids z) (eqb id z) (has more z)
  where
    together : (a b c : Bool) → ((a || b) || c) ≡ (a || (b || c))
    together true b c = refl
    together false b c = refl

pub has_once : (ids : List ℕ) (z : ℕ) → has (each_once ids) z ≡ has ids z
has_once ids z = has_all [] ids z
