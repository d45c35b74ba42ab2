-- The ids of a list in ascending order, from a list of them in another order, or from those that pass a test.
use Rattle.std.proofs.Common.{◌≡◌, ℕ, suc, ◌+◌, ◌≤◌, Bool, true, false, ◌||◌, cond, List, [], ◌∷◌, ◌++◌, length, length-append, IsPermutation, IsSorted, nat_cmp, eqb, take, get_or, inl, inr, refl, sym, ap, subst, ◌∙◌, arith}
use Rattle.std.specs.Prelude.{filter, slice_get, Some}
use Rattle.std.proofs.Math.Seq.{take-suc}
use Rattle.std.proofs.lemmas.Bool.{cases_Bool, eq-eqb, eqb-true, false≢true, or_left, or_right}
use Rattle.std.proofs.lemmas.List.{nil_from_length}
use Rattle.std.proofs.lemmas.List.Sorted.{IsPermutation-cons, IsPermutation-middle, IsPermutation-refl, IsPermutation-sym, IsPermutation-trans}
use Rattle.std.proofs.lemmas.Option.{get_or_from_slice_get, slice_get_within}
use Rattle.sp_block.specs.Ascending.{ascending}
use Rattle.sp_block.specs.Block.{ReadBlock}
use Rattle.sp_block.proofs.Ascent.{ascending_permuted, sort_is_ascending}
use Rattle.sp_model.specs.Graph.{AreDistinct, has}
use Rattle.sp_pool.specs.Kept.{AreApart, present}
use Rattle.sp_engine.proofs.Counts.{AreDistinct-present}

-- a member stands somewhere in its list
split_at : (xs : List ℕ) (y : ℕ) → has xs y ≡ true → (a : List ℕ) × (b : List ℕ) × (xs ≡ a ++ y ∷ b)
split_at [] y h = absurd (false≢true h)
split_at (x ∷ xs) y h = at (eqb x y) refl h (λ there. split_at xs y there)
  where
    at : (c : Bool) → eqb x y ≡ c → (c || has xs y) ≡ true → (has xs y ≡ true → (a : List ℕ) × (b : List ℕ) × (xs ≡ a ++ y ∷ b)) → (a : List ℕ) × (b : List ℕ) × (x ∷ xs ≡ a ++ y ∷ b)
    at true e there rest = ([], xs, ap (λ (z : ℕ). z ∷ xs) (eqb-true x y e))
    at false e there rest = (let later = rest there in (x ∷ later.0, later.1, ap (λ (zs : List ℕ). x ∷ zs) later.2))

-- another member stands elsewhere in it
elsewhere : (a b : List ℕ) (y z : ℕ) → eqb y z ≡ false → has (a ++ y ∷ b) z ≡ has (a ++ b) z
elsewhere [] b y z other = ap (λ c. c || has b z) other
elsewhere (x ∷ a) b y z other = ap (λ c. eqb x z || c) (elsewhere a b y z other)

other : (y z : ℕ) (ys : List ℕ) → has ys y ≡ false → has ys z ≡ true → eqb y z ≡ false
other y z ys none h = elim (cases_Bool (eqb y z)) [ inl e ↦ absurd (false≢true (sym none ∙ ap (has ys) (eqb-true y z e) ∙ h)) | inr e ↦ e ]

-- different members of a list that is no longer are all of it
pub permuted : (ys xs : List ℕ) → AreDistinct ys → ((z : ℕ) → has ys z ≡ true → has xs z ≡ true) → length xs ≤ length ys → IsPermutation ys xs
permuted [] xs apart within short = subst (λ (l : List ℕ). IsPermutation [] l) (sym (nil_from_length xs (omega arith))) (IsPermutation-refl [])
permuted (y ∷ ys) xs apart within short =
    let parts = split_at xs y (within y (or_left (eqb y y) (has ys y) (eq-eqb y y refl))) in
    let a = parts.0 in
    let b = parts.1 in
    let long : length xs ≡ length a + suc (length b) = ap length parts.2 ∙ length-append a (y ∷ b) in
    let rest = permuted ys (a ++ b) apart.1 (λ z h. sym (elsewhere a b y z (other y z ys apart.0 h)) ∙ ap (λ (l : List ℕ). has l z) (sym parts.2) ∙ within z (or_right (eqb y z) (has ys z) h)) (omega (arith, long, length-append a b)) in
    subst (λ (l : List ℕ). IsPermutation (y ∷ ys) l) (sym parts.2)
    (IsPermutation-trans (y ∷ ys) (y ∷ (a ++ b)) (a ++ y ∷ b) (IsPermutation-cons y ys (a ++ b) rest) (IsPermutation-sym (a ++ y ∷ b) (y ∷ (a ++ b)) (IsPermutation-middle a y b)))

-- what a sort leaves of the ids of the present blocks, in whatever order they stood
pub sorted_present : (kept : List ReadBlock) (order sorted : List ℕ) → AreApart kept → ((id : ℕ) → has order id ≡ has (present kept) id)
    → length order ≡ length (present kept) → IsPermutation order sorted → IsSorted nat_cmp sorted → sorted ≡ ascending (present kept)
sorted_present kept order sorted apart same long moved up =
    sort_is_ascending order sorted moved up
    ∙ sym (ascending_permuted (present kept) order (permuted (present kept) order (AreDistinct-present kept apart) (λ z h. same z ∙ h) (omega (arith, long))))

-- the next one in the order
pub one_more : (order before : List ℕ) (i id : ℕ) → before ≡ take i order → slice_get order i ≡ Some id → before ++ id ∷ [] ≡ take (i + 1) order
one_more order before i id are is =
    let taken : take (i + 1) order ≡ take i order ++ get_or order i id ∷ [] = ap (λ (n : ℕ). take n order) (let s : i + 1 ≡ suc i = omega arith in s) ∙ take-suc order i id (slice_get_within order i id is) in
    ap (λ (s : List ℕ). s ++ id ∷ []) are ∙ ap (λ (k : ℕ). take i order ++ k ∷ []) (sym (get_or_from_slice_get order i id id is)) ∙ sym taken

-- ---- those that pass a test

-- one more element before a filter
filter_push : (p : ℕ → Bool) (xs : List ℕ) (x : ℕ) → filter p (xs ++ x ∷ []) ≡ filter p xs ++ cond (p x) (x ∷ []) []
filter_push p [] x = elim (cases_Bool (p x)) [ inl e ↦ rw e refl | inr e ↦ rw e refl ]
filter_push p (y ∷ ys) x = elim (cases_Bool (p y)) [
  | inl e ↦ rw e (ap (λ (zs : List ℕ). y ∷ zs) (filter_push p ys x))
  | inr e ↦ rw e (filter_push p ys x)
]

-- the next one is looked at
pub next_looked : (p : ℕ → Bool) (all before now : List ℕ) (i x : ℕ) (wanted : Bool) → before ≡ filter p (take i all) → slice_get all i ≡ Some x
    → wanted ≡ p x → now ≡ before ++ cond wanted (x ∷ []) [] → now ≡ filter p (take (i + 1) all)
next_looked p all before now i x wanted are is test e =
    e ∙ ap (λ (l : List ℕ). l ++ cond wanted (x ∷ []) []) are ∙ ap (λ (b : Bool). filter p (take i all) ++ cond b (x ∷ []) []) test
    ∙ sym (filter_push p (take i all) x) ∙ ap (filter p) (one_more all (take i all) i x refl is)

-- and is one more at most
pub one_at_most : (before now : List ℕ) (x : ℕ) (wanted : Bool) (i : ℕ) → length before ≤ i → now ≡ before ++ cond wanted (x ∷ []) [] → length now ≤ i + 1
one_at_most before now x true i few e = omega (arith, ap length e, length-append before (x ∷ []))
one_at_most before now x false i few e = omega (arith, ap length e, length-append before [])
