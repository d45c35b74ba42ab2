-- Numbers of which each is kept once, at its first place.
use Rattle.std.proofs.Common.{◌≡◌, ℕ, Bool, true, false, cond, List, [], ◌∷◌, ◌++◌, refl, sym, ap, subst, ◌∙◌, eqb, inl, inr}
use Rattle.std.specs.Prelude.{flat_map, fold}
use Rattle.std.proofs.lemmas.Bool.{eq-eqb, or_left, or_right}
use Rattle.std.proofs.lemmas.List.{append-nil}
use Rattle.std.proofs.lemmas.List.Sums.{fold-append}
use Rattle.std.proofs.lemmas.Grind.{flat_map-append}
use Rattle.sp_model.specs.Graph.{AreDistinct, has}
use Rattle.sp_pool.proofs.KeptBlocks.{AreDistinct-push, has-push}
use Rattle.sp_carry.proofs.Conflicts.{in_from_has}
use Rattle.sp_carry.proofs.Members.{in_flat_map_from, IsIn}
use Rattle.sp_money.specs.Locks.{each_once, with_id}

stays : (ids : List ℕ) (x i : ℕ) → has ids i ≡ true → has (with_id ids x) i ≡ true
stays ids x i there = at (has ids x)
  where
    at : (c : Bool) → has (cond c ids (ids ++ x ∷ [])) i ≡ true
    at true = there
    at false = has-push ids x i ∙ or_left (has ids i) (eqb x i) there

joins : (ids : List ℕ) (x : ℕ) → has (with_id ids x) x ≡ true
joins ids x = at (has ids x) refl
  where
    at : (c : Bool) → has ids x ≡ c → has (cond c ids (ids ++ x ∷ [])) x ≡ true
    at true e = e
    at false e = has-push ids x x ∙ or_right (has ids x) (eqb x x) (eq-eqb x x refl)

all_stay : (ids xs : List ℕ) (i : ℕ) → has ids i ≡ true → has (fold with_id ids xs) i ≡ true
all_stay ids [] i there = there
all_stay ids (x ∷ xs) i there = all_stay (with_id ids x) xs i (stays ids x i there)

all_join : (ids xs : List ℕ) (i : ℕ) → IsIn xs i → has (fold with_id ids xs) i ≡ true
all_join ids [] i there = absurd there
all_join ids (x ∷ xs) i there =
    elim there [
      | inl same ↦ all_stay (with_id ids x) xs i (subst (λ (y : ℕ). has (with_id ids x) y ≡ true) same (joins ids x))
      | inr later ↦ all_join (with_id ids x) xs i later
    ]

none_joins : (ids xs : List ℕ) → ((i : ℕ) → IsIn xs i → has ids i ≡ true) → fold with_id ids xs ≡ ids
none_joins ids [] h = refl
none_joins ids (x ∷ xs) h =
    ap (λ (c : Bool). fold with_id (cond c ids (ids ++ x ∷ [])) xs) (h x (inl refl)) ∙ none_joins ids xs (λ i there. h i (inr there))

one_more : (f : ℕ → List ℕ) (ids : List ℕ) (x : ℕ) → each_once (flat_map f (with_id ids x)) ≡ fold with_id (each_once (flat_map f ids)) (f x)
one_more f ids x = at (has ids x) refl
  where
    at : (c : Bool) → has ids x ≡ c → each_once (flat_map f (cond c ids (ids ++ x ∷ []))) ≡ fold with_id (each_once (flat_map f ids)) (f x)
    at true e = sym (none_joins (each_once (flat_map f ids)) (f x) (λ i there. all_join [] (flat_map f ids) i (in_flat_map_from f ids x i (in_from_has ids x e) there)))
    at false e =
        ap each_once (flat_map-append f ids (x ∷ []) ∙ ap (λ (l : List ℕ). flat_map f ids ++ l) (append-nil (f x)))
        ∙ fold-append with_id [] (flat_map f ids) (f x)

more_once : (f : ℕ → List ℕ) (ids xs : List ℕ) → each_once (flat_map f (fold with_id ids xs)) ≡ fold with_id (each_once (flat_map f ids)) (flat_map f xs)
more_once f ids [] = refl
more_once f ids (x ∷ xs) =
    more_once f (with_id ids x) xs
    ∙ ap (λ (l : List ℕ). fold with_id l (flat_map f xs)) (one_more f ids x)
    ∙ sym (fold-append with_id (each_once (flat_map f ids)) (f x) (flat_map f xs))

-- what repeats of a number bring again is passed over
pub once_of_once : (f : ℕ → List ℕ) (xs : List ℕ) → each_once (flat_map f (each_once xs)) ≡ each_once (flat_map f xs)
once_of_once f xs = more_once f [] xs

-- none stands twice
once_with : (ids : List ℕ) (id : ℕ) → AreDistinct ids → AreDistinct (with_id ids id)
once_with ids id once = at (has ids id) refl
  where
    at : (c : Bool) → has ids id ≡ c → AreDistinct (cond c ids (ids ++ id ∷ []))
    at true e = once
    at false e = AreDistinct-push ids id once e

once_all : (ids more : List ℕ) → AreDistinct ids → AreDistinct (fold with_id ids more)
once_all ids [] once = once
once_all ids (id ∷ more) once = once_all (with_id ids id) more (once_with ids id once)

pub each_is_once : (ids : List ℕ) → AreDistinct (each_once ids)
each_is_once ids = once_all [] ids tt
