-- What is named behind a stem is found again.
use Rattle.std.proofs.Common.{◌≡◌, ℕ, Bool, true, false, List, [], ◌∷◌, ◌++◌, ◌/◌, ◌%◌, Option, Some, None, cond, refl, ap, ◌∙◌, length, ◌+◌, arith, length-append}
use Rattle.std.specs.Str.{bytes_eq}
use Rattle.std.proofs.lemmas.List.{append_cancel_left}
use Rattle.std.proofs.lemmas.Slice.Eq.{bytes_eq-Decides}
use Rattle.sp_model.specs.declared.profile.Profile.{Profile}
use Rattle.sp_model.specs.declared.profile.Profile.TheVariants.{One, Two}
use Rattle.sp_model.specs.Profiles.{name, number, with_name}

found_itself : (bytes : List ℕ) → bytes_eq bytes bytes ≡ true
found_itself bytes = (bytes_eq-Decides bytes bytes).1 refl

abbrev second : List ℕ → ℕ
second (x ∷ y ∷ rest) = y
second (x ∷ []) = 0
second [] = 0

-- two names behind one stem differ where their digits do
apart : (a b : ℕ) → (a ≡ b → ⊥) → (stem : List ℕ) → bytes_eq (stem ++ 48 ∷ a ∷ []) (stem ++ 48 ∷ b ∷ []) ≡ false
apart a b differ stem = by (bytes_eq (stem ++ 48 ∷ a ∷ []) (stem ++ 48 ∷ b ∷ [])) refl
  where
    by : (same : Bool) → bytes_eq (stem ++ 48 ∷ a ∷ []) (stem ++ 48 ∷ b ∷ []) ≡ same → bytes_eq (stem ++ 48 ∷ a ∷ []) (stem ++ 48 ∷ b ∷ []) ≡ false
    by true e = absurd (differ (ap second (append_cancel_left stem (48 ∷ a ∷ []) (48 ∷ b ∷ []) ((bytes_eq-Decides _ _).0 e))))
    by false e = e

two_is_not_one : ◌≡◌ {A = ℕ} 50 49 → ⊥
two_is_not_one e = omega (arith, e)

pub named : (stem : List ℕ) (profile : Profile) → with_name stem (name stem profile) ≡ Some profile
named stem One = rw (found_itself (name stem One)) refl
named stem Two = rw (apart 50 49 two_is_not_one stem, found_itself (name stem Two)) refl

-- behind a stem of six bytes a name has eight
pub eight : (stem : List ℕ) (profile : Profile) → length stem ≡ 6 → length (name stem profile) ≡ 8
eight stem profile six = length-append stem ((48 + number profile / 10) ∷ (48 + number profile % 10) ∷ []) ∙ ap (λ n. n + 2) six

-- the profile of a found one
abbrev or_one : Option Profile → Profile
or_one None = One
or_one (Some profile) = profile

some_inner_eq : {p q : Profile} → Some p ≡ Some q → p ≡ q
some_inner_eq e = ap or_one e

-- and what is found behind a name is what was named
pub found : (stem bytes : List ℕ) (profile : Profile) → with_name stem bytes ≡ Some profile → bytes ≡ name stem profile
found stem bytes profile = by (bytes_eq bytes (name stem One)) (bytes_eq bytes (name stem Two)) profile (bytes_eq-Decides bytes (name stem One)).0 (bytes_eq-Decides bytes (name stem Two)).0
  where
    by : (a b : Bool) (profile : Profile) → (a ≡ true → bytes ≡ name stem One) → (b ≡ true → bytes ≡ name stem Two) → cond a (Some One) (cond b (Some Two) None) ≡ Some profile → bytes ≡ name stem profile
    by true b profile one two e = one refl ∙ ap (name stem) (some_inner_eq e)
    by false true profile one two e = two refl ∙ ap (name stem) (some_inner_eq e)
    by false false profile one two e = absurd cc

-- each profile has a number of its own
pub one_number : (p q : Profile) → number p ≡ number q → p ≡ q
one_number One One e = refl
one_number One Two e = absurd (omega (arith, e))
one_number Two One e = absurd (omega (arith, e))
one_number Two Two e = refl
