-- Where elements stand in a list, and ids in a list in which none stands twice.
use Rattle.std.proofs.Common.{◌≡◌, ℕ, zero, suc, ◌<◌, Bool, true, false, List, [], ◌∷◌, map, length, get_or, Some, refl, sym, ap, ◌∙◌, inl, inr, arith, eqb}
use Rattle.std.specs.Prelude.{position}
use Rattle.std.specs.List.{list_any, position_or_len}
use Rattle.std.proofs.lemmas.Bool.{eq-eqb, ne_eqb, lt-ltb}
use Rattle.std.proofs.lemmas.List.Sums.{position_or_len_is}
use Rattle.std.proofs.lemmas.Option.{slice_get-get_or}
use Rattle.sp_model.specs.Graph.{AreDistinct}
use Rattle.sp_dag.proofs.Ids.{number_of_id}
use Rattle.sp_carry.proofs.Members.{IsIn}

-- no id stands at two places
pub one_place : (ids : List ℕ) (m n : ℕ) → AreDistinct ids → m < length ids → n < length ids → get_or ids m 0 ≡ get_or ids n 0 → m ≡ n
one_place ids m n distinct lm ln e =
    sym (number_of_id ids (get_or ids m 0) m distinct (slice_get-get_or ids m 0 lm))
    ∙ number_of_id ids (get_or ids m 0) n distinct (slice_get-get_or ids n 0 ln ∙ ap (λ (id : ℕ). Some id) (sym e))

-- an id is found where it stands
pub position_is : (ids : List ℕ) (id n : ℕ) → AreDistinct ids → n < length ids → get_or ids n 0 ≡ id → position (eqb id) ids ≡ Some n
position_is ids id n distinct lt e =
    let at : position_or_len (eqb id) ids ≡ n =
    position_or_len_is (eqb id) ids n 0 (omega (arith, lt))
    (λ j less. ne_eqb id (get_or ids j 0) (λ same. (let f : j ≡ n = one_place ids j n distinct (omega (arith, less, lt)) lt (sym same ∙ sym e) in omega (arith, less, f))))
    (λ _. eq-eqb id (get_or ids n 0) (sym e)) in
    rw (at, lt-ltb n (length ids) lt) refl

-- a member stands somewhere
pub place_in : {A : Type 0} (xs : List A) (d x : A) → IsIn xs x → (i : ℕ) × (i < length xs) × (get_or xs i d ≡ x)
place_in [] d x h = absurd h
place_in {A} (y ∷ ys) d x h =
    elim h [
      | inl same ↦ (0, omega arith, same)
      | inr there ↦ (let r : (i : ℕ) × (i < length ys) × (get_or ys i d ≡ x) = place_in ys d x there in (suc r.0, omega (arith, r.1), r.2))
    ]

pub in_place : {A : Type 0} (xs : List A) (d : A) (i : ℕ) → i < length xs → IsIn xs (get_or xs i d)
in_place [] d i lt = absurd (omega (arith, lt))
in_place (y ∷ ys) d zero lt = inl refl
in_place (y ∷ ys) d (suc i) lt = inr (in_place ys d i (omega (arith, lt)))

pub any_map : {A B : Type 0} (f : A → B) (p : B → Bool) (xs : List A) → list_any p (map f xs) ≡ list_any (λ x. p (f x)) xs
any_map f p [] = refl
any_map f p (x ∷ xs) = (let rest : list_any p (map f xs) ≡ list_any (λ x. p (f x)) xs = any_map f p xs in cc)

-- a flag that is set is there
pub set_within : (flags : List Bool) (d : ℕ) → get_or flags d false ≡ true → d < length flags
set_within [] d h = absurd (let e : false ≡ true = h in cc)
set_within (f ∷ fs) zero h = omega arith
set_within (f ∷ fs) (suc d) h = (let r : d < length fs = set_within fs d h in omega (arith, r))
