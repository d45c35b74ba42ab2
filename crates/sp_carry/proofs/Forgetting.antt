-- What is left where a number that was noted under some outpoints is taken back.
use Rattle.std.proofs.Common.{◌≡◌, ℕ, suc, zero, Bool, true, false, cond, ◌+◌, ◌<◌, ◌||◌, take, length, get_or, List, [], ◌∷◌, ◌++◌, refl, sym, ap, ◌∙◌}
use Rattle.std.specs.List.{list_any}
use Rattle.std.specs.Prelude.{All}
use Rattle.std.proofs.lemmas.List.{append-nil}
use Rattle.sp_ids.specs.declared.outpoint.Outpoint.{Outpoint}
use Rattle.sp_tx.specs.declared.parts.Input.{Input}
use Rattle.sp_carry.specs.Payment.{is_same_outpoint}
use Rattle.sp_carry.specs.Lookups.{is_spent_by, kept_at, Lists, IsForgotten, IsNoted, IsPartly}
use Rattle.sp_carry.proofs.Noting.{same_is, spent_more}

-- the next input
pub forgotten_more : (first : Outpoint → List ℕ) (old mid new : Lists) (inputs : List Input) (i : ℕ) (input : Input) (number : ℕ) → i < length inputs
    → input ≡ get_or inputs i input → IsForgotten first old mid (take i inputs) number
    → ((front : List ℕ) → All (λ m. m < number) front → IsPartly number front (kept_at mid input.from) → kept_at new input.from ≡ front)
    → ((other : Outpoint) → is_same_outpoint other input.from ≡ false → kept_at new other ≡ kept_at mid other)
    → IsForgotten first old new (take (i + 1) inputs) number
forgotten_more first old mid new inputs i input number lt is before here others was from =
    at (is_same_outpoint from input.from) refl
    ∙ ap (λ (c : Bool). cond c (first from) (kept_at old from)) (sym (spent_more inputs i input from lt is))
  where
    partly_of : (o : Outpoint) (c : Bool) → kept_at mid o ≡ cond c (first o) (kept_at old o) → IsPartly number (first o) (kept_at mid o)
    partly_of o true e = (false, e ∙ sym (append-nil (first o)))
    partly_of o false e = let p : IsPartly number (first o) (kept_at old o) = was.partly o in (p.0, e ∙ p.1)

    done : (b : Bool) → (b || true) ≡ true
    done true = refl
    done false = refl

    same : (b : Bool) → (b || false) ≡ b
    same true = refl
    same false = refl

    at : (c : Bool) → is_same_outpoint from input.from ≡ c
        → kept_at new from ≡ cond (is_spent_by from (take i inputs) || c) (first from) (kept_at old from)
    at true e =
        ap (kept_at new) (same_is from input.from e)
        ∙ here (first input.from) (was.below input.from)
        (partly_of input.from (is_spent_by input.from (take i inputs)) (before was input.from))
        ∙ ap first (sym (same_is from input.from e))
        ∙ sym (ap (λ (c : Bool). cond c (first from) (kept_at old from)) (done (is_spent_by from (take i inputs))))
    at false e =
        others from e ∙ before was from
        ∙ sym (ap (λ (c : Bool). cond c (first from) (kept_at old from)) (same (is_spent_by from (take i inputs))))

none_taken : (p : Input → Bool) (inputs : List Input) (count : ℕ) → list_any p inputs ≡ false → list_any p (take count inputs) ≡ false
none_taken p inputs zero none = refl
none_taken p [] (suc count) none = refl
none_taken p (x ∷ xs) (suc count) none = at (p x) none (none_taken p xs count)
  where
    at : (c : Bool) → (c || list_any p xs) ≡ false → (list_any p xs ≡ false → list_any p (take count xs) ≡ false) → (c || list_any p (take count xs)) ≡ false
    at true none rest = none
    at false none rest = rest none

-- what was noted under the first inputs is taken back under all
pub as_before : (old mid new : Lists) (inputs : List Input) (number count : ℕ) → ((from : Outpoint) → All (λ m. m < number) (kept_at old from))
    → IsNoted old mid (take count inputs) number → IsForgotten (kept_at old) mid new inputs number → (from : Outpoint) → kept_at new from ≡ kept_at old from
as_before old mid new inputs number count below noted forgotten from =
    forgotten (record { below = below; partly = λ o. (is_spent_by o (take count inputs), noted o) }) from ∙ at (is_spent_by from inputs) refl
  where
    at : (c : Bool) → is_spent_by from inputs ≡ c → cond c (kept_at old from) (kept_at mid from) ≡ kept_at old from
    at true e = refl
    at false e =
        noted from
        ∙ ap (λ (c : Bool). kept_at old from ++ cond c (number ∷ []) []) (none_taken (λ (x : Input). is_same_outpoint from x.from) inputs count e)
        ∙ append-nil (kept_at old from)

-- what was noted under all inputs is taken back under all
pub as_before_all : (old mid new : Lists) (inputs : List Input) (number : ℕ) → ((from : Outpoint) → All (λ m. m < number) (kept_at old from))
    → IsNoted old mid inputs number → IsForgotten (kept_at old) mid new inputs number → (from : Outpoint) → kept_at new from ≡ kept_at old from
as_before_all old mid new inputs number below noted forgotten from =
    forgotten (record { below = below; partly = λ o. (is_spent_by o inputs, noted o) }) from ∙ at (is_spent_by from inputs) refl
  where
    at : (c : Bool) → is_spent_by from inputs ≡ c → cond c (kept_at old from) (kept_at mid from) ≡ kept_at old from
    at true e = refl
    at false e =
        noted from ∙ ap (λ (c : Bool). kept_at old from ++ cond c (number ∷ []) []) e ∙ append-nil (kept_at old from)
