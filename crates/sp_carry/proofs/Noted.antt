-- What one more element of a list adds to a set of numbers.
use Rattle.std.proofs.Common.{◌≡◌, ℕ, Bool, true, false, ◌+◌, ◌<◌, ◌||◌, List, [], ◌∷◌, ◌++◌, take, length, get_or, refl, sym, ap, ◌∙◌}
use Rattle.std.specs.List.{list_any}
use Rattle.std.proofs.lemmas.List.{take_more}
use Rattle.std.proofs.lemmas.List.Folds.{list_any-append}
use Rattle.sp_carry.specs.Rivals.{has_number, IsNotedBy, Set}

pub or_more : (a b c : Bool) → ((a || b) || c) ≡ (a || (b || (c || false)))
or_more true b c = refl
or_more false true c = refl
or_more false false true = refl
or_more false false false = refl

pub noted_by_more : {A : Type 0} (test : A → ℕ → Bool) (old mid new : Set) (list : List A) (i : ℕ) (x : A) → i < length list → x ≡ get_or list i x
    → IsNotedBy (λ d. list_any (λ y. test y d) (take i list)) old mid → IsNotedBy (test x) mid new
    → IsNotedBy (λ d. list_any (λ y. test y d) (take (i + 1) list)) old new
noted_by_more {A} test old mid new list i x lt is before now d =
    now d
    ∙ ap (λ (b : Bool). b || test x d) (before d)
    ∙ or_more (has_number old d) (list_any (λ y. test y d) (take i list)) (test x d)
    ∙ ap (λ (b : Bool). has_number old d || b)
    (sym (ap (list_any (λ y. test y d)) (take_more list i x lt ∙ ap (λ (y : A). take i list ++ y ∷ []) (sym is))
    ∙ list_any-append (λ y. test y d) (take i list) (x ∷ [])))
