-- The blocks that a scenario makes, found one after another.
use Rattle.std.proofs.Common.{◌≡◌, ℕ, zero, suc, ◌+◌, ◌-◌, ◌<◌, ◌≤◌, cond, List, [], ◌∷◌, ◌++◌, length, drop, Option, Some, None, refl, sym, ap, ◌∙◌, arith}
use Rattle.std.specs.Prelude.{slice_get}
use Rattle.std.proofs.Math.ListN.{drop_of_length-le}
use Rattle.std.proofs.lemmas.List.Recursion.{is_count_by}
use Rattle.std.proofs.lemmas.Option.{slice_get-get_or}
use Rattle.sp_play.specs.Known.{Entry, is_made, made_count}
use Rattle.sp_play.specs.Scene.{made_by, made_in}
use Rattle.sp_play.specs.declared.thing.Thing.{Thing}
use Rattle.sp_play.specs.declared.thing.Thing.TheVariants.{Genesis, Made, Tx}

counted_by : (thing : Thing) (name : List ℕ) → length (made_by (name, thing)) ≡ cond (is_made thing) 1 0
counted_by Genesis name = refl
counted_by (Made bytes) name = refl
counted_by (Tx named) name = refl

one_more : (entry : Entry) (entries : List Entry) → length (made_in (entry ∷ entries)) ≡ cond (is_made entry.1) (1 + length (made_in entries)) (length (made_in entries))
unfolding made_in
one_more entry entries = at entry.1
  where
    at : (thing : Thing) → length (made_by (entry.0, thing) ++ made_in entries) ≡ cond (is_made thing) (1 + length (made_in entries)) (length (made_in entries))
    at Genesis = refl
    at (Made bytes) = omega arith
    at (Tx named) = refl

pub counted : (entries : List Entry) → length (made_in entries) ≡ made_count entries
unfolding made_in
counted entries = is_count_by (λ (es : List Entry). length (made_in es)) (λ (entry : Entry). is_made entry.1) refl one_more entries

module _ (entry : Entry) (before rest : List Entry) (is : before ≡ entry ∷ rest) where
  pub first_made : (bytes : List ℕ) → entry.1 ≡ Made bytes → made_in before ≡ (entry.0, bytes) ∷ made_in rest
  unfolding made_in
  first_made bytes made = ap made_in is ∙ ap (λ (thing : Thing). made_by (entry.0, thing) ++ made_in rest) made

  pub not_made : ((bytes : List ℕ) → entry.1 ≡ Made bytes → ⊥) → made_in before ≡ made_in rest
  unfolding made_in
  not_made other = ap made_in is ∙ at entry.1 refl
    where
      at : (thing : Thing) → entry.1 ≡ thing → made_by (entry.0, thing) ++ made_in rest ≡ made_in rest
      at Genesis e = refl
      at (Made bytes) e = absurd (other bytes e)
      at (Tx named) e = refl

-- the first of some is the one that was looked for, or another one is
pub found : (x : List ℕ × List ℕ) (xs all rest : List (List ℕ × List ℕ)) (i left : ℕ) → all ≡ x ∷ xs → slice_get all left ≡ slice_get rest i → left ≡ 0 → slice_get rest i ≡ Some x
found x xs all rest i left is at zero_ = sym at ∙ ap (slice_get all) zero_ ∙ ap (λ (ys : List (List ℕ × List ℕ)). slice_get ys 0) is

pub further : (x : List ℕ × List ℕ) (xs all rest : List (List ℕ × List ℕ)) (i left : ℕ) → all ≡ x ∷ xs → slice_get all left ≡ slice_get rest i → 0 < left → slice_get xs (left - 1) ≡ slice_get rest i
further x xs all rest i zero is at more = absurd (omega arith)
further x xs all rest i (suc left) is at more = ap (slice_get xs) (let e : suc left - 1 ≡ left = omega arith in e) ∙ sym (ap (λ (ys : List (List ℕ × List ℕ)). slice_get ys (suc left)) is) ∙ at

-- where none is left, all were found
pub all_seen : (entries : List Entry) (place i left : ℕ) → length entries ≤ place → slice_get (made_in (drop place entries)) left ≡ slice_get (made_in entries) i → i < length (made_in entries) → ⊥
unfolding made_in
all_seen entries place i left past at lt =
    let none : slice_get (made_in entries) i ≡ None = sym at ∙ ap (λ (es : List Entry). slice_get (made_in es) left) (drop_of_length-le entries past) in
    nothing (sym (slice_get-get_or (made_in entries) i ([], []) lt) ∙ none)
  where
    nothing : {x : List ℕ × List ℕ} → ◌≡◌ {A = Option (List ℕ × List ℕ)} (Some x) None → ⊥
    nothing e = cc
