-- The entries that a view had, by those that were saved and those that it has.
use Rattle.std.proofs.Common.{◌≡◌, ℕ, zero, suc, ◌+◌, ◌<◌, ◌≤◌, List, [], ◌∷◌, ◌++◌, length, set, take, Option, Some, None, refl, sym, ap, ◌∙◌, arith}
use Rattle.std.specs.Prelude.{IsSome}
use Rattle.sp_view.specs.Saved.{either, patched}
use Rattle.sp_view.specs.Views.{entry_at, holds, held}

pub entry_nil : (i : ℕ) → entry_at [] i ≡ None
entry_nil zero = refl
entry_nil (suc i) = refl

pub length_patched : (saved entries : List (Option (ℕ × ℕ))) → length (patched saved entries) ≡ length saved
length_patched [] entries = refl
length_patched (s ∷ ss) [] = ap suc (length_patched ss [])
length_patched (s ∷ ss) (e ∷ es) = ap suc (length_patched ss es)

pub either_none : (s : Option (ℕ × ℕ)) → either s None ≡ s
either_none None = refl
either_none (Some e) = refl

either_twice : (s e : Option (ℕ × ℕ)) → either (either s e) e ≡ either s e
either_twice None None = refl
either_twice None (Some e) = refl
either_twice (Some s) e = refl

holds_either : (s e : Option (ℕ × ℕ)) (r : ℕ) → holds s r ≤ holds (either s e) r
holds_either None e r = omega arith
holds_either (Some s) e r = omega arith

-- what is saved is some of what was there
pub held_saved : (saved entries : List (Option (ℕ × ℕ))) (r : ℕ) → held saved r ≤ held (patched saved entries) r
held_saved [] entries r = omega arith
held_saved (s ∷ ss) [] r = (let rest = held_saved ss [] r in omega (arith, rest))
held_saved (s ∷ ss) (e ∷ es) r = (let rest = held_saved ss es r in omega (arith, rest, holds_either s e r))

pub either_holds : (s e : Option (ℕ × ℕ)) (r : ℕ) → holds (either s e) r ≤ holds s r + holds e r
either_holds None e r = omega arith
either_holds (Some s) e r = omega arith

-- and the rest stands there still
pub held_patched : (saved entries : List (Option (ℕ × ℕ))) (r : ℕ) → held (patched saved entries) r ≤ held saved r + held entries r
held_patched [] entries r = omega arith
held_patched (s ∷ ss) [] r = (let rest = held_patched ss [] r in omega (arith, rest))
held_patched (s ∷ ss) (e ∷ es) r = (let rest = held_patched ss es r in omega (arith, rest, either_holds s e r))

pub patched_at : (saved entries : List (Option (ℕ × ℕ))) (i : ℕ) → i < length saved → entry_at (patched saved entries) i ≡ either (entry_at saved i) (entry_at entries i)
patched_at [] entries i lt = absurd (omega (arith, lt))
patched_at (s ∷ ss) [] zero lt = sym (either_none s)
patched_at (s ∷ ss) [] (suc i) lt = patched_at ss [] i (omega (arith, lt)) ∙ ap (either (entry_at ss i)) (entry_nil i)
patched_at (s ∷ ss) (e ∷ es) zero lt = refl
patched_at (s ∷ ss) (e ∷ es) (suc i) lt = patched_at ss es i (omega (arith, lt))

-- where none is saved
pub patched_none : (saved entries : List (Option (ℕ × ℕ))) → length saved ≡ length entries → ((i : ℕ) → entry_at saved i ≡ None) → patched saved entries ≡ entries
patched_none [] [] long none = refl
patched_none [] (e ∷ es) long none = absurd (omega (arith, long))
patched_none (s ∷ ss) [] long none = absurd (omega (arith, long))
patched_none (s ∷ ss) (e ∷ es) long none =
    ap (λ (o : Option (ℕ × ℕ)). either o e ∷ patched ss es) (none 0) ∙ ap (λ (l : List (Option (ℕ × ℕ))). e ∷ l) (patched_none ss es (omega (arith, long)) (λ i. none (suc i)))

-- an entry is saved
pub patched_saved : (saved entries : List (Option (ℕ × ℕ))) (i : ℕ) → patched (set saved i (either (entry_at saved i) (entry_at entries i))) entries ≡ patched saved entries
patched_saved [] entries i = refl
patched_saved (s ∷ ss) [] zero = ap (λ (o : Option (ℕ × ℕ)). o ∷ patched ss []) (either_none s)
patched_saved (s ∷ ss) [] (suc i) =
    ap (λ (l : List (Option (ℕ × ℕ))). s ∷ l) (ap (λ (o : Option (ℕ × ℕ)). patched (set ss i (either (entry_at ss i) o)) []) (sym (entry_nil i)) ∙ patched_saved ss [] i)
patched_saved (s ∷ ss) (e ∷ es) zero = ap (λ (o : Option (ℕ × ℕ)). o ∷ patched ss es) (either_twice s e)
patched_saved (s ∷ ss) (e ∷ es) (suc i) = ap (λ (l : List (Option (ℕ × ℕ))). either s e ∷ l) (patched_saved ss es i)

-- a saved entry changes, or one that isn't saved
pub patched_set : (saved entries : List (Option (ℕ × ℕ))) (i : ℕ) (entry : Option (ℕ × ℕ)) → (i < length saved → IsSome (entry_at saved i)) → patched saved (set entries i entry) ≡ patched saved entries
patched_set [] entries i entry there = refl
patched_set (s ∷ ss) [] i entry there = refl
patched_set (s ∷ ss) (e ∷ es) zero entry there = ap (λ (o : Option (ℕ × ℕ)). o ∷ patched ss es) (by s (there (omega arith)))
  where
    by : (s : Option (ℕ × ℕ)) → IsSome s → either s entry ≡ either s e
    by None h = cc
    by (Some s) h = refl
patched_set (s ∷ ss) (e ∷ es) (suc i) entry there = ap (λ (l : List (Option (ℕ × ℕ))). either s e ∷ l) (patched_set ss es i entry (λ lt. there (omega (arith, lt))))

-- the first entries, where the last of them is set
pub take_set : (entries : List (Option (ℕ × ℕ))) (i : ℕ) (entry : Option (ℕ × ℕ)) → i < length entries → take (i + 1) (set entries i entry) ≡ take i entries ++ entry ∷ []
take_set [] i entry lt = absurd (omega (arith, lt))
take_set (e ∷ es) zero entry lt = refl
take_set (e ∷ es) (suc i) entry lt =
    (let more : suc i + 1 ≡ suc (i + 1) = omega arith in rw more (ap (λ (l : List (Option (ℕ × ℕ))). e ∷ l) (take_set es i entry (omega (arith, lt)))))
