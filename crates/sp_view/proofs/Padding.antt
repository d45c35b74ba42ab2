-- Saved entries, of which only those up to the last one are kept.
use Rattle.std.proofs.Common.{◌≡◌, ◌∙◌, ℕ, zero, suc, ◌<◌, ◌≤◌, List, [], ◌∷◌, length, set, take, Option, None, refl, sym, ap, arith}
use Rattle.std.proofs.lemmas.List.{ext_get_or, get_or-take, length-take-le}
use Rattle.sp_view.specs.Padded.{padded}
use Rattle.sp_view.specs.Saved.{either, patched}
use Rattle.sp_view.specs.Views.{entry_at, held}
use Rattle.sp_view.proofs.Patched.{entry_nil, length_patched, patched_at}

-- ---- with none behind them

pub length_padded : (n : ℕ) (entries : List (Option (ℕ × ℕ))) → length (padded n entries) ≡ n
length_padded zero entries = refl
length_padded (suc n) [] = ap suc (length_padded n [])
length_padded (suc n) (e ∷ es) = ap suc (length_padded n es)

pub padded_at : (n : ℕ) (entries : List (Option (ℕ × ℕ))) (i : ℕ) → i < n → entry_at (padded n entries) i ≡ entry_at entries i
padded_at zero entries i lt = absurd (omega (arith, lt))
padded_at (suc n) [] zero lt = refl
padded_at (suc n) [] (suc i) lt = padded_at n [] i (omega (arith, lt)) ∙ entry_nil i ∙ sym (entry_nil (suc i))
padded_at (suc n) (e ∷ es) zero lt = refl
padded_at (suc n) (e ∷ es) (suc i) lt = padded_at n es i (omega (arith, lt))

pub padded_none : (n i : ℕ) → entry_at (padded n []) i ≡ None
padded_none zero i = entry_nil i
padded_none (suc n) zero = refl
padded_none (suc n) (suc i) = padded_none n i

pub held_padded : (n : ℕ) (entries : List (Option (ℕ × ℕ))) (r : ℕ) → length entries ≤ n → held (padded n entries) r ≡ held entries r
held_padded zero [] r le = refl
held_padded zero (e ∷ es) r le = absurd (omega (arith, le))
held_padded (suc n) [] r le = (let rest = held_padded n [] r (omega arith) in omega (arith, rest))
held_padded (suc n) (e ∷ es) r le = (let rest = held_padded n es r (omega (arith, le)) in omega (arith, rest))

pub padded_same : (n : ℕ) (entries entries' : List (Option (ℕ × ℕ))) → ((i : ℕ) → entry_at entries i ≡ entry_at entries' i) → padded n entries ≡ padded n entries'
padded_same n entries entries' same =
    ext_get_or None (padded n entries) (padded n entries') (length_padded n entries ∙ sym (length_padded n entries'))
    (λ i lt. (let less : i < n = omega (arith, lt, length_padded n entries) in padded_at n entries i less ∙ same i ∙ sym (padded_at n entries' i less)))

pub padded_set : (n : ℕ) (entries : List (Option (ℕ × ℕ))) (i : ℕ) (entry : Option (ℕ × ℕ)) → i < length entries → padded n (set entries i entry) ≡ set (padded n entries) i entry
padded_set zero entries i entry lt = refl
padded_set (suc n) [] i entry lt = absurd (omega (arith, lt))
padded_set (suc n) (e ∷ es) zero entry lt = refl
padded_set (suc n) (e ∷ es) (suc i) entry lt = ap (λ (l : List (Option (ℕ × ℕ))). e ∷ l) (padded_set n es i entry (omega (arith, lt)))

-- the entries where those that were saved stand again
pub patched_padded : (n : ℕ) (saved was now : List (Option (ℕ × ℕ))) → n ≤ length now → ((i : ℕ) → entry_at now i ≡ either (entry_at saved i) (entry_at was i))
    → take n now ≡ patched (padded n saved) was
patched_padded n saved was now long put =
    ext_get_or None (take n now) (patched (padded n saved) was) (length-take-le n now long ∙ sym (length_padded n saved) ∙ sym (length_patched (padded n saved) was))
    (λ i lt.
    (let less : i < n = omega (arith, lt, length-take-le n now long) in
    get_or-take n now i None less ∙ put i ∙ ap (λ (o : Option (ℕ × ℕ)). either o (entry_at was i)) (sym (padded_at n saved i less))
    ∙ sym (patched_at (padded n saved) was i (omega (arith, less, length_padded n saved)))))

-- ---- the parts of what is saved

module _ (n : ℕ) (entries saved : List (Option (ℕ × ℕ))) (is : padded n entries ≡ saved) where
  pub long_is : length saved ≡ n
  long_is = sym (ap length is) ∙ length_padded n entries

  pub held_is : (r : ℕ) → length entries ≤ n → held entries r ≡ held saved r
  held_is r le = sym (held_padded n entries r le) ∙ ap (λ (l : List (Option (ℕ × ℕ))). held l r) is

  -- with more entries, of which none is saved
  pub grown_is : (grown : List (Option (ℕ × ℕ))) → ((i : ℕ) → entry_at grown i ≡ entry_at entries i) → padded n grown ≡ saved
  grown_is grown same = padded_same n grown entries same ∙ is

  pub entry_is : (i : ℕ) → i < n → entry_at saved i ≡ entry_at entries i
  entry_is i lt = ap (λ (l : List (Option (ℕ × ℕ))). entry_at l i) (sym is) ∙ padded_at n entries i lt

  pub set_is : (i : ℕ) (entry : Option (ℕ × ℕ)) → i < length entries → padded n (set entries i entry) ≡ set saved i entry
  set_is i entry lt = padded_set n entries i entry lt ∙ ap (λ (l : List (Option (ℕ × ℕ))). set l i entry) is
