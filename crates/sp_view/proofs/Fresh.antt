-- The rows of new entries weren't live before, and are held once.
use Rattle.std.proofs.Common.{◌≡◌, ◌≢◌, ◌⊎◌, ℕ, zero, suc, ◌+◌, ◌<◌, ◌≤◌, List, length, set, Option, Some, None, refl, sym, ap, subst, ◌∙◌, inl, inr, arith, get_or-set_same, get_or-set_other}
use Rattle.std.specs.Prelude.{IfSome}
use Rattle.std.proofs.lemmas.Bool.{cases_eq, cases_lt}
use Rattle.sp_rows.specs.Pool.{Pool}
use Rattle.sp_view.specs.Stored.{count_of}
use Rattle.sp_view.specs.Views.{entry_at, holds, held, IsFresh, AreFresh}
use Rattle.sp_view.proofs.Held.{holds_two}
use Rattle.sp_view.proofs.TwoRows.{one_if}

if_none : (entry : Option (ℕ × ℕ)) (P : ℕ × ℕ → Type 0) → entry ≡ None → IfSome entry P
if_none None P e = tt
if_none (Some x) P e = (cc)

pub fresh_none : (entries : List (Option (ℕ × ℕ))) (pool : Pool) → AreFresh entries entries pool pool
fresh_none entries pool i none = if_none (entry_at entries i) (IsFresh pool pool) none

if_map : (entry : Option (ℕ × ℕ)) (P Q : ℕ × ℕ → Type 0) → ((e : ℕ × ℕ) → entry ≡ Some e → P e → Q e) → IfSome entry P → IfSome entry Q
if_map None P Q f h = h
if_map (Some e) P Q f h = f e refl h

-- a count of 0 was 0 before, since no live row dies
was_none : (before now : ℕ) → (0 < before → 0 < now) → now ≡ 0 → before ≡ 0
was_none zero now alive none = refl
was_none (suc n) now alive none = absurd (let some : 0 < now = alive (omega arith) in omega arith)

pub fresh_step : (first entries : List (Option (ℕ × ℕ))) (i : ℕ) (result : Option (ℕ × ℕ)) (start pool pool' : Pool) → i < length entries
    → entry_at entries i ≡ entry_at first i → ((r : ℕ) → held entries r ≤ count_of pool r) → ((r : ℕ) → 0 < count_of start r → 0 < count_of pool r)
    → ((r : ℕ) → holds (entry_at entries i) r ≡ 0 → holds result r ≡ 0 → count_of pool' r ≡ count_of pool r)
    → ((r : ℕ) → 0 < holds result r → (0 < holds (entry_at entries i) r) ⊎ (count_of pool r ≡ 0))
    → (entry_at entries i ≡ None → IfSome result (IsFresh pool pool'))
    → AreFresh first entries start pool → AreFresh first (set entries i result) start pool'
fresh_step first entries i result start pool pool' lt unturned enough alive still results fresh known j none =
    elim (cases_eq j i) [
      | inl same ↦ rw (same, get_or-set_same entries i result None lt)
          (if_map result (IsFresh pool pool') (IsFresh start pool')
          (λ e _ is. (was_none (count_of start e.0) (count_of pool e.0) (alive e.0) is.0, was_none (count_of start e.1) (count_of pool e.1) (alive e.1) is.1, is.2, is.3))
          (fresh (unturned ∙ ap (entry_at first) (sym same) ∙ none)))
      | inr other ↦ rw (get_or-set_other entries i j result None other)
          (if_map (entry_at entries j) (IsFresh start pool) (IsFresh start pool')
          (λ e at is. (
            is.0,
            is.1,
            once other e.0 (first_held e (subst (λ (o : Option (ℕ × ℕ)). holds o e.0 ≡ holds (entry_at entries j) e.0) at refl)) is.2,
            once other e.1 (second_held e (subst (λ (o : Option (ℕ × ℕ)). holds o e.1 ≡ holds (entry_at entries j) e.1) at refl)) is.3,
          ))
          (known j none))
    ]
  where
    first_held : (e : ℕ × ℕ) → holds (Some e) e.0 ≡ holds (entry_at entries j) e.0 → 0 < holds (entry_at entries j) e.0
    first_held e is = omega (arith, one_if e.0 e.0 refl)

    second_held : (e : ℕ × ℕ) → holds (Some e) e.1 ≡ holds (entry_at entries j) e.1 → 0 < holds (entry_at entries j) e.1
    second_held e is = omega (arith, one_if e.1 e.1 refl)

    -- a row that another entry holds, once in all, is still held once
    once : j ≢ i → (r : ℕ) → 0 < holds (entry_at entries j) r → count_of pool r ≡ 1 → count_of pool' r ≡ 1
    once other r some one =
        let apart : holds (entry_at entries i) r + holds (entry_at entries j) r ≤ held entries r = holds_two entries i j r (λ e. other (sym e)) in
        let out : holds (entry_at entries i) r ≡ 0 = omega (arith, enough r) in
        elim (cases_lt 0 (holds result r)) [
          | inl more ↦ elim (results r more) [
            | inl inside ↦ absurd (omega arith)
            | inr dead ↦ absurd (omega arith)
          ]
          | inr nothing ↦ (let same : count_of pool' r ≡ count_of pool r = still r out (omega (arith, nothing)) in same ∙ one)
        ]
