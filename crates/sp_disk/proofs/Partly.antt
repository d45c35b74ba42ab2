-- What stays of a list of bytes in each outcome of a write.
use Rattle.std.proofs.Common.{◌≡◌, inl, inr, ℕ, ◌+◌, ◌<◌, ◌≤◌, List, length, take, drop, refl, sym, ◌∙◌, arith, length-drop}
use Rattle.std.proofs.lemmas.List.{ext_get_or, get_or-take, get_or-drop, length-take}
use Rattle.sp_disk.specs.Images.{PartlyWritten}

-- a write that wasn't begun
pub unchanged : (at n : ℕ) (bytes : List ℕ) → PartlyWritten at n bytes bytes
unchanged at n bytes = record { no_shorter = omega arith; no_longer = omega arith; same = λ place inside apart. refl }

-- before the range
pub same_front : (at n p : ℕ) (old new : List ℕ) → PartlyWritten at n old new → p ≤ at → p ≤ length old → take p new ≡ take p old
same_front at n p old new torn low short =
    ext_get_or 0 (take p new) (take p old) (omega (arith, length-take p new, length-take p old, torn.no_shorter))
    (λ i inside.
    let below : i < p = omega (arith, length-take p new) in
    get_or-take p new i 0 below ∙ torn.same i (omega arith) (inl (omega arith)) ∙ sym (get_or-take p old i 0 below))

-- behind the range
pub same_back : (at n p : ℕ) (old new : List ℕ) → PartlyWritten at n old new → at + n ≤ p → p ≤ length old → drop p new ≡ drop p old
same_back at n p old new torn high short =
    let same_length : length new ≡ length old = omega (arith, torn.no_shorter, torn.no_longer) in
    ext_get_or 0 (drop p new) (drop p old) (omega (arith, length-drop p new, length-drop p old))
    (λ i inside.
    get_or-drop p new i 0 ∙ torn.same (p + i) (omega (arith, length-drop p new)) (inr (omega arith)) ∙ sym (get_or-drop p old i 0))
