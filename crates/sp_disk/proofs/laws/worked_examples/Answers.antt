use Rattle.std.proofs.Common.{◌≡◌, inl, inr, ℕ, zero, suc, ◌<◌, ◌≤◌, [], ◌∷◌, get_or, take, refl, arith}
use Rattle.sp_form.specs.Bytes.{IsBytes}
use Rattle.sp_disk.specs.Examples.{amid, behind, calls}
use Rattle.sp_disk.specs.History.{state_after}
use Rattle.sp_disk.specs.Pending.{IsFree, IsImage}
use Rattle.sp_disk.proofs.laws.worked_examples.Goals as goal

part_bytes : IsBytes (1 ∷ 7 ∷ 200 ∷ 4 ∷ 5 ∷ [])
part_bytes zero = omega arith
part_bytes (suc zero) = omega arith
part_bytes (suc (suc zero)) = omega arith
part_bytes (suc (suc (suc zero))) = omega arith
part_bytes (suc (suc (suc (suc zero)))) = omega arith
part_bytes (suc (suc (suc (suc (suc place))))) = omega arith

apart : (place : ℕ) → 1 ≤ place → place < 4 → IsFree amid.pending place → ⊥
apart place low high (inl before, end) = omega arith
apart place low high (inr past, end) = omega arith

part_same : (place : ℕ) → place < 5 → IsFree amid.pending place → get_or (1 ∷ 7 ∷ 200 ∷ 4 ∷ 5 ∷ []) place 0 ≡ get_or amid.reads place 0
part_same zero inside free = refl
part_same (suc zero) inside free = absurd (apart 1 (omega arith) (omega arith) free)
part_same (suc (suc zero)) inside free = absurd (apart 2 (omega arith) (omega arith) free)
part_same (suc (suc (suc zero))) inside free = absurd (apart 3 (omega arith) (omega arith) free)
part_same (suc (suc (suc (suc zero)))) inside free = refl
part_same (suc (suc (suc (suc (suc place))))) inside free = absurd (omega arith)

pub returns-clause-part_done : goal.returns-clause-part_done
returns-clause-part_done c = record { bytes = part_bytes; no_shorter = omega arith; no_longer = omega arith; same = part_same }

between_bytes : IsBytes (1 ∷ 2 ∷ 99 ∷ [])
between_bytes zero = omega arith
between_bytes (suc zero) = omega arith
between_bytes (suc (suc zero)) = omega arith
between_bytes (suc (suc (suc place))) = omega arith

between_same : (place : ℕ) → place < 2 → IsFree behind.pending place → get_or (1 ∷ 2 ∷ 99 ∷ []) place 0 ≡ get_or behind.reads place 0
between_same zero inside free = refl
between_same (suc zero) inside free = refl
between_same (suc (suc place)) inside free = absurd (omega arith)

pub returns-clause-end_between : goal.returns-clause-end_between
returns-clause-end_between c = record { bytes = between_bytes; no_shorter = omega arith; no_longer = omega arith; same = between_same }

pub returns-clause-outside_kept : goal.returns-clause-outside_kept
returns-clause-outside_kept c image = absurd (omega (arith, image.same 4 (omega arith) (inr (omega arith), tt)))

pub returns-clause-no_shorter : goal.returns-clause-no_shorter
returns-clause-no_shorter c image = absurd (omega (arith, image.no_shorter))

pub returns-clause-no_longer : goal.returns-clause-no_longer
returns-clause-no_longer c image = absurd (omega (arith, image.no_longer))

start_bytes : IsBytes (1 ∷ 2 ∷ [])
start_bytes zero = omega arith
start_bytes (suc zero) = omega arith
start_bytes (suc (suc place)) = omega arith

pub returns-clause-left_before : goal.returns-clause-left_before
returns-clause-left_before c = record {
  moment = 0;
  from = omega arith;
  until = omega arith;
  left = record { bytes = start_bytes; no_shorter = omega arith; no_longer = omega arith; same = λ place inside free. refl };
}

late : (moment : ℕ) → 2 ≤ moment → moment ≤ 3 → IsImage (state_after (1 ∷ 2 ∷ []) (take moment calls)) (1 ∷ 2 ∷ []) → ⊥
late zero from until left = omega arith
late (suc zero) from until left = omega arith
late (suc (suc zero)) from until left = omega (arith, left.no_shorter)
late (suc (suc (suc zero))) from until left = omega (arith, left.no_shorter)
late (suc (suc (suc (suc moment)))) from until left = omega arith

pub returns-clause-not_since : goal.returns-clause-not_since
returns-clause-not_since c was = late was.moment was.from was.until was.left
