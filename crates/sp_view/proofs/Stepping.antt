-- An entry takes the place of another one: both rows are written, or none is.
use Rattle.std.proofs.Common.{◌≡◌, ℕ, ◌+◌, ◌<◌, ◌≤◌, Option, Some, None, refl, ◌∙◌, arith}
use Rattle.sp_rows.specs.Pool.{Pool}
use Rattle.sp_view.specs.Steps.{IsStep, IsWritten}
use Rattle.sp_view.specs.Stored.{count_of, live, row_of, spare}
use Rattle.sp_view.specs.Views.{holds}
use Rattle.sp_view.proofs.TwoRows.{first_lives, first_stays, once_new, once_of, one, one_if, others_stay, second_before, some_second}

module _ (p0 p1 p2 : Pool) (p m p' m' : ℕ) (first : IsWritten p0 p1 p p') (second : IsWritten p1 p2 m m') (counted : (r : ℕ) → one r p + one r m ≤ count_of p0 r) where
  pub step_written : IsStep p0 p2 (Some (p, m)) (Some (p', m'))
  step_written = record {
    counts = λ r. omega (arith, first.counts r, second.counts r);
    others = others_stay (count_of p0) (count_of p1) (row_of p0) (row_of p1) (row_of p2) p m p' first.counts first.others second.others counted first.fresh;
    alive = λ r h. second.alive r (first.alive r h);
    once = once_of (count_of p0) (count_of p1) p m p' m' first.fresh second.fresh first.alive
        (first_lives (count_of p0) (count_of p1) (row_of p0) (row_of p1) (row_of p2) p m p' first.counts first.others second.others counted first.fresh)
        (some_second (p, m) (count_of p0) counted);
    spare = omega (arith, first.spare, second.spare);
    live = omega (arith, first.live, second.live);
  }

  -- the first row stays as it was written, and the second one until then
  pub written_first : row_of p2 p' ≡ row_of p1 p'
  written_first = first_stays (count_of p0) (count_of p1) (row_of p0) (row_of p1) (row_of p2) p m p' first.counts first.others second.others counted first.fresh

module _ (p0 p1 : Pool) (p m p' : ℕ) (first : IsWritten p0 p1 p p') (counted : (r : ℕ) → one r p + one r m ≤ count_of p0 r) where
  pub second_waits : row_of p1 m ≡ row_of p0 m
  second_waits = second_before (count_of p0) (count_of p1) (row_of p0) (row_of p1) (row_of p1) p m p' first.counts first.others (λ r _ _. refl) counted first.fresh

pub step_itself : (pool : Pool) (entry : Option (ℕ × ℕ)) → ((r : ℕ) → holds entry r ≤ count_of pool r) → IsStep pool pool entry entry
step_itself pool entry counted = record {
  counts = λ r. refl;
  others = λ r _. refl;
  alive = λ r h. h;
  once = λ r. (λ _. omega arith, λ none. omega (arith, none, counted r));
  spare = omega arith;
  live = omega arith;
}

-- two new rows
pub step_new : (p0 p1 p2 : Pool) (p' m' : ℕ) → count_of p0 p' ≡ 0 → count_of p1 m' ≡ 0 → ((r : ℕ) → count_of p1 r ≡ count_of p0 r + one r p')
    → ((r : ℕ) → count_of p2 r ≡ count_of p1 r + one r m') → ((r : ℕ) → 0 < count_of p0 r → row_of p1 r ≡ row_of p0 r) → ((r : ℕ) → 0 < count_of p1 r → row_of p2 r ≡ row_of p1 r)
    → spare p1 + 1 ≡ spare p0 → spare p2 + 1 ≡ spare p1 → live p1 ≡ live p0 + 1 → live p2 ≡ live p1 + 1 → IsStep p0 p2 None (Some (p', m'))
step_new p0 p1 p2 p' m' fresh fresh' counts counts' others others' s s' l l' = record {
  counts = λ r. omega (arith, counts r, counts' r);
  others = λ r h. others' r (omega (arith, counts r, h)) ∙ others r h;
  alive = λ r h. omega (arith, counts r, counts' r, h);
  once = once_new (count_of p0) (count_of p1) p' m' fresh fresh' (λ r h. omega (arith, counts r, h)) (omega (arith, counts p', one_if p' p' refl));
  spare = omega (arith, s, s');
  live = omega (arith, l, l');
}
