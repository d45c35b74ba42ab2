use Rattle.std.proofs.Common.{◌∙◌, List, ℕ, Option, ap, arith}
use Rattle.sp_view.specs.Views.{entry_at, held}
use Rattle.sp_view.proofs.Held.{entry_pushed, held_pushed}
use Rattle.sp_view.proofs.last_pair.grow.Goals as goal

pub entries-preserved : goal.entries-preserved
entries-preserved c = record {
  long = omega (arith, c.push_reserved.ensures.len);
  room = omega (arith, c.push_reserved.ensures.capacity);
  capacity = omega (arith, c.push_reserved.ensures.capacity, c.entries.invariant.capacity);
  entry = λ i. ap (λ (l : List (Option (ℕ × ℕ))). entry_at l i) c.push_reserved.ensures.items ∙ entry_pushed c.entries.entries.items i ∙ c.entries.invariant.entry i;
  held = λ r. ap (λ (l : List (Option (ℕ × ℕ))). held l r) c.push_reserved.ensures.items ∙ held_pushed c.entries.entries.items r ∙ c.entries.invariant.held r;
}
