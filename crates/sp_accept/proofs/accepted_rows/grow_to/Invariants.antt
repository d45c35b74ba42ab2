use Rattle.std.proofs.Common.{◌≡◌, ◌+◌, ◌-◌, ℕ, None, length, slice_index_or}
use Rattle.sp_accept.proofs.accepted_rows.grow_to.Given as goal

abbrev pub invariant-places : goal.invariant-places
invariant-places l = (u : ℕ) → slice_index_or l.places.items u None ≡ slice_index_or l.fn.places.items u None

abbrev pub decreases-places : goal.decreases-places
decreases-places l = l.tx + 1 - length l.places.items
