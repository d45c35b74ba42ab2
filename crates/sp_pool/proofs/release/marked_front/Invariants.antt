use Rattle.std.proofs.Common.{◌≡◌, ◌-◌, ℕ, List, length, take, true}
use Rattle.std.specs.List.{list_all}
use Rattle.sp_model.specs.Graph.{has}
use Rattle.sp_pool.specs.Marks.{Marks}
use Rattle.sp_pool.proofs.release.marked_front.Given as goal

abbrev pub invariant-front : goal.invariant-front
invariant-front l = (set : List ℕ) → Marks l.entries set → list_all (has set) (take l.known l.ids) ≡ true → list_all (has set) (take l.front l.ids) ≡ true

abbrev pub decreases-front : goal.decreases-front
decreases-front l = length l.ids - l.front
