use Rattle.std.proofs.Common.{◌≡◌, ◌<◌, Bool, List, length}
use Rattle.std.specs.Prelude.{All}
use Rattle.sp_accept.specs.Todo.{all_turned}
use Rattle.sp_accept.proofs.settle.turn_back.Given as goal

abbrev pub invariant-turned : goal.invariant-turned
invariant-turned l = record {
  within : All (λ c. c < length l.flags.items) l.turned.items;
  back : (start : List Bool) → l.fn.flags.items ≡ all_turned start l.fn.turned.items → l.flags.items ≡ all_turned start l.turned.items;
}

abbrev pub decreases-turned : goal.decreases-turned
decreases-turned l = length l.turned.items
