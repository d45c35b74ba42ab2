use Rattle.std.proofs.Common.{◌≡◌, ◌++◌}
use Rattle.std.specs.Vec.Iter.{into_iter_items, into_iter_len}
use Rattle.spectre.proofs.behind_name.collected.Given as goal

abbrev pub invariant-each : goal.invariant-each
invariant-each l = l.words.items ++ into_iter_items l.rest ≡ into_iter_items l.fn.all

abbrev pub decreases-each : goal.decreases-each
decreases-each l = into_iter_len l.rest
