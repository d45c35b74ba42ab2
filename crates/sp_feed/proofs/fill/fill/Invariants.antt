use Rattle.std.proofs.Common.{◌≡◌, ◌+◌, ◌-◌, ◌≤◌, take}
use Rattle.std.specs.Io.KnownBytes.{Consumes}
use Rattle.sp_feed.proofs.fill.fill.Given as goal

abbrev pub invariant-pieces : goal.invariant-pieces
invariant-pieces g l =
    let left = g.S.Source.left in let faults = g.S.Source.faults in
    record {
      within : l.filled ≤ l.wanted;
      counted : l.taken ≡ l.fn.taken + l.filled;
      bytes : Consumes (left l.fn.source) (left l.source) (take l.filled l.out);
      quiet : faults l.source ≡ faults l.fn.source;
      unasked : l.fn.taken ≡ l.limit → l.source ≡ l.fn.source;
    }

abbrev pub decreases-pieces : goal.decreases-pieces
decreases-pieces g l = l.wanted - l.filled
