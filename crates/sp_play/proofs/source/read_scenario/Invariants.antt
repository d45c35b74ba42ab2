use Rattle.std.proofs.Common.{◌-◌, ◌≡◌, ◌≤◌, vec_len}
use Rattle.std.specs.Io.KnownBytes.{Consumes}
use Rattle.sp_play.specs.Source.{scenario_limit}
use Rattle.sp_play.proofs.source.read_scenario.Given as goal

abbrev pub invariant-pieces : goal.invariant-pieces
invariant-pieces g l =
    let left = g.S.Source.left in let faults = g.S.Source.faults in
    record {
      limit : l.limit ≡ scenario_limit;
      within : vec_len l.text ≤ scenario_limit;
      bytes : Consumes (left l.fn.source) (left l.source) l.text.items;
      quiet : faults l.source ≡ faults l.fn.source;
    }

abbrev pub decreases-pieces : goal.decreases-pieces
decreases-pieces g l = scenario_limit - vec_len l.text
