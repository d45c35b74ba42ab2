use Rattle.std.proofs.Common.{◌≡◌, ◌+◌, drop}
use Rattle.spectre.specs.Numbering.{number_word}
use Rattle.spectre.specs.Summary.{added, AreUpTo}
use Rattle.spectre.proofs.Tallies.{votes}
use Rattle.spectre.proofs.counting.count_votes.Given as goal

abbrev pub invariant-other : goal.invariant-other
invariant-other l =
    let said = number_word l.engine.profile l.engine.kept in
    record {
      counted : added l.tally (votes said l.first (drop l.other-index l.others)) ≡ added l.fn.before (votes said l.first l.others);
      bound : AreUpTo l.tally (1048576 + l.other-index);
    }
