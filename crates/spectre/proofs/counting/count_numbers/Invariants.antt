use Rattle.std.proofs.Common.{◌≡◌, ◌*◌, drop, map}
use Rattle.sp_report.specs.Texts.{pairs_of}
use Rattle.spectre.specs.Numbering.{number_word}
use Rattle.spectre.specs.Summary.{added, AreUpTo, tally_of}
use Rattle.spectre.proofs.counting.count_numbers.Given as goal

abbrev pub invariant-place : goal.invariant-place
invariant-place l =
    let said = number_word l.engine.profile l.engine.kept in
    record {
      counted : added l.tally (map said (pairs_of (drop l.place l.numbers))) ≡ tally_of (map said (pairs_of l.numbers));
      bound : AreUpTo l.tally (512 * l.place);
    }
