use Rattle.std.proofs.Common.{◌≡◌, ◌≤◌, ◌+◌, ◌++◌, length, true}
use Rattle.spectre.specs.WalletWords.{are_words}
use Rattle.spectre.specs.Words.{texts}
use Rattle.spectre.proofs.spend_words.preimages_of.Given as goal

abbrev pub invariant-each : goal.invariant-each
invariant-each l = record {
  all : l.preimages ++ texts l.rest ≡ texts l.words;
  right : are_words (texts l.rest) ≡ true;
  few : length l.preimages + length l.rest ≤ 16;
}

abbrev pub decreases-each : goal.decreases-each
decreases-each l = length l.rest
