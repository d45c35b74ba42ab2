use Rattle.std.proofs.Common.{◌≡◌, length}
use Rattle.spectre.specs.WalletWords as meant
use Rattle.spectre.specs.Words.{texts}
use Rattle.spectre.proofs.spend_words.are_words.Given as goal

abbrev pub invariant-each : goal.invariant-each
invariant-each l = meant.are_words (texts l.words) ≡ meant.are_words (texts l.rest)

abbrev pub decreases-each : goal.decreases-each
decreases-each l = length l.rest
