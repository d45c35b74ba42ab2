use Rattle.std.proofs.Common.{◌≡◌, length}
use Rattle.spectre.specs.WalletWords as meant
use Rattle.spectre.specs.Words.{texts}
use Rattle.spectre.proofs.spend_words.stands_in.Given as goal

abbrev pub invariant-each : goal.invariant-each
invariant-each l = meant.stands_in (texts l.words) l.word ≡ meant.stands_in (texts l.rest) l.word

abbrev pub decreases-each : goal.decreases-each
decreases-each l = length l.rest
