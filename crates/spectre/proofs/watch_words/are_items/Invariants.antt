use Rattle.std.proofs.Common.{◌≡◌, length}
use Rattle.spectre.specs.WalletWords as meant
use Rattle.spectre.specs.Words.{texts}
use Rattle.spectre.proofs.watch_words.are_items.Given as goal

abbrev pub invariant-each : goal.invariant-each
invariant-each l = meant.are_items (texts l.words) ≡ meant.are_items (texts l.rest)

abbrev pub decreases-each : goal.decreases-each
decreases-each l = length l.rest
