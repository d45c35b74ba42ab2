use Rattle.std.proofs.Common.{◌≡◌, ◌++◌, length}
use Rattle.spectre.specs.WalletWords.{items_of}
use Rattle.spectre.specs.Words.{texts}
use Rattle.spectre.proofs.watch_words.items_of.Given as goal

abbrev pub invariant-each : goal.invariant-each
invariant-each l = l.items.items ++ items_of (texts l.rest) ≡ items_of (texts l.words)

abbrev pub decreases-each : goal.decreases-each
decreases-each l = length l.rest
