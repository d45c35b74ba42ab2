use Rattle.std.proofs.Common.{sym, ap, ◌∙◌}
use Rattle.sp_bits.specs.Words.{words_of, words_of_places}
use Rattle.sp_bits.proofs.row.Row.words.Goals as goal

pub returns-clause-words : goal.returns-clause-words
returns-clause-words c = sym (words_of_places c.self.inside.words c.self.invariant) ∙ ap words_of c.self.view_is
