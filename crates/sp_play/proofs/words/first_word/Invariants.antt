use Rattle.std.proofs.Common.{◌≡◌, option_copied}
use Rattle.sp_play.specs.Words.{parts_left, words_among, words_of}
use Rattle.sp_play.proofs.Cutting.{room}
use Rattle.sp_play.proofs.words.first_word.Given as goal

abbrev pub invariant-parts : goal.invariant-parts
invariant-parts l = words_among (parts_left (option_copied l.rest)) ≡ words_of l.line

abbrev pub decreases-parts : goal.decreases-parts
decreases-parts l = room (option_copied l.rest)
