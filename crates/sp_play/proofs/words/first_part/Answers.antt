use Rattle.std.proofs.Common.{◌+◌, ◌∙◌, refl, sym}
use Rattle.std.proofs.lemmas.List.{take_rest}
use Rattle.sp_play.specs.Words.{is_blank}
use Rattle.sp_play.proofs.Splitting.{slice_split_found, slice_split_whole}
use Rattle.sp_play.proofs.words.first_part.Goals as goal

pub returns-in-Some-clause-parts : goal.returns-in-Some-clause-parts
returns-in-Some-clause-parts c =
    let line = c.args.line.now in
    let end = c.in-Some.end in
    slice_split_found is_blank line end 0 (sym c.in-Some.ensures) ∙ rw (take_rest line (end + 1)) refl

pub returns-in-None-clause-parts : goal.returns-in-None-clause-parts
returns-in-None-clause-parts c = slice_split_whole is_blank c.args.line.now (sym c.in-None.ensures)
