use Rattle.std.proofs.Common.{◌≡◌, ◌<◌, length, ◌∙◌, rules}
use Rattle.std.proofs.lemmas.Result.{err_from_is_err_and}
use Rattle.sp_block.specs.Reading.{parts_in}
use Rattle.sp_block.specs.Spelling.{long}
use Rattle.sp_block.proofs.Whole.{all_spelled, first_found, steps_are, trails}
use Rattle.sp_block.proofs.read.content.Goals as goal

pub returns-then-bytes-gt-LONGEST-clause-fault : goal.returns-then-bytes-gt-LONGEST-clause-fault
returns-then-bytes-gt-LONGEST-clause-fault c = long c.if-bytes-gt-LONGEST.true

pub returns-in_err-content-clause-fault : goal.returns-in_err-content-clause-fault
returns-in_err-content-clause-fault c =
    let p = err_from_is_err_and c.from_residual.result c.from_residual.ensures.1 in
    rw (p.1, p.2) (first_found c.args.bytes.now c.args.genesis c.in_err-content.field-0.0 c.if-bytes-gt-LONGEST.false (rw c.new-reader.ensures.all at c.in_err-content.ensures.read))

pub returns-then-not-is_empty-clause-fault : goal.returns-then-not-is_empty-clause-fault
returns-then-not-is_empty-clause-fault c =
    let some : 0 < length c.block.new.self = search rules in
    trails c.args.bytes.now c.args.genesis (parts_in c.in_ok-content.content) c.block.new.self c.if-bytes-gt-LONGEST.false (steps_are c.args.genesis c.args.bytes.now ∙ rw c.new-reader.ensures.all at c.in_ok-content.ensures.read) some

pub returns-clause-found : goal.returns-clause-found
returns-clause-found c =
    let none : length c.block.new.self ≡ 0 = search rules in
    all_spelled c.args.bytes.now c.args.genesis (parts_in c.in_ok-content.content) c.block.new.self c.if-bytes-gt-LONGEST.false (steps_are c.args.genesis c.args.bytes.now ∙ rw c.new-reader.ensures.all at c.in_ok-content.ensures.read) none
