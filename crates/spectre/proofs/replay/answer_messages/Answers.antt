use Rattle.std.proofs.Common.{◌∙◌, [], Err, ap, arith, refl}
use Rattle.std.proofs.lemmas.Result.{err_from_is_err_and}
use Rattle.sp_feed.specs.Reads.{moment}
use Rattle.sp_feed.proofs.WholeFeeds.{from_start, not_behind, opened}
use Rattle.spectre.proofs.Replies.{head_fault, nothing_read, quiet_head}
use Rattle.spectre.proofs.replay.answer_messages.Goals as goal

pub returns-in_err-reader-clause-replies : goal.returns-in_err-reader-clause-replies
returns-in_err-reader-clause-replies g c =
    let p = err_from_is_err_and c.from_residual.result c.from_residual.ensures.1 in
    let start = moment (g.S.Source.left c.args.source.now) (g.S.Source.faults c.args.source.now) 0 in
    rw (p.1, p.2) (0, nothing_read [] start (g.K.Sink.taken c.args.sink.now) (omega arith))

pub returns-in_err-head-clause-replies : goal.returns-in_err-head-clause-replies
returns-in_err-head-clause-replies g c =
    let p = err_from_is_err_and c.from_residual-in_err-head.result c.from_residual-in_err-head.ensures.1 in
    rw (p.1, p.2) (c.head.new.self.taken, head_fault [] (g.K.Sink.taken c.args.sink.now) _ (from_start (ap (λ r. r.limit) c.in_ok-reader.ensures) (ap (λ r. r.taken) c.in_ok-reader.ensures) c.in_err-head.ensures.gives))

pub returns-in_err-head-clause-read_quiet : goal.returns-in_err-head-clause-read_quiet
returns-in_err-head-clause-read_quiet g c =
    let p = err_from_is_err_and c.from_residual-in_err-head.result c.from_residual-in_err-head.ensures.1 in
    rw (p.1, p.2) (λ other. quiet_head _ _ _ c.in_err-head.ensures.quiet (λ h. other (ap (λ t. Err t) h)))

pub answer_behind-requires-clause-limit : goal.answer_behind-requires-clause-limit
answer_behind-requires-clause-limit g c = c.in_ok-head.ensures.limit ∙ ap (λ r. r.limit) c.in_ok-reader.ensures

pub answer_behind-requires-clause-opened : goal.answer_behind-requires-clause-opened
answer_behind-requires-clause-opened g c = opened _ c.in_ok-head.ensures.ok

pub answer_behind-requires-clause-unended : goal.answer_behind-requires-clause-unended
answer_behind-requires-clause-unended g c = not_behind _ c.in_ok-head.ensures.ok

pub returns-clause-replies : goal.returns-clause-replies
returns-clause-replies g c =
    let start = moment (g.S.Source.left c.args.source.now) (g.S.Source.faults c.args.source.now) 0 in
    let gives = from_start (ap (λ r. r.limit) c.in_ok-reader.ensures) (ap (λ r. r.taken) c.in_ok-reader.ensures) c.in_ok-head.ensures.gives in
    (c.answer_behind.new.reader.taken, c.answer_behind.ensures.replies start refl gives)

pub returns-clause-read_quiet : goal.returns-clause-read_quiet
returns-clause-read_quiet g c = λ other. c.answer_behind.ensures.read_quiet other ∙ c.in_ok-head.ensures.quiet
