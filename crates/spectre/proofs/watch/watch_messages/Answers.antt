use Rattle.std.proofs.Common.{◌∙◌, Err, ap, arith, refl}
use Rattle.std.proofs.lemmas.Result.{err_from_is_err_and}
use Rattle.sp_feed.specs.Reads.{moment}
use Rattle.sp_feed.proofs.WholeFeeds.{from_start, not_behind, opened}
use Rattle.spectre.proofs.Replies.{quiet_head}
use Rattle.spectre.proofs.WatchedFeeds.{head_fault, nothing_read}
use Rattle.spectre.proofs.watch.watch_messages.Goals as goal

pub returns-in_err-reader-clause-watches : goal.returns-in_err-reader-clause-watches
returns-in_err-reader-clause-watches g c =
    let p = err_from_is_err_and c.from_residual.result c.from_residual.ensures.1 in
    let start = moment (g.S.Source.left c.args.source.now) (g.S.Source.faults c.args.source.now) 0 in
    rw (p.1, p.2) (0, nothing_read c.args.items.now start (g.K.Sink.taken c.args.sink.now) (omega arith))

pub returns-in_err-head-clause-watches : goal.returns-in_err-head-clause-watches
returns-in_err-head-clause-watches g c =
    let p = err_from_is_err_and c.from_residual-in_err-head.result c.from_residual-in_err-head.ensures.1 in
    rw (p.1, p.2) (c.head.new.self.taken, head_fault c.args.items.now _ (from_start (ap (λ r. r.limit) c.in_ok-reader.ensures) (ap (λ r. r.taken) c.in_ok-reader.ensures) c.in_err-head.ensures.gives))

pub returns-in_err-head-clause-read_quiet : goal.returns-in_err-head-clause-read_quiet
returns-in_err-head-clause-read_quiet g c =
    let p = err_from_is_err_and c.from_residual-in_err-head.result c.from_residual-in_err-head.ensures.1 in
    rw (p.1, p.2) (λ other. quiet_head _ _ _ c.in_err-head.ensures.quiet (λ h. other (ap (λ t. Err t) h)))

pub watch_behind-requires-clause-limit : goal.watch_behind-requires-clause-limit
watch_behind-requires-clause-limit g c = c.in_ok-head.ensures.limit ∙ ap (λ r. r.limit) c.in_ok-reader.ensures

pub watch_behind-requires-clause-opened : goal.watch_behind-requires-clause-opened
watch_behind-requires-clause-opened g c = opened _ c.in_ok-head.ensures.ok

pub watch_behind-requires-clause-unended : goal.watch_behind-requires-clause-unended
watch_behind-requires-clause-unended g c = not_behind _ c.in_ok-head.ensures.ok

pub returns-clause-watches : goal.returns-clause-watches
returns-clause-watches g c =
    let start = moment (g.S.Source.left c.args.source.now) (g.S.Source.faults c.args.source.now) 0 in
    let gives = from_start (ap (λ r. r.limit) c.in_ok-reader.ensures) (ap (λ r. r.taken) c.in_ok-reader.ensures) c.in_ok-head.ensures.gives in
    (c.watch_behind.new.reader.taken, c.watch_behind.ensures.watches start refl gives)

pub returns-clause-read_quiet : goal.returns-clause-read_quiet
returns-clause-read_quiet g c = λ other. c.watch_behind.ensures.read_quiet other ∙ c.in_ok-head.ensures.quiet
