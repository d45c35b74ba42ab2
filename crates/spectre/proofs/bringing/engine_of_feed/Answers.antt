use Rattle.std.proofs.Common.{◌∙◌, ap, arith, refl}
use Rattle.std.proofs.lemmas.Result.{err_from_is_err_and}
use Rattle.sp_feed.specs.Reads.{moment}
use Rattle.sp_feed.proofs.WholeFeeds.{from_start, not_behind, opened}
use Rattle.spectre.proofs.BroughtBlocks.{head_fault, nothing_read}
use Rattle.spectre.proofs.bringing.engine_of_feed.Goals as goal

pub returns-in_err-reader-clause-brought : goal.returns-in_err-reader-clause-brought
returns-in_err-reader-clause-brought g c =
    let p = err_from_is_err_and c.from_residual.result c.from_residual.ensures.1 in
    let start = moment (g.S.Source.left c.args.source.now) (g.S.Source.faults c.args.source.now) 0 in
    rw (p.1, p.2) (0, nothing_read start (omega arith))

pub returns-in_err-head-clause-brought : goal.returns-in_err-head-clause-brought
returns-in_err-head-clause-brought g c =
    let p = err_from_is_err_and c.from_residual-in_err-head.result c.from_residual-in_err-head.ensures.1 in
    rw (p.1, p.2) (c.head.new.self.taken, head_fault _ (from_start (ap (λ r. r.limit) c.in_ok-reader.ensures) (ap (λ r. r.taken) c.in_ok-reader.ensures) c.in_err-head.ensures.gives))

pub bring_behind-requires-clause-limit : goal.bring_behind-requires-clause-limit
bring_behind-requires-clause-limit g c = c.in_ok-head.ensures.limit ∙ ap (λ r. r.limit) c.in_ok-reader.ensures

pub bring_behind-requires-clause-opened : goal.bring_behind-requires-clause-opened
bring_behind-requires-clause-opened g c = opened _ c.in_ok-head.ensures.ok

pub bring_behind-requires-clause-unended : goal.bring_behind-requires-clause-unended
bring_behind-requires-clause-unended g c = not_behind _ c.in_ok-head.ensures.ok

pub returns-clause-brought : goal.returns-clause-brought
returns-clause-brought g c =
    let start = moment (g.S.Source.left c.args.source.now) (g.S.Source.faults c.args.source.now) 0 in
    let gives = from_start (ap (λ r. r.limit) c.in_ok-reader.ensures) (ap (λ r. r.taken) c.in_ok-reader.ensures) c.in_ok-head.ensures.gives in
    (c.bring_behind.new.reader.taken, c.bring_behind.ensures.brought start refl gives)
