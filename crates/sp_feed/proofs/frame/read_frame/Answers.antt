use Rattle.std.proofs.Common.{◌≡◌, ℕ, List, refl, sym, ap, ◌++◌, [], length, take, drop, arith}
use Rattle.std.proofs.lemmas.Grind.{common_steps}
use Rattle.std.proofs.lemmas.List.{take_at}
use Rattle.std.proofs.lemmas.Result.{err_from_is_err_and}
use Rattle.sp_feed.specs.Format.{frame_form}
use Rattle.sp_feed.specs.Kinds.{said}
use Rattle.sp_feed.proofs.Joining.{reads_last, reads_stop, reads_then}
use Rattle.sp_feed.proofs.Reading.{reads_field, reads_short}
use Rattle.sp_feed.proofs.frame.read_frame.Goals as goal

pub returns-in_err-kind-clause-reads : goal.returns-in_err-kind-clause-reads
unfolding frame_form
returns-in_err-kind-clause-reads g c =
    let p = err_from_is_err_and c.from_residual.result c.from_residual.ensures.1 in
    rw (p.1, p.2) (reads_stop _ c.in_err-kind.ensures.reads)

pub returns-in_err-length-clause-reads : goal.returns-in_err-length-clause-reads
unfolding frame_form
returns-in_err-length-clause-reads g c =
    let p = err_from_is_err_and c.from_residual-in_err-length.result c.from_residual-in_err-length.ensures.1 in
    rw (p.1, p.2) (reads_then _ c.in_ok-kind.ensures.reads (reads_stop _ c.in_err-length.ensures.reads))

pub returns-in_err-fill-clause-reads : goal.returns-in_err-fill-clause-reads
unfolding frame_form
returns-in_err-fill-clause-reads g c =
    let p = err_from_is_err_and c.from_residual-in_err-fill.result c.from_residual-in_err-fill.ensures.1 in
    let n = c.in_ok-length.field-0 in
    let long : length c.fill.new.out ≡ n = grind (arith, common_steps) in
    rw (p.1, p.2) (reads_then _ c.in_ok-kind.ensures.reads (reads_then _ c.in_ok-length.ensures.reads (reads_stop _ (reads_short n (λ bytes. []) (λ bytes. bytes) (λ (out : List ℕ). out) c.in_err-fill.ensures.fills long))))

pub returns-clause-reads : goal.returns-clause-reads
unfolding frame_form
returns-clause-reads g c =
    let kind = c.in_ok-kind.kind in
    let n = c.in_ok-length.field-0 in
    let long : length c.fill.new.out ≡ n = grind (arith, common_steps) in
    let whole : take n (c.fill.new.out ++ drop n c.args.payload.now) ≡ c.fill.new.out = take_at c.fill.new.out (drop n c.args.payload.now) n long in
    reads_then _ c.in_ok-kind.ensures.reads (reads_then _ c.in_ok-length.ensures.reads
    (reads_last (said kind) (kind, n) (reads_field n (λ bytes. []) (λ bytes. bytes) (λ (out : List ℕ). out) c.fill.new.out c.in_ok-fill.ensures.fills long refl refl) (ap (said kind) (sym whole))))

pub returns-clause-progress : goal.returns-clause-progress
returns-clause-progress g c = omega (arith, c.in_ok-kind.ensures.progress, c.in_ok-length.ensures.reads.took.counted, c.in_ok-fill.ensures.fills.took.counted)
