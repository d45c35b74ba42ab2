use Rattle.std.proofs.Common.{refl}
use Rattle.std.proofs.lemmas.Result.{err_from_is_err_and}
use Rattle.sp_feed.specs.Format.{front_form}
use Rattle.sp_feed.proofs.Joining.{reads_last, reads_stop, reads_then}
use Rattle.sp_feed.proofs.frame.read_front.Goals as goal

pub returns-in_err-profile-clause-reads : goal.returns-in_err-profile-clause-reads
unfolding front_form
returns-in_err-profile-clause-reads g c =
    let p = err_from_is_err_and c.from_residual.result c.from_residual.ensures.1 in
    rw (p.1, p.2) (reads_stop _ c.in_err-profile.ensures.reads)

pub returns-in_err-bits-clause-reads : goal.returns-in_err-bits-clause-reads
unfolding front_form
returns-in_err-bits-clause-reads g c =
    let p = err_from_is_err_and c.from_residual-in_err-bits.result c.from_residual-in_err-bits.ensures.1 in
    rw (p.1, p.2) (reads_then _ c.in_ok-profile.ensures.reads (reads_stop _ c.in_err-bits.ensures.reads))

pub returns-in_err-read_block_letter-clause-reads : goal.returns-in_err-read_block_letter-clause-reads
unfolding front_form
returns-in_err-read_block_letter-clause-reads g c =
    let p = err_from_is_err_and c.from_residual-in_err-read_block_letter.result c.from_residual-in_err-read_block_letter.ensures.1 in
    rw (p.1, p.2) (reads_then _ c.in_ok-profile.ensures.reads (reads_then _ c.in_ok-bits.ensures.reads (reads_stop _ c.in_err-read_block_letter.ensures.reads)))

pub returns-in_err-length-clause-reads : goal.returns-in_err-length-clause-reads
unfolding front_form
returns-in_err-length-clause-reads g c =
    let p = err_from_is_err_and c.from_residual-in_err-length.result c.from_residual-in_err-length.ensures.1 in
    rw (p.1, p.2) (reads_then _ c.in_ok-profile.ensures.reads (reads_then _ c.in_ok-bits.ensures.reads (reads_then _ c.in_ok-read_block_letter.ensures.reads (reads_stop _ c.in_err-length.ensures.reads))))

pub returns-clause-reads : goal.returns-clause-reads
unfolding front_form
returns-clause-reads g c =
    let profile = c.in_ok-profile.profile in
    let bits = c.in_ok-bits.bits in
    reads_then _ c.in_ok-profile.ensures.reads (reads_then _ c.in_ok-bits.ensures.reads (reads_then _ c.in_ok-read_block_letter.ensures.reads
    (reads_last (λ n. (profile, (bits, n))) (profile, (bits, c.in_ok-length.field-0)) c.in_ok-length.ensures.reads refl)))
