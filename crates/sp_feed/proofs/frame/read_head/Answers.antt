use Rattle.std.proofs.Common.{◌≡◌, length, take, arith}
use Rattle.std.proofs.lemmas.Grind.{common_steps}
use Rattle.std.proofs.lemmas.Result.{err_from_is_err_and}
use Rattle.sp_feed.proofs.Heads.{head_unread, head_whole}
use Rattle.sp_feed.proofs.frame.read_head.Goals as goal

pub returns-in_err-profile-clause-reads : goal.returns-in_err-profile-clause-reads
returns-in_err-profile-clause-reads g c =
    let p = err_from_is_err_and c.from_residual.result c.from_residual.ensures.1 in
    rw (p.1, p.2) (head_unread c.in_err-profile.ensures.reads)

pub returns-clause-reads : goal.returns-clause-reads
returns-clause-reads g c =
    let n = c.in_ok-profile.length in
    let held : length (take n c.args.payload.now) ≡ n = grind (arith, common_steps) in
    head_whole _ held c.in_ok-profile.ensures.reads c.read_genesis.ensures.reads
