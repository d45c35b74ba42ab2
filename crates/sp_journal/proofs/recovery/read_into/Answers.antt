use Rattle.std.proofs.Common.{Err, Result, subst, ℕ}
use Rattle.std.specs.Prelude.{IfSome}
use Rattle.sp_block.specs.Block.{ReadBlock}
use Rattle.sp_model.specs.declared.profile.Profile.{Profile}
use Rattle.sp_journal.specs.Recovery.{IsHeadOf}
use Rattle.sp_journal.specs.declared.gate_kind.Gate.{Gate}
use Rattle.sp_journal.proofs.Looking.{looked_then}
use Rattle.sp_journal.proofs.Openings.{plain_judges}
use Rattle.sp_journal.proofs.Recovered.{none_by}
use Rattle.sp_journal.proofs.Windows.{if_some}
use Rattle.sp_journal.proofs.recovery.read_into.Goals as goal

pub returns-in-Err-head-clause-judged : goal.returns-in-Err-head-clause-judged
returns-in-Err-head-clause-judged g c =
    let found = subst (λ (r : Result (Profile × ℕ × ReadBlock) Gate). IfSome (g.D.Disk.now c.args.disk.now).reads (λ bytes. IsHeadOf bytes r)) c.in-Err-head.is c.in-Ok.ensures.found in
    if_some (λ bytes. IsHeadOf bytes (Err c.in-Err-head.gate)) _ (g.D.Disk.now c.args.disk.now).reads (λ bytes e head. record { none = none_by bytes head.0; is = head.1 }) found

pub returns-in-Err-clause-judged : goal.returns-in-Err-clause-judged
returns-in-Err-clause-judged g c = plain_judges (g.D.Disk.now c.args.disk.now).reads c.in-Err.fault c.in-Err.ensures.plain

pub returns-in-Ok-head-clause-looked : goal.returns-in-Ok-head-clause-looked
returns-in-Ok-head-clause-looked g c =
    looked_then (g.D.Disk.now c.args.disk.now) (g.D.Disk.now c.head_on.new.disk) (g.D.Disk.now c.behind.new.disk) (g.met.D.Disk.is_moment c.args.disk.now) (g.met.D.Disk.is_moment c.head_on.new.disk) c.in-Ok.ensures.looked.looks (c.in-Ok.ensures.looked.quiet (λ e. absurd (cc e))) c.behind.ensures.looked
