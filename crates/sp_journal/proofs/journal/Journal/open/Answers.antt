use Rattle.sp_journal.proofs.Looking.{looks_then}
use Rattle.sp_journal.proofs.journal.Journal.open.Goals as goal

pub returns-clause-looks : goal.returns-clause-looks
returns-clause-looks g c =
    let now = g.D.Disk.now in
    let law = g.met.D.Disk.is_moment in
    looks_then (now c.args.disk.now) (now c.sync.new.self) (now c.recover.new.disk) (law c.args.disk.now) (law c.sync.new.self) c.sync.ensures.syncs.looks c.recover.ensures.looked.looks
