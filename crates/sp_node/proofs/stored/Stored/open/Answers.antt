use Rattle.sp_journal.proofs.Looking.{looks_then}
use Rattle.sp_node.proofs.Opened.{empty_ready, empty_tells}
use Rattle.sp_node.proofs.stored.Stored.open.Goals as goal

pub returns-then-length-eq0-clause-tells : goal.returns-then-length-eq0-clause-tells
returns-then-length-eq0-clause-tells g c = empty_tells c.args.fresh c.in-Ok.length (g.D.Disk.now c.args.disk.now).reads c.in-Ok.ensures.length c.if-length-eq0.true

pub returns-then-length-eq0-clause-ready : goal.returns-then-length-eq0-clause-ready
returns-then-length-eq0-clause-ready g c = empty_ready c.in-Ok.length (g.D.Disk.now c.args.disk.now) (g.D.Disk.now c.len.new.self) c.in-Ok.ensures.length c.if-length-eq0.true c.in-Ok.ensures.looks

pub returns-in-Ok-open-clause-looks : goal.returns-in-Ok-open-clause-looks
returns-in-Ok-open-clause-looks g c =
    let now = g.D.Disk.now in
    let law = g.met.D.Disk.is_moment in
    looks_then (now c.args.disk.now) (now c.len.new.self) (now c.open.new.disk) (law c.args.disk.now) (law c.len.new.self) c.len.ensures.looks c.open.ensures.looks

pub returns-in-Err-open-clause-looks : goal.returns-in-Err-open-clause-looks
returns-in-Err-open-clause-looks g c =
    let now = g.D.Disk.now in
    let law = g.met.D.Disk.is_moment in
    looks_then (now c.args.disk.now) (now c.len.new.self) (now c.open.new.disk) (law c.args.disk.now) (law c.len.new.self) c.len.ensures.looks c.open.ensures.looks
