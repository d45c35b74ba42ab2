use Rattle.std.proofs.Common.{length}
use Rattle.sp_disk.specs.Moments.{PartlyWrittenFrom}
use Rattle.sp_disk.proofs.Lasting.{looks_ebb}
use Rattle.sp_disk.proofs.Partly.{unchanged}
use Rattle.sp_disk.proofs.Runs.{goes_on, started}
use Rattle.sp_journal.proofs.put.put.Goals as goal

pub returns-clause-any_moment : goal.returns-clause-any_moment
returns-clause-any_moment g c =
    let now = g.D.Disk.now in
    let old = now c.args.disk.now in
    let mid = now c.write_at.new.self in
    let new = now c.sync.new.self in
    let n = length c.args.bytes.now in
    let writes = c.write_at.ensures.writes in
    let looks = c.sync.ensures.syncs.looks in
    goes_on old mid new (PartlyWrittenFrom c.args.at n old)
    (goes_on old old mid (PartlyWrittenFrom c.args.at n old) (started old (PartlyWrittenFrom c.args.at n old) (g.met.D.Disk.is_moment c.args.disk.now) (λ image left. (image, left, unchanged c.args.at n image))) writes.time writes.crash)
    looks.time (λ image left. writes.crash image (looks.crash image left))

pub returns-clause-ebbs : goal.returns-clause-ebbs
returns-clause-ebbs g c =
    let now = g.D.Disk.now in
    looks_ebb (now c.args.disk.now) (now c.write_at.new.self) (now c.sync.new.self) (g.met.D.Disk.is_moment c.write_at.new.self) c.write_at.ensures.writes.time.ebbs c.sync.ensures.syncs.looks
