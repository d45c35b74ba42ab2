use Rattle.std.proofs.Common.{◌+◌, arith}
use Rattle.std.proofs.lemmas.Result.{on_ok_weaker}
use Rattle.sp_journal.proofs.Lasting.{body_lasts, gate_lasts}
use Rattle.sp_journal.proofs.Openings.{first_moments, next_place, opened, place_stays, second_moments}
use Rattle.sp_journal.proofs.gate.open_over.Goals as goal

pub returns-in_err-put-clause-any_moment : goal.returns-in_err-put-clause-any_moment
returns-in_err-put-clause-any_moment g c front size has =
    let now = g.D.Disk.now in
    first_moments front c.args.body.now c.args.gate size (now c.args.disk.now) (g.met.D.Disk.is_moment c.args.disk.now) has (now c.put.new.disk) c.put.ensures.any_moment

pub returns-in_err-put-clause-lasts : goal.returns-in_err-put-clause-lasts
returns-in_err-put-clause-lasts g c front size has =
    let now = g.D.Disk.now in
    let law = g.met.D.Disk.is_moment in
    body_lasts front c.args.body.now c.args.gate size (now c.args.disk.now) (law c.args.disk.now) has (now c.put.new.disk) (law c.put.new.disk) c.put.ensures.ebbs

pub put-requires-2-clause-place : goal.put-requires-2-clause-place
put-requires-2-clause-place g c =
    place_stays (c.args.gate + 1) c.args.gate c.args.body.now _ _ (omega arith) (next_place c.args.gate _ c.requires.place) c.in_ok-put.ensures.ok.reads

pub returns-clause-any_moment : goal.returns-clause-any_moment
returns-clause-any_moment g c front size has =
    let now = g.D.Disk.now in
    second_moments front c.args.body.now c.args.gate size (now c.args.disk.now) (g.met.D.Disk.is_moment c.args.disk.now) has (now c.put.new.disk) c.in_ok-put.ensures.ok
    (now c.put-2.new.disk) c.put.ensures.any_moment c.put-2.ensures.any_moment

pub returns-clause-ok : goal.returns-clause-ok
returns-clause-ok g c =
    let now = g.D.Disk.now in
    let law = g.met.D.Disk.is_moment in
    on_ok_weaker c.put-2.result (λ second front size has.
    opened front c.args.body.now c.args.gate size (now c.args.disk.now) (law c.args.disk.now) has (now c.put.new.disk) c.in_ok-put.ensures.ok (now c.put-2.new.disk) (law c.put.new.disk) second) c.put-2.ensures.ok

pub returns-clause-lasts : goal.returns-clause-lasts
returns-clause-lasts g c front size has =
    let now = g.D.Disk.now in
    let law = g.met.D.Disk.is_moment in
    gate_lasts front c.args.body.now c.args.gate size (now c.args.disk.now) (law c.args.disk.now) has (now c.put.new.disk) (now c.put-2.new.disk)
    (law c.put.new.disk) (law c.put-2.new.disk) c.in_ok-put.ensures.ok c.put.ensures.ebbs c.put-2.ensures.ebbs
