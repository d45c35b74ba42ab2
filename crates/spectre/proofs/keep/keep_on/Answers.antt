use Rattle.std.proofs.Common.{◌≡◌, ◌∙◌, false, List, ℕ, ap, refl, subst}
use Rattle.std.specs.Io.KnownBytes.{Appends}
use Rattle.std.proofs.Math.Dec.{eqb}
use Rattle.sp_io.specs.Whole.{AppendsFront}
use Rattle.spectre.specs.Codes.{code_of}
use Rattle.spectre.specs.Ends.{KeepsTo}
use Rattle.spectre.specs.Faults.{status_of}
use Rattle.spectre.specs.Keeping.{other_text}
use Rattle.spectre.specs.declared.status.Status.TheVariants as status
use Rattle.spectre.proofs.KeptExits.{exit_disk, exit_done, exit_feed, exit_memory, exit_other, exit_write, feed_status, line_ends, line_not}
use Rattle.spectre.proofs.keep.keep_on.Goals as goal

pub returns-in-Ok-clause-ends : goal.returns-in-Ok-clause-ends
returns-in-Ok-clause-ends g c = λ path fresh tells.
    let now = g.D.Disk.now in
    exit_done path fresh c.args.stored (g.K.Sink.taken c.args.sink.now) (now c.args.disk.now) (now c.answer_stored.new.disk) (g.met.D.Disk.is_moment c.args.disk.now) (g.met.D.Disk.is_moment c.answer_stored.new.disk) tells c.in-Ok.ensures.answers.1

pub returns-in-WriteFault-clause-ends : goal.returns-in-WriteFault-clause-ends
returns-in-WriteFault-clause-ends g c = λ path fresh tells.
    let now = g.D.Disk.now in
    exit_write path fresh c.args.stored (g.K.Sink.taken c.args.sink.now) (now c.args.disk.now) (now c.answer_stored.new.disk) (g.met.D.Disk.is_moment c.args.disk.now) (g.met.D.Disk.is_moment c.answer_stored.new.disk) tells
    (rw c.in-WriteFault.is at c.in-Err.ensures.answers).1

pub returns-in-DiskFault-clause-ends : goal.returns-in-DiskFault-clause-ends
returns-in-DiskFault-clause-ends g c = λ path fresh tells.
    let now = g.D.Disk.now in
    exit_disk path fresh c.args.stored (g.K.Sink.taken c.args.sink.now) (now c.args.disk.now) (now c.answer_stored.new.disk) (g.met.D.Disk.is_moment c.args.disk.now) (g.met.D.Disk.is_moment c.answer_stored.new.disk) tells
    (rw c.in-DiskFault.is at c.in-Err.ensures.answers).1

pub returns-in-Memory-clause-ends : goal.returns-in-Memory-clause-ends
returns-in-Memory-clause-ends g c = λ path fresh tells.
    let now = g.D.Disk.now in
    exit_memory path fresh c.args.stored (g.K.Sink.taken c.args.sink.now) (now c.args.disk.now) (now c.answer_stored.new.disk) (g.met.D.Disk.is_moment c.args.disk.now) (g.met.D.Disk.is_moment c.answer_stored.new.disk) tells
    (rw c.in-Memory.is at c.in-Err.ensures.answers).1

pub returns-in-Feed-clause-ends : goal.returns-in-Feed-clause-ends
returns-in-Feed-clause-ends g c = λ path fresh tells.
    let now = g.D.Disk.now in
    exit_feed path fresh c.args.stored (g.K.Sink.taken c.args.sink.now) (now c.args.disk.now) (now c.answer_stored.new.disk) (g.met.D.Disk.is_moment c.args.disk.now) (g.met.D.Disk.is_moment c.answer_stored.new.disk) tells
    (g.K.Sink.taken c.write_fault.new.sink) c.in-Feed.fault (rw c.in-Feed.is at c.in-Err.ensures.answers).1 c.write_fault.result c.write_fault.ensures.status c.write_fault.ensures.text c.write_fault.ensures.front c.write_fault.ensures.read_fault

pub returns-in-OtherChain-clause-ends : goal.returns-in-OtherChain-clause-ends
returns-in-OtherChain-clause-ends g c = λ path fresh tells.
    let now = g.D.Disk.now in
    let taken = g.K.Sink.taken in
    let o = c.in-OtherChain in
    let line = c.other_line.ensures ∙ ap other_text o.is in
    exit_other path fresh c.args.stored (taken c.args.sink.now) (now c.args.disk.now) (now c.answer_stored.new.disk) (g.met.D.Disk.is_moment c.args.disk.now) (g.met.D.Disk.is_moment c.answer_stored.new.disk) tells
    (taken c.end_with.new.sink) o.stored_bits o.stored o.stored_profile o.fed_bits o.fed o.fed_profile (rw o.is at c.in-Err.ensures.answers).1 c.end_with.result c.end_with.ensures.status
    (λ h. subst (λ (t : List ℕ). Appends (taken c.answer_stored.new.sink) (taken c.end_with.new.sink) t) line (c.end_with.ensures.text h))
    (subst (λ (t : List ℕ). AppendsFront (taken c.answer_stored.new.sink) (taken c.end_with.new.sink) t) line c.end_with.ensures.front)

pub returns-in-OtherChain-clause-among : goal.returns-in-OtherChain-clause-among
returns-in-OtherChain-clause-among g c = line_ends KeepsTo c.end_with.result status.OtherChain c.end_with.ensures.status tt tt

pub returns-in-OtherChain-clause-read_cause : goal.returns-in-OtherChain-clause-read_cause
returns-in-OtherChain-clause-read_cause g c = line_not status.ReadFault c.end_with.result status.OtherChain c.end_with.ensures.status refl refl

pub returns-in-OtherChain-clause-disk_cause : goal.returns-in-OtherChain-clause-disk_cause
returns-in-OtherChain-clause-disk_cause g c = line_not status.DiskFault c.end_with.result status.OtherChain c.end_with.ensures.status refl refl

pub returns-in-Feed-clause-among : goal.returns-in-Feed-clause-among
returns-in-Feed-clause-among g c = line_ends KeepsTo c.write_fault.result (status_of c.in-Feed.fault) c.write_fault.ensures.status tt (feed_status KeepsTo c.in-Feed.fault tt tt tt tt)

pub returns-in-Feed-clause-disk_cause : goal.returns-in-Feed-clause-disk_cause
returns-in-Feed-clause-disk_cause g c =
    line_not status.DiskFault c.write_fault.result (status_of c.in-Feed.fault) c.write_fault.ensures.status refl (feed_status (λ s. eqb (code_of s) (code_of status.DiskFault) ≡ false) c.in-Feed.fault refl refl refl refl)
