use Rattle.std.proofs.Common.{not, subst, ◌∙◌, arith}
use Rattle.sp_form.specs.Bytes.{IsBytes}
use Rattle.sp_disk.specs.History.{Write}
use Rattle.sp_disk.specs.Kept.{with_event}
use Rattle.sp_disk.proofs.Moves.{more_but, more_by, reads_same, writes_done, writes_undone}
use Rattle.sp_disk.proofs.mem_disk.MemDiskDisk.write_at.Goals as goal

pub returns-clause-writes : goal.returns-clause-writes
returns-clause-writes c =
    let k = c.args.self.now in
    let mid = c.is_planned-done.new.self in
    let at = c.args.at in
    let bytes = c.args.bytes.now in
    let same = reads_same k mid _ c.is_planned-done.ensures.counted in
    let noted = c.note_written.ensures.noted ∙ (λ i. with_event mid (Write at bytes (not (c.if-not-done.false i)))) in
    writes_done k c.note_written.new.self at bytes (subst IsBytes same c.note_written.ensures.bytes) (λ i. omega (arith, c.type_inv.bytes i))
    (more_by k mid _ _ _ c.is_planned-done.ensures.counted noted)

pub returns-then-not-done-clause-writes : goal.returns-then-not-done-clause-writes
returns-then-not-done-clause-writes c =
    let k = c.args.self.now in
    let mid = c.is_planned-done.new.self in
    let at = c.args.at in
    let bytes = c.args.bytes.now in
    let same = reads_same k mid _ c.is_planned-done.ensures.counted in
    let noted = c.note_written.ensures.noted ∙ (λ i. with_event mid (Write at bytes (not (c.if-not-done.true i)))) in
    writes_undone k c.refuse.new.self at bytes (subst IsBytes same c.note_written.ensures.bytes) (λ i. omega (arith, c.type_inv.bytes i))
    (more_but k c.note_written.new.self _ _ _ (more_by k mid _ _ _ c.is_planned-done.ensures.counted noted) c.refuse.ensures.counted)
