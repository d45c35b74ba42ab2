use Rattle.std.proofs.Common.{subst, ◌∙◌}
use Rattle.sp_form.specs.Bytes.{IsBytes}
use Rattle.sp_disk.specs.History.{events_of, state_after, told}
use Rattle.sp_disk.specs.Sound.{told_bytes}
use Rattle.sp_disk.proofs.mem_disk.MemDisk.new.Goals as goal

pub returns-clause-tells : goal.returns-clause-tells
returns-clause-tells c =
    let start = c.args.bytes.items in
    let calls = c.in_ok-with_capacity.ensures.items in
    let given = c.in_ok-with_capacity-2.ensures.items in
    (λ i. told (state_after start (events_of (calls i) (given i))).reads) ∙ told_bytes start (subst IsBytes c.deref.ensures.value c.are_bytes.ensures)
