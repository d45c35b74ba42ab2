use Rattle.std.proofs.Common.{List, length, ap, sym, subst, ◌∙◌, arith, length-append}
use Rattle.sp_disk.specs.History.{events_of, Keeping, Nothing}
use Rattle.sp_disk.specs.Kept.{IsKept}
use Rattle.sp_disk.specs.declared.call.Call.{Call}
use Rattle.sp_disk.proofs.Calls.{kept_asked, saw_asked, seen_calls, seen_more}
use Rattle.sp_disk.proofs.mem_disk.MemDisk.note_asked.Goals as goal

pub add-requires : goal.add-requires
add-requires c =
    let many = seen_calls c.args.self.now c.self.inside.calls.items c.self.inside.given.items (ap (λ (k : Keeping). k.events) c.self.view_is) in
    let limit = ap (λ (k : Keeping). k.limit) c.self.view_is in
    record { room = omega (arith, c.requires, many, limit, c.self.invariant.5) }

pub invariant_of-self : goal.invariant_of-self
invariant_of-self c =
    let d = c.self.inside in
    let i = c.self.invariant in
    let many = seen_calls c.args.self.now d.calls.items d.given.items (ap (λ (k : Keeping). k.events) c.self.view_is) in
    let limit = ap (λ (k : Keeping). k.limit) c.self.view_is in
    let more = ap length c.add.ensures.added ∙ length-append d.calls.items _ in (
      subst (λ (calls : List Call). IsKept d.start.items calls d.given.items d.bytes.items d.synced.items d.pending.items) (sym c.add.ensures.added) (kept_asked d.start.items d.calls.items d.given.items d.bytes.items d.synced.items d.pending.items i.0),
      record { all_given = i.1.all_given; all_bytes = i.1.all_bytes; all_calls = omega (arith, c.requires, many, limit, more); all_pending = omega (arith, i.1.all_pending, more) },
      i.2,
      i.3,
      i.4,
      omega (arith, i.5, c.add.ensures.room),
      i.6,
    )

pub returns : goal.returns
returns c =
    let d = c.self.inside in
    let seen = ap (λ (calls : List Call). events_of calls d.given.items) c.add.ensures.added ∙ saw_asked d.start.items d.calls.items d.given.items d.bytes.items d.synced.items d.pending.items c.self.invariant.0 in
    seen_more _ c.args.self.now Nothing _ c.self.view_is seen
