use Rattle.std.proofs.Common.{[], ◌∷◌, ◌++◌, length, refl, ap, sym, subst, ◌∙◌, arith, length-append}
use Rattle.sp_form.specs.Bytes.{IsBytes}
use Rattle.sp_disk.specs.History.{events_of, Keeping, state_of, Write}
use Rattle.sp_disk.specs.Sound.{length-written, told_place}
use Rattle.sp_disk.specs.declared.call.Call.TheVariants.{Wrote}
use Rattle.sp_disk.proofs.Calls.{kept_at, kept_done, kept_undone, saw_written, seen_bytes, seen_calls, seen_more, seen_reads}
use Rattle.sp_disk.proofs.mem_disk.MemDisk.note_written.Goals as goal

pub add-requires : goal.add-requires
add-requires c =
    let many = seen_calls c.args.self.now c.self.inside.calls.items c.self.inside.given.items (ap (λ (k : Keeping). k.events) c.self.view_is) in
    let limit = ap (λ (k : Keeping). k.limit) c.self.view_is in
    record { room = omega (arith, c.requires.calls, many, limit, c.self.invariant.5) }

pub append-requires : goal.append-requires
append-requires c =
    let many = seen_bytes c.args.self.now c.self.inside.calls.items c.self.inside.given.items (ap (λ (k : Keeping). k.events) c.self.view_is) c.self.invariant.0.whole in
    let capacity = ap (λ (k : Keeping). k.capacity) c.self.view_is in
    record { room = omega (arith, c.requires.given, many, capacity, c.self.invariant.2) }

pub add-requires-2 : goal.add-requires-2
add-requires-2 c =
    let many = seen_calls c.args.self.now c.self.inside.calls.items c.self.inside.given.items (ap (λ (k : Keeping). k.events) c.self.view_is) in
    let limit = ap (λ (k : Keeping). k.limit) c.self.view_is in
    record { room = omega (arith, c.requires.calls, many, limit, c.self.invariant.1.all_pending, c.self.invariant.6) }

pub overwrite-requires : goal.overwrite-requires
overwrite-requires c =
    let d = c.self.inside in
    let reads = seen_reads _ c.args.self.now d.calls.items d.given.items d.bytes.items d.synced.items d.pending.items c.self.view_is refl c.self.invariant.0 in
    let bytes = subst IsBytes (c.deref.ensures.value ∙ sym reads) c.are_bytes.ensures in
    let within = told_place c.args.at (state_of c.args.self.now).reads bytes c.requires.place in
    let capacity = ap (λ (k : Keeping). k.capacity) c.self.view_is in
    record { within = omega (arith, within, ap length reads); room = omega (arith, c.requires.room, capacity, c.self.invariant.3) }

pub returns-then-done-clause-bytes : goal.returns-then-done-clause-bytes
returns-then-done-clause-bytes c =
    let d = c.self.inside in
    let reads = seen_reads _ c.args.self.now d.calls.items d.given.items d.bytes.items d.synced.items d.pending.items c.self.view_is refl c.self.invariant.0 in
    subst IsBytes (c.deref.ensures.value ∙ sym reads) c.are_bytes.ensures

pub returns-else-done-clause-bytes : goal.returns-else-done-clause-bytes
returns-else-done-clause-bytes c =
    let d = c.self.inside in
    let reads = seen_reads _ c.args.self.now d.calls.items d.given.items d.bytes.items d.synced.items d.pending.items c.self.view_is refl c.self.invariant.0 in
    subst IsBytes (c.deref.ensures.value ∙ sym reads) c.are_bytes.ensures

pub invariant_of-self : goal.invariant_of-self
invariant_of-self c =
    let d = c.self.inside in
    let i = c.self.invariant in
    let more = c.args.bytes.now in
    let many = seen_calls c.args.self.now d.calls.items d.given.items (ap (λ (k : Keeping). k.events) c.self.view_is) in
    let all = seen_bytes c.args.self.now d.calls.items d.given.items (ap (λ (k : Keeping). k.events) c.self.view_is) i.0.whole in
    let limit = ap (λ (k : Keeping). k.limit) c.self.view_is in
    let capacity = ap (λ (k : Keeping). k.capacity) c.self.view_is in
    let calls = ap length c.add.ensures.added ∙ length-append d.calls.items _ in
    let ranges = ap length c.add-2.ensures.added ∙ length-append d.pending.items _ in
    let given = ap length c.append.ensures.added ∙ length-append d.given.items more in
    let bytes = ap length c.overwrite.ensures.written in
    let long = length-written d.bytes.items c.args.at more in (
      kept_at d.start.items _ _ _ _ _ _ d.synced.items _ _ (c.add.ensures.added ∙ (λ i. d.calls.items ++ Wrote c.args.at (length more) (c.if-done.true i) ∷ [])) c.append.ensures.added c.overwrite.ensures.written c.add-2.ensures.added
          (kept_done d.start.items d.calls.items d.given.items d.bytes.items d.synced.items d.pending.items i.0 c.args.at more),
      record {
        all_given = omega (arith, c.requires.given, all, capacity, given);
        all_bytes = omega (arith, c.requires.room, capacity, i.1.all_bytes, bytes, long.1);
        all_calls = omega (arith, c.requires.calls, many, limit, calls);
        all_pending = omega (arith, i.1.all_pending, calls, ranges);
      },
      omega (arith, i.2, c.append.ensures.room),
      omega (arith, i.3, c.overwrite.ensures.room),
      i.4,
      omega (arith, i.5, c.add.ensures.room),
      omega (arith, i.6, c.add-2.ensures.room),
    )

pub invariant_of-self-else-done : goal.invariant_of-self-else-done
invariant_of-self-else-done c =
    let d = c.self.inside in
    let i = c.self.invariant in
    let more = c.args.bytes.now in
    let many = seen_calls c.args.self.now d.calls.items d.given.items (ap (λ (k : Keeping). k.events) c.self.view_is) in
    let all = seen_bytes c.args.self.now d.calls.items d.given.items (ap (λ (k : Keeping). k.events) c.self.view_is) i.0.whole in
    let limit = ap (λ (k : Keeping). k.limit) c.self.view_is in
    let capacity = ap (λ (k : Keeping). k.capacity) c.self.view_is in
    let calls = ap length c.add.ensures.added ∙ length-append d.calls.items _ in
    let ranges = ap length c.add-2.ensures.added ∙ length-append d.pending.items _ in
    let given = ap length c.append.ensures.added ∙ length-append d.given.items more in (
      kept_at d.start.items _ _ _ _ d.bytes.items d.bytes.items d.synced.items _ _ (c.add.ensures.added ∙ (λ i. d.calls.items ++ Wrote c.args.at (length more) (c.if-done.false i) ∷ [])) c.append.ensures.added refl c.add-2.ensures.added
          (kept_undone d.start.items d.calls.items d.given.items d.bytes.items d.synced.items d.pending.items i.0 c.args.at more),
      record {
        all_given = omega (arith, c.requires.given, all, capacity, given);
        all_bytes = i.1.all_bytes;
        all_calls = omega (arith, c.requires.calls, many, limit, calls);
        all_pending = omega (arith, i.1.all_pending, calls, ranges);
      },
      omega (arith, i.2, c.append.ensures.room),
      i.3,
      i.4,
      omega (arith, i.5, c.add.ensures.room),
      omega (arith, i.6, c.add-2.ensures.room),
    )

pub returns-then-done-clause-noted : goal.returns-then-done-clause-noted
returns-then-done-clause-noted c =
    let d = c.self.inside in
    let more = c.args.bytes.now in
    let seen = (λ i. events_of (c.add.ensures.added i) (c.append.ensures.added i)) ∙ saw_written d.start.items d.calls.items d.given.items d.bytes.items d.synced.items d.pending.items c.self.invariant.0 c.args.at more c.args.done in
    seen_more _ c.args.self.now (Write c.args.at more c.args.done) _ c.self.view_is seen

pub returns-else-done-clause-noted : goal.returns-else-done-clause-noted
returns-else-done-clause-noted c =
    let d = c.self.inside in
    let more = c.args.bytes.now in
    let seen = (λ i. events_of (c.add.ensures.added i) (c.append.ensures.added i)) ∙ saw_written d.start.items d.calls.items d.given.items d.bytes.items d.synced.items d.pending.items c.self.invariant.0 c.args.at more c.args.done in
    seen_more _ c.args.self.now (Write c.args.at more c.args.done) _ c.self.view_is seen
