use Rattle.std.proofs.Common.{◌+◌, ◌∙◌, drop, List, arith, subst, ℕ}
use Rattle.std.specs.List.{flat_map}
use Rattle.sp_io.specs.Whole.{Wrote}
use Rattle.sp_io.proofs.Stops.{on_err}
use Rattle.sp_io.proofs.Writing.{wrote_all, wrote_more, wrote_stops}
use Rattle.sp_watch.specs.Lines.{held_at, held_of}
use Rattle.sp_watch.proofs.LinesLeft.{next_held, no_text}
use Rattle.sp_watch.proofs.write.write_all_held.Goals as goal

pub returns-in_err-write_held-clause-err : goal.returns-in_err-write_held-clause-err
returns-in_err-write_held-clause-err g c =
    let entries = c.args.watch.now.entries in
    let i = c.items.item in
    let e = next_held entries i (omega (arith, c.items-test.true, c.len-item-end.ensures.value, c.len-item-end.ensures.few)) in
    let w = subst (λ (t : List ℕ). Wrote (g.K.Sink.taken c.args.sink.now) (g.K.Sink.taken c.items.sink) (flat_map held_of entries) t) e c.items.invariant.text in
    on_err c.from_residual.result _ (wrote_stops (held_at entries i) (flat_map held_of (drop (i + 1) entries)) w c.in_err-write_held.ensures.err)

pub items-preserved : goal.items-preserved
items-preserved g c =
    let entries = c.args.watch.now.entries in
    let i = c.items.item in
    let e = next_held entries i (omega (arith, c.items-test.true, c.len-item-end.ensures.value, c.len-item-end.ensures.few)) in
    let w = subst (λ (t : List ℕ). Wrote (g.K.Sink.taken c.args.sink.now) (g.K.Sink.taken c.items.sink) (flat_map held_of entries) t) e c.items.invariant.text in
    record {
      text = wrote_more (held_at entries i) (flat_map held_of (drop (i + 1) entries)) w c.in_ok-write_held.ensures.ok;
      quiet = c.in_ok-write_held.ensures.cause.quiet ∙ c.items.invariant.quiet;
    }
