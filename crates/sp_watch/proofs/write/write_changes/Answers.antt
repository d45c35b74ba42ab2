use Rattle.std.proofs.Common.{◌∙◌, List, arith, subst, ℕ}
use Rattle.std.specs.List.{flat_map}
use Rattle.sp_io.specs.Whole.{Wrote}
use Rattle.sp_io.proofs.Stops.{on_err}
use Rattle.sp_io.proofs.Writing.{wrote_all}
use Rattle.sp_watch.specs.Lines.{change_at}
use Rattle.sp_watch.proofs.LinesLeft.{no_text, text_goes, text_stops}
use Rattle.sp_watch.proofs.write.write_changes.Goals as goal

pub returns-in_err-write_change-clause-err : goal.returns-in_err-write_change-clause-err
returns-in_err-write_change-clause-err g c = on_err c.from_residual.result _ (text_stops (change_at c.args.watch.now.entries) c.args.changes.now c.each.place _ (omega (arith, c.each-test.true)) c.each.invariant.text c.in_err-write_change.ensures.err)

pub each-preserved : goal.each-preserved
each-preserved g c = record {
  text = text_goes (change_at c.args.watch.now.entries) c.args.changes.now c.each.place _ (omega (arith, c.each-test.true)) c.each.invariant.text c.in_ok-write_change.ensures.ok;
  quiet = c.in_ok-write_change.ensures.cause.quiet ∙ c.each.invariant.quiet;
}

pub returns-clause-ok : goal.returns-clause-ok
returns-clause-ok g c =
    let f = change_at c.args.watch.now.entries in
    let e = no_text f c.args.changes.now c.each.place (omega (arith, c.each-test.false)) in
    wrote_all (subst (λ (t : List ℕ). Wrote (g.K.Sink.taken c.args.sink.now) (g.K.Sink.taken c.each.sink) (flat_map f c.args.changes.now) t) e c.each.invariant.text)
