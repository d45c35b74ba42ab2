use Rattle.std.proofs.Common.{◌≡◌, drop}
use Rattle.std.specs.List.{flat_map}
use Rattle.sp_io.specs.Whole.{Wrote}
use Rattle.sp_watch.specs.Lines.{change_at}
use Rattle.sp_watch.proofs.write.write_changes.Given as goal

abbrev pub invariant-each : goal.invariant-each
invariant-each g l =
    let taken = g.K.Sink.taken in let faults = g.K.Sink.faults in
    record {
      text : Wrote (taken l.fn.sink) (taken l.sink) (flat_map (change_at l.watch.entries) l.changes) (flat_map (change_at l.watch.entries) (drop l.place l.changes));
      quiet : faults l.sink ≡ faults l.fn.sink;
    }
