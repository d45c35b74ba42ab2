use Rattle.std.proofs.Common.{◌≡◌, drop}
use Rattle.std.specs.List.{flat_map}
use Rattle.sp_io.specs.Whole.{Wrote}
use Rattle.sp_watch.specs.Lines.{held_of}
use Rattle.sp_watch.proofs.write.write_all_held.Given as goal

abbrev pub invariant-items : goal.invariant-items
invariant-items g l =
    let taken = g.K.Sink.taken in let faults = g.K.Sink.faults in
    record {
      text : Wrote (taken l.fn.sink) (taken l.sink) (flat_map held_of l.watch.entries) (flat_map held_of (drop l.item l.watch.entries));
      quiet : faults l.sink ≡ faults l.fn.sink;
    }
