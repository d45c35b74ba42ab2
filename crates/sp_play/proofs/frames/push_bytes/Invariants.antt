use Rattle.std.proofs.Common.{◌≡◌, ◌++◌, length}
use Rattle.sp_io.specs.Whole.{Wrote}
use Rattle.sp_play.proofs.frames.push_bytes.Given as goal

abbrev pub invariant-pieces : goal.invariant-pieces
invariant-pieces g l =
    let taken = g.K.Sink.taken in let faults = g.K.Sink.faults in
    record {
      text : Wrote (taken l.fn.sink) (taken l.sink) (l.fn.page ++ l.bytes) (l.page ++ l.rest);
      quiet : faults l.sink ≡ faults l.fn.sink;
    }

abbrev pub decreases-pieces : goal.decreases-pieces
decreases-pieces g l = length l.rest
