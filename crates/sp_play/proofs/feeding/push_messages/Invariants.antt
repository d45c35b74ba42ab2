use Rattle.std.proofs.Common.{◌≡◌, ◌++◌, drop}
use Rattle.sp_io.specs.Whole.{Wrote}
use Rattle.sp_feed.specs.Spelling.{frames_of}
use Rattle.sp_play.proofs.feeding.push_messages.Given as goal

abbrev pub invariant-place : goal.invariant-place
invariant-place g l =
    let taken = g.K.Sink.taken in let faults = g.K.Sink.faults in
    record {
      text : Wrote (taken l.fn.sink) (taken l.sink) (l.fn.page ++ frames_of l.scene.messages) (l.page ++ frames_of (drop l.place l.scene.messages));
      quiet : faults l.sink ≡ faults l.fn.sink;
    }
