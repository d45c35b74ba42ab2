use Rattle.std.proofs.Common.{◌≡◌, map}
use Rattle.sp_feed.specs.Spelling.{frames_of}
use Rattle.sp_io.specs.Whole.{Wrote}
use Rattle.spectre.specs.Sent.{said_block}
use Rattle.spectre.proofs.Sending.{frames_from}
use Rattle.spectre.proofs.feeding.write_blocks.Given as goal

abbrev pub invariant-each : goal.invariant-each
invariant-each g l =
    let taken = g.K.Sink.taken in let faults = g.K.Sink.faults in
    record {
      text : Wrote (taken l.fn.sink) (taken l.sink) (frames_of (map said_block l.blocks)) (frames_from l.place l.blocks);
      quiet : faults l.sink ≡ faults l.fn.sink;
    }
