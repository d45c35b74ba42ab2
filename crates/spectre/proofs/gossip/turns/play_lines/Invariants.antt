use Rattle.std.proofs.Common.{◌≡◌, true, length}
use Rattle.sp_io.specs.Whole.{Wrote}
use Rattle.sp_report.specs.Naming.{labels_of}
use Rattle.spectre.specs.Gossips.{fault_read, play}
use Rattle.spectre.proofs.Gossiping.{left}
use Rattle.spectre.proofs.gossip.turns.play_lines.Given as goal

abbrev pub invariant-each : goal.invariant-each
invariant-each g l =
    let taken = g.K.Sink.taken in let faults = g.K.Sink.faults in
    let labels = labels_of l.naming in let fault = fault_read l.script.reading.fault in let lines = l.script.reading.lines in
    record {
      live : l.net.live ≡ true;
      count : length l.net.kept ≡ length l.fn.net.kept;
      text : Wrote (taken l.fn.sink) (taken l.sink) (play labels l.blocks fault l.fn.net lines).text (left labels l.blocks fault lines l.net l.place).text;
      fault : (play labels l.blocks fault l.fn.net lines).fault ≡ (left labels l.blocks fault lines l.net l.place).fault;
      quiet : faults l.sink ≡ faults l.fn.sink;
    }
