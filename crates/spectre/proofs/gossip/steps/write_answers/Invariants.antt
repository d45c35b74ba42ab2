use Rattle.std.proofs.Common.{◌≡◌, drop}
use Rattle.std.specs.Prelude.{flat_map}
use Rattle.sp_io.specs.Whole.{Wrote}
use Rattle.sp_report.specs.Naming.{labels_of}
use Rattle.spectre.specs.Gossips.{answer_at_text}
use Rattle.spectre.proofs.gossip.steps.write_answers.Given as goal

abbrev pub invariant-each : goal.invariant-each
invariant-each g l =
    let taken = g.K.Sink.taken in let faults = g.K.Sink.faults in
    let text = answer_at_text (labels_of l.naming) l.node in
    record {
      text : Wrote (taken l.fn.sink) (taken l.sink) (flat_map text l.answers) (flat_map text (drop l.place l.answers));
      quiet : faults l.sink ≡ faults l.fn.sink;
    }
