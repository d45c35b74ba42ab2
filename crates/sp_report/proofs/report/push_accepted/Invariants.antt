use Rattle.std.proofs.Common.{◌≡◌, ◌++◌, drop}
use Rattle.std.specs.List.{flat_map}
use Rattle.sp_io.specs.Whole.{Wrote}
use Rattle.sp_report.specs.Naming.{labels_of}
use Rattle.sp_report.specs.Texts.{accepted_text}
use Rattle.sp_report.proofs.report.push_accepted.Given as goal

abbrev pub invariant-id : goal.invariant-id
invariant-id g l =
    let taken = g.K.Sink.taken in let faults = g.K.Sink.faults in
    record {
      text : Wrote (taken l.fn.sink) (taken l.sink) (l.fn.page ++ flat_map (accepted_text (labels_of l.naming)) l.ids) (l.page ++ flat_map (accepted_text (labels_of l.naming)) (drop l.id-index l.ids));
      quiet : faults l.sink ≡ faults l.fn.sink;
    }
