use Rattle.std.proofs.Common.{◌≡◌, ◌++◌, drop}
use Rattle.std.specs.List.{flat_map}
use Rattle.sp_io.specs.Whole.{Wrote}
use Rattle.sp_report.specs.Naming.{labels_of}
use Rattle.sp_report.specs.Texts.{paid_text}
use Rattle.sp_report.proofs.report.push_paid.Given as goal

abbrev pub invariant-lock : goal.invariant-lock
invariant-lock g l =
    let taken = g.K.Sink.taken in let faults = g.K.Sink.faults in
    record {
      text : Wrote (taken l.fn.sink) (taken l.sink) (l.fn.page ++ flat_map (paid_text l.engine.profile (labels_of l.naming) l.engine.kept) l.locks) (l.page ++ flat_map (paid_text l.engine.profile (labels_of l.naming) l.engine.kept) (drop l.lock-index l.locks));
      quiet : faults l.sink ≡ faults l.fn.sink;
    }
