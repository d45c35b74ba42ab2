use Rattle.std.proofs.Common.{◌≡◌, ◌++◌, drop}
use Rattle.sp_io.specs.Whole.{Wrote}
use Rattle.sp_report.specs.Naming.{labels_of}
use Rattle.sp_report.proofs.PairTexts.{all_votes}
use Rattle.sp_report.proofs.pairs.push_pairs.Given as goal

abbrev pub invariant-place : goal.invariant-place
invariant-place g l =
    let taken = g.K.Sink.taken in let faults = g.K.Sink.faults in
    record {
      text : Wrote (taken l.fn.sink) (taken l.sink) (l.fn.page ++ all_votes l.engine.profile (labels_of l.naming) l.engine.kept l.ids) (l.page ++ all_votes l.engine.profile (labels_of l.naming) l.engine.kept (drop l.place l.ids));
      quiet : faults l.sink ≡ faults l.fn.sink;
    }
