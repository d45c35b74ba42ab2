use Rattle.std.proofs.Common.{◌≡◌, ◌++◌, drop}
use Rattle.sp_io.specs.Whole.{Wrote}
use Rattle.sp_report.specs.Naming.{labels_of}
use Rattle.sp_report.specs.Texts.{votes_text}
use Rattle.sp_report.proofs.pairs.push_votes.Given as goal

abbrev pub invariant-other : goal.invariant-other
invariant-other g l =
    let taken = g.K.Sink.taken in let faults = g.K.Sink.faults in
    record {
      text : Wrote (taken l.fn.sink) (taken l.sink) (l.fn.page ++ votes_text l.engine.profile (labels_of l.naming) l.engine.kept l.first l.others) (l.page ++ votes_text l.engine.profile (labels_of l.naming) l.engine.kept l.first (drop l.other-index l.others));
      quiet : faults l.sink ≡ faults l.fn.sink;
    }
