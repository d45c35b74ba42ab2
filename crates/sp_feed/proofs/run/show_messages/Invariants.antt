use Rattle.std.proofs.Common.{◌≡◌, ◌-◌, List, None, IsTrue}
use Rattle.sp_feed.specs.Calls.{SoFar}
use Rattle.sp_feed.specs.Format.{Head}
use Rattle.sp_feed.specs.Kinds.{Said}
use Rattle.sp_feed.specs.Reader.{Behind, is_open}
use Rattle.sp_feed.specs.Reads.{Moment, moment}
use Rattle.sp_feed.proofs.run.show_messages.Given as goal

abbrev pub invariant-messages : goal.invariant-messages
invariant-messages g l =
    let left = g.S.Source.left in let faults = g.S.Source.faults in let seen = g.V.Visitor.seen in
    record {
      limit : l.reader.limit ≡ l.fn.reader.limit;
      opened : IsTrue (is_open l.reader.stage);
      unended : l.reader.stage ≡ Behind None → ⊥;
      so_far : (start : Moment) (h : Head) (before : List Said) → SoFar l.fn.reader.limit start (moment (left l.fn.source) (faults l.fn.source) l.fn.reader.taken) h before (seen l.fn.visitor) → SoFar l.fn.reader.limit start (moment (left l.source) (faults l.source) l.reader.taken) h before (seen l.visitor);
      quiet : faults l.source ≡ faults l.fn.source;
    }

abbrev pub decreases-messages : goal.decreases-messages
decreases-messages g l = l.fn.reader.limit - l.reader.taken
