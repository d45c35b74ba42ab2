use Rattle.std.proofs.Common.{◌≡◌, ◌-◌, None, IsTrue}
use Rattle.sp_feed.specs.Reader.{Behind, is_open}
use Rattle.sp_feed.specs.Reads.{Moment, moment}
use Rattle.spectre.specs.Bringing.{Bringing}
use Rattle.spectre.specs.Replay.{feed_limit}
use Rattle.spectre.proofs.bringing.bring_rest.Given as goal

abbrev pub invariant-messages : goal.invariant-messages
invariant-messages g l =
    let left = g.S.Source.left in let faults = g.S.Source.faults in
    record {
      limit : l.reader.limit ≡ feed_limit;
      opened : IsTrue (is_open l.reader.stage);
      unended : l.reader.stage ≡ Behind None → ⊥;
      bringing : (start : Moment) → Bringing start (moment (left l.fn.source) (faults l.fn.source) l.fn.reader.taken) l.fn.engine → Bringing start (moment (left l.source) (faults l.source) l.reader.taken) l.engine;
      quiet : faults l.source ≡ faults l.fn.source;
    }

abbrev pub decreases-messages : goal.decreases-messages
decreases-messages g l = feed_limit - l.reader.taken
