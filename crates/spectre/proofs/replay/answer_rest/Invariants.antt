use Rattle.std.proofs.Common.{◌≡◌, ◌-◌, ℕ, List, None, Option, IsTrue, false}
use Rattle.sp_feed.specs.Reader.{Behind, is_open}
use Rattle.sp_feed.specs.Reads.{Moment, moment}
use Rattle.spectre.specs.Replay.{feed_limit}
use Rattle.spectre.specs.Replaying.{Answering}
use Rattle.spectre.proofs.Running.{IsRun}
use Rattle.spectre.proofs.replay.answer_rest.Given as goal

abbrev pub invariant-messages : goal.invariant-messages
invariant-messages g l =
    let left = g.S.Source.left in let faults = g.S.Source.faults in let taken = g.K.Sink.taken in
    record {
      limit : l.reader.limit ≡ feed_limit;
      opened : IsTrue (is_open l.reader.stage);
      unended : l.reader.stage ≡ Behind None → ⊥;
      live : l.node.stopped ≡ false;
      run : IsRun l.fn.node.terms l.fn.node.kept l.fn.node.journal (g.D.Disk.now l.fn.disk) (g.D.Disk.now l.disk) l.node.terms l.node.kept l.node.journal;
      uncalled : l.fn.node.journal ≡ None → l.disk ≡ l.fn.disk;
      disk_quiet : (g.D.Disk.now l.disk).faults ≡ (g.D.Disk.now l.fn.disk).faults;
      answering : (before : List (List ℕ)) (start : Moment) (old : Option (List ℕ)) → Answering before start (moment (left l.fn.source) (faults l.fn.source) l.fn.reader.taken) old (taken l.fn.sink) l.fn.node.terms l.fn.node.kept
          → Answering before start (moment (left l.source) (faults l.source) l.reader.taken) old (taken l.sink) l.node.terms l.node.kept;
      read_quiet : faults l.source ≡ faults l.fn.source;
      write_quiet : g.K.Sink.faults l.sink ≡ g.K.Sink.faults l.fn.sink;
    }

abbrev pub decreases-messages : goal.decreases-messages
decreases-messages g l = feed_limit - l.reader.taken
