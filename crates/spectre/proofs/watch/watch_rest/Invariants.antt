use Rattle.std.proofs.Common.{◌≡◌, ◌≤◌, ◌-◌, ℕ, List, None, Option, IsTrue, false}
use Rattle.sp_feed.specs.Reader.{Behind, is_open}
use Rattle.sp_feed.specs.Reads.{Moment, moment}
use Rattle.sp_watch.specs.declared.item.Item.{Item}
use Rattle.spectre.specs.Replay.{feed_limit}
use Rattle.spectre.specs.Watching.{Following}
use Rattle.spectre.proofs.watch.watch_rest.Given as goal

abbrev pub invariant-messages : goal.invariant-messages
invariant-messages g l =
    let left = g.S.Source.left in let faults = g.S.Source.faults in let taken = g.K.Sink.taken in
    record {
      limit : l.reader.limit ≡ feed_limit;
      opened : IsTrue (is_open l.reader.stage);
      unended : l.reader.stage ≡ Behind None → ⊥;
      live : l.node.stopped ≡ false;
      plain : l.node.journal ≡ None;
      few : l.watch.arrivals ≤ l.reader.taken;
      following : (items : List Item) (start : Moment) (old : Option (List ℕ)) → Following items start (moment (left l.fn.source) (faults l.fn.source) l.fn.reader.taken) old (taken l.fn.sink) l.fn.node.terms l.fn.node.kept l.fn.watch
          → Following items start (moment (left l.source) (faults l.source) l.reader.taken) old (taken l.sink) l.node.terms l.node.kept l.watch;
      read_quiet : faults l.source ≡ faults l.fn.source;
      write_quiet : g.K.Sink.faults l.sink ≡ g.K.Sink.faults l.fn.sink;
    }

abbrev pub decreases-messages : goal.decreases-messages
decreases-messages g l = feed_limit - l.reader.taken
