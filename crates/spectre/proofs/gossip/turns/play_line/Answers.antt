use Rattle.std.proofs.Common.{OnErr, length, subst}
use Rattle.sp_gossip.specs.Script.{AsksAmong}
use Rattle.sp_io.specs.Whole.{AppendsFront}
use Rattle.sp_io.proofs.Stops.{stops_at_start}
use Rattle.sp_report.specs.Naming.{labels_of}
use Rattle.spectre.specs.Gossips.{Turn}
use Rattle.spectre.proofs.Gossiping.{gives_turn}
use Rattle.spectre.proofs.gossip.turns.play_line.Goals as goal

pub returns-in_err-event-in-Give-clause-err : goal.returns-in_err-event-in-Give-clause-err
returns-in_err-event-in-Give-clause-err g c = stops_at_start c.from_residual.result _ _

pub returns-in_ok-event-in-Give-clause-err : goal.returns-in_ok-event-in-Give-clause-err
returns-in_ok-event-in-Give-clause-err g c =
    let taken = g.K.Sink.taken in
    let asks = subst (AsksAmong (length c.args.net.now.kept) (length c.args.blocks.now)) c.in-Give.is c.requires.among in
    let is = gives_turn (labels_of c.args.naming.now) c.args.blocks.now c.args.net.now c.args.line.now c.in_ok-event-in-Give.event c.in-Give.node c.in-Give.block c.index-blocks-block.result c.in-Give.is c.in_ok-event-in-Give.ensures asks.1 c.index-blocks-block.is in
    subst (λ (t : Turn). OnErr c.play_event.result (AppendsFront (taken c.args.sink.now) (taken c.play_event.new.sink) t.text)) is c.play_event.ensures.err
