use Rattle.std.proofs.Common.{◌≡◌, IfOk, OnErr, OnOk, subst}
use Rattle.std.specs.Io.KnownBytes.{Appends}
use Rattle.sp_io.specs.Whole.{AppendsFront}
use Rattle.sp_io.proofs.Stops.{stops_at_start}
use Rattle.spectre.specs.Gossips.{Told}
use Rattle.spectre.proofs.Gossiping.{played_in}
use Rattle.spectre.proofs.gossip.scripts.play_nodes.Goals as goal

pub returns-in_err-head-clause-err : goal.returns-in_err-head-clause-err
returns-in_err-head-clause-err g c = stops_at_start c.from_residual.result _ _

pub returns-in_err-net-clause-err : goal.returns-in_err-net-clause-err
returns-in_err-net-clause-err g c = stops_at_start c.from_residual-in_err-net.result _ _

pub returns-clause-fault : goal.returns-clause-fault
returns-clause-fault g c =
    let taken = g.K.Sink.taken in
    let head = c.in_ok-head.head in
    let is = played_in c.args.scene.now c.args.script.now.reading c.args.nodes c.names.result.now c.args.blocks.now c.in_ok-net.net head.profile head.bits head.genesis c.names.ensures c.requires.blocks c.in_ok-net.ensures.net c.in_ok-head.ensures.profile c.in_ok-head.ensures.bits c.in_ok-head.ensures.genesis c.in_ok-net.ensures.genesis in
    subst (λ (t : Told). IfOk c.play_lines.result (λ fault. fault ≡ t.fault)) is c.play_lines.ensures.fault

pub returns-clause-ok : goal.returns-clause-ok
returns-clause-ok g c =
    let taken = g.K.Sink.taken in
    let head = c.in_ok-head.head in
    let is = played_in c.args.scene.now c.args.script.now.reading c.args.nodes c.names.result.now c.args.blocks.now c.in_ok-net.net head.profile head.bits head.genesis c.names.ensures c.requires.blocks c.in_ok-net.ensures.net c.in_ok-head.ensures.profile c.in_ok-head.ensures.bits c.in_ok-head.ensures.genesis c.in_ok-net.ensures.genesis in
    subst (λ (t : Told). OnOk c.play_lines.result (Appends (taken c.args.sink.now) (taken c.play_lines.new.sink) t.text)) is c.play_lines.ensures.ok

pub returns-clause-err : goal.returns-clause-err
returns-clause-err g c =
    let taken = g.K.Sink.taken in
    let head = c.in_ok-head.head in
    let is = played_in c.args.scene.now c.args.script.now.reading c.args.nodes c.names.result.now c.args.blocks.now c.in_ok-net.net head.profile head.bits head.genesis c.names.ensures c.requires.blocks c.in_ok-net.ensures.net c.in_ok-head.ensures.profile c.in_ok-head.ensures.bits c.in_ok-head.ensures.genesis c.in_ok-net.ensures.genesis in
    subst (λ (t : Told). OnErr c.play_lines.result (AppendsFront (taken c.args.sink.now) (taken c.play_lines.new.sink) t.text)) is c.play_lines.ensures.err
