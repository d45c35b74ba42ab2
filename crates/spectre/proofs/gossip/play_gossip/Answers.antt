use Rattle.std.proofs.Common.{◌+◌, ◌∙◌, IfOk, OnErr, OnOk, refl, sym, subst, take}
use Rattle.std.specs.Io.KnownBytes.{Appends}
use Rattle.std.specs.Option.{option_copied}
use Rattle.sp_io.specs.Whole.{AppendsFront}
use Rattle.sp_io.proofs.Stops.{stops_at_start}
use Rattle.spectre.specs.Ends.{EndsBy}
use Rattle.spectre.specs.Gossips.{Gossip, gossip_text}
use Rattle.spectre.proofs.Gossiping.{script_there, whole_text}
use Rattle.spectre.proofs.gossip.play_gossip.Goals as goal

pub returns-in_err-scene-clause-err : goal.returns-in_err-scene-clause-err
returns-in_err-scene-clause-err g c = stops_at_start c.from_residual.result _ _

pub play_behind-requires-clause-script : goal.play_behind-requires-clause-script
play_behind-requires-clause-script g c =
    let place = c.find_script-place.result in
    script_there place.found place.place c.args.text.now (option_copied c.script_in.result) c.script_in.ensures c.find_script-place.ensures.begins c.requires

pub returns-clause-ok : goal.returns-clause-ok
returns-clause-ok g c =
    let taken = g.K.Sink.taken in
    let place = c.find_script-place.result in
    let is = whole_text c.args.text.now (take place.place c.args.text.now) c.in_ok-scene.scene place.lines (place.lines + 1) (option_copied c.script_in.result) c.find_script-place.ensures.scenario c.in_ok-scene.ensures (c.script_in.ensures ∙ sym c.find_script-place.ensures.script) c.find_script-place.ensures.lines refl in
    subst (λ (x : Gossip). OnOk c.play_behind.result (Appends (taken c.args.sink.now) (taken c.play_behind.new.sink) (gossip_text x))) is c.play_behind.ensures.ok

pub returns-clause-ending : goal.returns-clause-ending
returns-clause-ending g c =
    let taken = g.K.Sink.taken in
    let place = c.find_script-place.result in
    let is = whole_text c.args.text.now (take place.place c.args.text.now) c.in_ok-scene.scene place.lines (place.lines + 1) (option_copied c.script_in.result) c.find_script-place.ensures.scenario c.in_ok-scene.ensures (c.script_in.ensures ∙ sym c.find_script-place.ensures.script) c.find_script-place.ensures.lines refl in
    subst (λ (x : Gossip). IfOk c.play_behind.result (EndsBy x.fault)) is c.play_behind.ensures.ending

pub returns-clause-err : goal.returns-clause-err
returns-clause-err g c =
    let taken = g.K.Sink.taken in
    let place = c.find_script-place.result in
    let is = whole_text c.args.text.now (take place.place c.args.text.now) c.in_ok-scene.scene place.lines (place.lines + 1) (option_copied c.script_in.result) c.find_script-place.ensures.scenario c.in_ok-scene.ensures (c.script_in.ensures ∙ sym c.find_script-place.ensures.script) c.find_script-place.ensures.lines refl in
    subst (λ (x : Gossip). OnErr c.play_behind.result (AppendsFront (taken c.args.sink.now) (taken c.play_behind.new.sink) (gossip_text x))) is c.play_behind.ensures.err
