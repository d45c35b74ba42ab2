use Rattle.std.proofs.Common.{◌≡◌, IsNone, IsSome, Ok, Option, OnErr, OnOk, subst}
use Rattle.std.specs.Io.KnownBytes.{Appends}
use Rattle.std.specs.Option.{option_copied}
use Rattle.sp_io.specs.Whole.{AppendsFront}
use Rattle.sp_io.proofs.Pages.{all_goes, goes, rest_stops, stops}
use Rattle.sp_io.proofs.Stops.{on_err}
use Rattle.spectre.specs.Gossips.{play_script, script_fault_text, script_text}
use Rattle.spectre.specs.declared.ending.Ending.TheVariants.{Whole, Faulty}
use Rattle.spectre.specs.declared.script_fault.ScriptFault.{ScriptFault}
use Rattle.spectre.proofs.Gossiping.{ends_so}
use Rattle.spectre.proofs.gossip.scripts.play_whole.Goals as goal

pub returns-in_err-fault-clause-err : goal.returns-in_err-fault-clause-err
returns-in_err-fault-clause-err g c =
    let taken = g.K.Sink.taken in
    let told = play_script c.args.scene.now c.args.number (option_copied c.args.text) in
    on_err c.from_residual.result _ (stops (taken c.args.sink.now) (taken c.play_text.new.sink) told.text (script_fault_text told.fault) c.in_err-fault.ensures.err)

pub returns-clause-ok : goal.returns-clause-ok
returns-clause-ok g c =
    let taken = g.K.Sink.taken in
    let told = play_script c.args.scene.now c.args.number (option_copied c.args.text) in
    let a = taken c.args.sink.now in let b = taken c.play_text.new.sink in let d = taken c.write_script_fault.new.sink in
    all_goes a b d (script_text told) (script_fault_text told.fault) c.write_script_fault.result
    (goes a b told.text (script_fault_text told.fault) c.in_ok-fault.ensures.ok)
    (subst (λ (f : Option ScriptFault). OnOk c.write_script_fault.result (Appends b d (script_fault_text f))) c.in_ok-fault.ensures.fault c.write_script_fault.ensures.ok)

pub returns-clause-ending : goal.returns-clause-ending
returns-clause-ending g c =
    let told = play_script c.args.scene.now c.args.number (option_copied c.args.text) in
    ends_so c.write_script_fault.result told.fault
    (subst (λ (f : Option ScriptFault). c.write_script_fault.result ≡ Ok Whole → IsNone f) c.in_ok-fault.ensures.fault c.write_script_fault.ensures.whole)
    (subst (λ (f : Option ScriptFault). c.write_script_fault.result ≡ Ok Faulty → IsSome f) c.in_ok-fault.ensures.fault c.write_script_fault.ensures.faulty)

pub returns-clause-err : goal.returns-clause-err
returns-clause-err g c =
    let taken = g.K.Sink.taken in
    let told = play_script c.args.scene.now c.args.number (option_copied c.args.text) in
    let a = taken c.args.sink.now in let b = taken c.play_text.new.sink in let d = taken c.write_script_fault.new.sink in
    rest_stops a b d (script_text told) (script_fault_text told.fault) c.write_script_fault.result
    (goes a b told.text (script_fault_text told.fault) c.in_ok-fault.ensures.ok)
    (subst (λ (f : Option ScriptFault). OnErr c.write_script_fault.result (AppendsFront b d (script_fault_text f))) c.in_ok-fault.ensures.fault c.write_script_fault.ensures.err)
