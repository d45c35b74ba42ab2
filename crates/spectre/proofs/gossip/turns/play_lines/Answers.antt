use Rattle.std.proofs.Common.{◌<◌, ◌≤◌, ◌+◌, ◌∙◌, length, sym, ap, subst, arith}
use Rattle.sp_gossip.specs.Network.{Network}
use Rattle.sp_io.specs.Whole.{Wrote}
use Rattle.sp_io.proofs.Stops.{on_err}
use Rattle.sp_io.proofs.Writing.{wrote_all, wrote_more}
use Rattle.sp_report.specs.Naming.{labels_of}
use Rattle.spectre.specs.Gossips.{fault_read, play, Told, turn}
use Rattle.spectre.proofs.Gossiping.{left, line_at, line_done, line_ends, line_fails, line_stops, none_left, turn_keeps}
use Rattle.spectre.proofs.gossip.turns.play_lines.Goals as goal

pub returns-in_err-reason-clause-err : goal.returns-in_err-reason-clause-err
returns-in_err-reason-clause-err g c =
    let taken = g.K.Sink.taken in
    let labels = labels_of c.args.naming.now in let blocks = c.args.blocks.now in
    let lines = c.args.script.now.reading.lines in let fault = fault_read c.args.script.now.reading.fault in
    let number = c.line-number.result.0 in let line = c.line-number.result.1.now in
    let lt : c.each.place < length c.args.script.now.reading.lines = omega (arith, c.each-test.true, c.len-place-end.ensures) in
    let e = line_at lines c.each.place (number, line) lt c.line-number.ensures in
    on_err c.from_residual.result _ (line_stops labels blocks fault lines c.each.net c.each.place number line e c.each.invariant.text c.in_err-reason.ensures.err)

pub returns-in-Some-clause-fault : goal.returns-in-Some-clause-fault
returns-in-Some-clause-fault g c =
    let taken = g.K.Sink.taken in
    let labels = labels_of c.args.naming.now in let blocks = c.args.blocks.now in
    let lines = c.args.script.now.reading.lines in let fault = fault_read c.args.script.now.reading.fault in
    let number = c.line-number.result.0 in let line = c.line-number.result.1.now in
    let lt : c.each.place < length c.args.script.now.reading.lines = omega (arith, c.each-test.true, c.len-place-end.ensures) in
    let e = line_at lines c.each.place (number, line) lt c.line-number.ensures in
    sym (c.each.invariant.fault ∙ ap (λ (t : Told). t.fault) (line_fails labels blocks fault lines c.each.net c.each.place number line c.in-Some.reason e (sym c.in_ok-reason.ensures.fault ∙ c.in-Some.is)))

pub returns-in-Some-clause-ok : goal.returns-in-Some-clause-ok
returns-in-Some-clause-ok g c =
    let taken = g.K.Sink.taken in
    let labels = labels_of c.args.naming.now in let blocks = c.args.blocks.now in
    let lines = c.args.script.now.reading.lines in let fault = fault_read c.args.script.now.reading.fault in
    let number = c.line-number.result.0 in let line = c.line-number.result.1.now in
    let lt : c.each.place < length c.args.script.now.reading.lines = omega (arith, c.each-test.true, c.len-place-end.ensures) in
    let e = line_at lines c.each.place (number, line) lt c.line-number.ensures in
    line_ends labels blocks fault lines (taken c.args.sink.now) (taken c.each.sink) (taken c.play_line.new.sink) (play labels blocks fault c.args.net.now lines).text c.each.net c.each.place number line c.in-Some.reason e (sym c.in_ok-reason.ensures.fault ∙ c.in-Some.is) c.each.invariant.text c.in_ok-reason.ensures.ok

pub each-preserved : goal.each-preserved
each-preserved g c =
    let taken = g.K.Sink.taken in
    let labels = labels_of c.args.naming.now in let blocks = c.args.blocks.now in
    let lines = c.args.script.now.reading.lines in let fault = fault_read c.args.script.now.reading.fault in
    let number = c.line-number.result.0 in let line = c.line-number.result.1.now in
    let lt : c.each.place < length c.args.script.now.reading.lines = omega (arith, c.each-test.true, c.len-place-end.ensures) in
    let e = line_at lines c.each.place (number, line) lt c.line-number.ensures in
    let after = c.in_ok-reason.ensures.after in
    let keeps = turn_keeps labels blocks c.each.net line in
    let done = line_done labels blocks fault lines c.each.net c.play_line.new.net c.each.place number line e (sym c.in_ok-reason.ensures.fault ∙ c.in_default.is) after in
    record {
      live = ap (λ (n : Network). n.live) after ∙ keeps.0 ∙ c.each.invariant.live;
      count = ap (λ (n : Network). length n.kept) after ∙ keeps.1 ∙ c.each.invariant.count;
      text = wrote_more (turn labels blocks c.each.net line).text (left labels blocks fault lines c.play_line.new.net (c.each.place + 1)).text
          (subst (λ (t : Told). Wrote (taken c.args.sink.now) (taken c.each.sink) (play labels blocks fault c.args.net.now lines).text t.text) done c.each.invariant.text) c.in_ok-reason.ensures.ok;
      fault = c.each.invariant.fault ∙ ap (λ (t : Told). t.fault) done;
      quiet = c.in_ok-reason.ensures.quiet (λ h. cc) ∙ c.each.invariant.quiet;
    }

pub returns-clause-fault : goal.returns-clause-fault
returns-clause-fault g c =
    let taken = g.K.Sink.taken in
    let labels = labels_of c.args.naming.now in let blocks = c.args.blocks.now in
    let lines = c.args.script.now.reading.lines in let fault = fault_read c.args.script.now.reading.fault in
    let past : length c.args.script.now.reading.lines ≤ c.each.place = omega (arith, c.each-test.false, c.len-place-end.ensures) in
    let none = none_left labels blocks fault lines c.each.net c.each.place past in
    c.fault_of.ensures ∙ sym (c.each.invariant.fault ∙ ap (λ (t : Told). t.fault) none)

pub returns-clause-ok : goal.returns-clause-ok
returns-clause-ok g c =
    let taken = g.K.Sink.taken in
    let labels = labels_of c.args.naming.now in let blocks = c.args.blocks.now in
    let lines = c.args.script.now.reading.lines in let fault = fault_read c.args.script.now.reading.fault in
    let past : length c.args.script.now.reading.lines ≤ c.each.place = omega (arith, c.each-test.false, c.len-place-end.ensures) in
    let none = none_left labels blocks fault lines c.each.net c.each.place past in
    wrote_all (subst (λ (t : Told). Wrote (taken c.args.sink.now) (taken c.each.sink) (play labels blocks fault c.args.net.now lines).text t.text) none c.each.invariant.text)
