use Rattle.std.proofs.Common.{◌≤◌, ◌+◌, eqb, get_or, length, ℕ, sym, ap, subst, ◌∙◌, arith}
use Rattle.std.proofs.lemmas.List.{take_all}
use Rattle.sp_gossip.specs.Cut.{line_count, Parts}
use Rattle.sp_gossip.proofs.Cuts.{both, few_lines, found_here, lines_before, lines_seen, none_found, one_seen, Seen}
use Rattle.sp_gossip.proofs.cut.find_script.Goals as goal

pub bytes-preserved : goal.bytes-preserved
bytes-preserved c =
    subst (λ (n : ℕ). Seen c.args.text.now (c.bytes.place + 1) (eqb (get_or c.args.text.now c.bytes.place 0) 10) n) (sym c.counted-ends.ensures)
    (one_seen c.args.text.now c.bytes.place c.bytes.begins c.bytes.ends c.bytes-test.true c.bytes.invariant (sym c.is_script.ensures ∙ c.if-is_script.false))

pub returns-then-is_script-clause-scenario : goal.returns-then-is_script-clause-scenario
returns-then-is_script-clause-scenario c =
    sym (ap (λ (p : Parts). p.scenario) (found_here c.args.text.now c.bytes.place c.bytes.begins c.bytes.ends c.bytes-test.true c.bytes.invariant (sym c.is_script.ensures ∙ c.if-is_script.true)))

pub returns-then-is_script-clause-script : goal.returns-then-is_script-clause-script
returns-then-is_script-clause-script c =
    ap (λ (p : Parts). p.script) (found_here c.args.text.now c.bytes.place c.bytes.begins c.bytes.ends c.bytes-test.true c.bytes.invariant (sym c.is_script.ensures ∙ c.if-is_script.true))

pub returns-then-is_script-clause-lines : goal.returns-then-is_script-clause-lines
returns-then-is_script-clause-lines c =
    let yes_ = sym c.is_script.ensures ∙ c.if-is_script.true in
    lines_before c.args.text.now c.bytes.place c.bytes.begins c.bytes.ends c.bytes.invariant (both c.bytes.begins _ yes_).0
    ∙ sym (ap (λ (p : Parts). line_count p.scenario) (found_here c.args.text.now c.bytes.place c.bytes.begins c.bytes.ends c.bytes-test.true c.bytes.invariant yes_))

pub returns-then-is_script-clause-begins : goal.returns-then-is_script-clause-begins
returns-then-is_script-clause-begins c = λ _. (both c.bytes.begins _ (sym c.is_script.ensures ∙ c.if-is_script.true)).1

pub returns-clause-scenario : goal.returns-clause-scenario
returns-clause-scenario c =
    let past : length c.args.text.now ≤ c.bytes.place = omega (arith, c.bytes-test.false) in
    let all : length c.args.text.now ≤ length c.args.text.now = omega arith in
    take_all (length c.args.text.now) c.args.text.now all
    ∙ sym (ap (λ (p : Parts). p.scenario) (none_found c.args.text.now c.bytes.place c.bytes.begins c.bytes.ends past c.bytes.invariant))

pub returns-clause-script : goal.returns-clause-script
returns-clause-script c =
    let past : length c.args.text.now ≤ c.bytes.place = omega (arith, c.bytes-test.false) in
    ap (λ (p : Parts). p.script) (none_found c.args.text.now c.bytes.place c.bytes.begins c.bytes.ends past c.bytes.invariant)

pub returns-clause-lines : goal.returns-clause-lines
returns-clause-lines c =
    let past : length c.args.text.now ≤ c.bytes.place = omega (arith, c.bytes-test.false) in
    c.lines_by.ensures ∙ lines_seen c.args.text.now c.bytes.place c.bytes.begins c.bytes.ends c.bytes.invariant
    ∙ ap line_count (take_all c.bytes.place c.args.text.now past)
    ∙ sym (ap (λ (p : Parts). line_count p.scenario) (none_found c.args.text.now c.bytes.place c.bytes.begins c.bytes.ends past c.bytes.invariant))

pub returns-clause-few : goal.returns-clause-few
returns-clause-few c =
    let at_end : c.bytes.place ≤ length c.args.text.now = c.bytes.auto.place-end in
    let few = few_lines c.bytes.begins c.bytes.place c.bytes.ends c.bytes.invariant.few in
    let is = c.lines_by.ensures in
    omega (arith, at_end, few, is)
