use Rattle.std.proofs.Common.{◌<◌, ℕ, List, ap, sym, subst, length, arith}
use Rattle.std.specs.Io.KnownBytes.{Appends}
use Rattle.sp_io.specs.Whole.{AppendsFront}
use Rattle.sp_play.specs.Source.{scenario_limit}
use Rattle.spectre.specs.Faults.{HasFault, HasNoFault, IsFaultyText, IsWholeText}
use Rattle.spectre.specs.Output.{source_output, task_output}
use Rattle.spectre.proofs.Outputs.{is_short, on_input, on_limit, on_nothing, on_played, on_too_long, output_short}
use Rattle.spectre.proofs.play.from_source.Goals as goal

pub run_text-requires : goal.run_text-requires
run_text-requires g c = omega (arith, c.deref.ensures.len, c.in-Ok.ensures.short)

pub returns-in-Ok-clause-done : goal.returns-in-Ok-clause-done
returns-in-Ok-clause-done g c = λ e.
    let a = g.K.Sink.taken c.args.sink.now in
    let b = g.K.Sink.taken c.run_text.new.sink in
    let text = c.in-Ok.text.items in
    let short : length text < scenario_limit = omega (arith, ap length c.deref.ensures.value, c.deref.ensures.len, c.in-Ok.ensures.short) in
    let did = subst (λ (t : List ℕ). Appends a b (task_output c.args.task t) × HasNoFault c.args.task t) c.deref.ensures.value (c.run_text.ensures.done e) in
    on_input (λ (input : List ℕ). Appends a b (source_output c.args.task input) × IsWholeText c.args.task input) (g.S.Source.left c.args.source.now) (g.S.Source.left c.read_scenario.new.source) text c.in-Ok.ensures.bytes c.in-Ok.ensures.end (
      subst (λ (t : List ℕ). Appends a b t) (sym (output_short c.args.task text (is_short (length text) short))) did.0,
      record { right = did.1; short = short },
    )

pub returns-in-Ok-clause-malformed : goal.returns-in-Ok-clause-malformed
returns-in-Ok-clause-malformed g c = λ e.
    let a = g.K.Sink.taken c.args.sink.now in
    let b = g.K.Sink.taken c.run_text.new.sink in
    let text = c.in-Ok.text.items in
    let short : length text < scenario_limit = omega (arith, ap length c.deref.ensures.value, c.deref.ensures.len, c.in-Ok.ensures.short) in
    let did = subst (λ (t : List ℕ). Appends a b (task_output c.args.task t) × HasFault c.args.task t) c.deref.ensures.value (c.run_text.ensures.malformed e) in
    on_input (λ (input : List ℕ). Appends a b (source_output c.args.task input) × IsFaultyText c.args.task input) (g.S.Source.left c.args.source.now) (g.S.Source.left c.read_scenario.new.source) text c.in-Ok.ensures.bytes c.in-Ok.ensures.end (
      subst (λ (t : List ℕ). Appends a b t) (sym (output_short c.args.task text (is_short (length text) short))) did.0,
      record { wrong = did.1; short = short },
    )

pub returns-in-Ok-clause-write_fault : goal.returns-in-Ok-clause-write_fault
returns-in-Ok-clause-write_fault g c = λ e.
    let a = g.K.Sink.taken c.args.sink.now in
    let b = g.K.Sink.taken c.run_text.new.sink in
    let short : length c.in-Ok.text.items < scenario_limit = omega (arith, ap length c.deref.ensures.value, c.deref.ensures.len, c.in-Ok.ensures.short) in
    let front = subst (λ (t : List ℕ). AppendsFront a b (task_output c.args.task t)) c.deref.ensures.value (c.run_text.ensures.write_fault e) in
    on_played c.args.task (AppendsFront a b) (g.S.Source.left c.args.source.now) (g.S.Source.left c.read_scenario.new.source) c.in-Ok.text.items c.in-Ok.ensures.bytes c.in-Ok.ensures.end short front

pub returns-in-Ok-clause-memory : goal.returns-in-Ok-clause-memory
returns-in-Ok-clause-memory g c = λ e.
    let a = g.K.Sink.taken c.args.sink.now in
    let b = g.K.Sink.taken c.run_text.new.sink in
    let short : length c.in-Ok.text.items < scenario_limit = omega (arith, ap length c.deref.ensures.value, c.deref.ensures.len, c.in-Ok.ensures.short) in
    let front = subst (λ (t : List ℕ). AppendsFront a b (task_output c.args.task t)) c.deref.ensures.value (c.run_text.ensures.memory e) in
    on_played c.args.task (AppendsFront a b) (g.S.Source.left c.args.source.now) (g.S.Source.left c.read_scenario.new.source) c.in-Ok.text.items c.in-Ok.ensures.bytes c.in-Ok.ensures.end short front

pub returns-in-Err-TooLong-clause-write_fault : goal.returns-in-Err-TooLong-clause-write_fault
returns-in-Err-TooLong-clause-write_fault g c = λ e.
    let a = g.K.Sink.taken c.args.sink.now in
    let b = g.K.Sink.taken c.write_too_long.new.sink in
    let cause = rw c.in-Err-TooLong.field-0-is at c.in-Err-TooLong.ensures.cause in
    on_too_long c.args.task (AppendsFront a b) (g.S.Source.left c.args.source.now) (g.S.Source.left c.read_scenario.new.source) cause.1 (c.write_too_long.ensures.write_fault e)

pub returns-in-Err-TooLong-clause-too_long_end : goal.returns-in-Err-TooLong-clause-too_long_end
returns-in-Err-TooLong-clause-too_long_end g c = λ _.
    let cause = rw c.in-Err-TooLong.field-0-is at c.in-Err-TooLong.ensures.cause in
    on_limit (g.S.Source.left c.args.source.now) (g.S.Source.left c.read_scenario.new.source) cause.1

pub returns-in-Err-Memory-clause-memory : goal.returns-in-Err-Memory-clause-memory
returns-in-Err-Memory-clause-memory g c = λ _. on_nothing c.args.task (g.K.Sink.taken c.args.sink.now) (g.S.Source.left c.args.source.now)
