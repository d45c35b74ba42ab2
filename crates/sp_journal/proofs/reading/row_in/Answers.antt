use Rattle.std.proofs.Common.{◌∙◌, List, ℕ, ap, subst, sym, take}
use Rattle.sp_journal.specs.Records.{is_shut}
use Rattle.sp_journal.specs.Recovery.{FindsRecord}
use Rattle.sp_journal.proofs.Windows.{no_row_seen, row_seen, shut_seen}
use Rattle.sp_journal.proofs.reading.row_in.Goals as goal

pub returns-then-is_at_end-clause-row : goal.returns-then-is_at_end-clause-row
returns-then-is_at_end-clause-row c list bytes is =
    sym (shut_seen list) ∙ ap is_shut (sym (c.of-fields.ensures.all ∙ is)) ∙ sym c.is_at_end.ensures ∙ c.if-is_at_end.true

pub returns-in-Some-clause-row : goal.returns-in-Some-clause-row
returns-in-Some-clause-row c list bytes is =
    let shut = sym (shut_seen list) ∙ ap is_shut (sym (c.of-fields.ensures.all ∙ is)) ∙ sym c.is_at_end.ensures ∙ c.if-is_at_end.false in
    let found = subst (λ (l : List ℕ). FindsRecord c.args.bits c.args.ids.now l c.record.new.fields c.in_ok-found.found) (c.of-fields.ensures.all ∙ is) c.in_ok-found.ensures.found in
    let here = subst (FindsRecord c.args.bits c.args.ids.now (take 65550 list) c.record.new.fields) c.in-Some.is found in
    (shut, row_seen list bytes c.args.bits c.args.ids.now c.record.new.fields c.in-Some.block here)

pub returns-in-None-clause-row : goal.returns-in-None-clause-row
returns-in-None-clause-row c list bytes is =
    let shut = sym (shut_seen list) ∙ ap is_shut (sym (c.of-fields.ensures.all ∙ is)) ∙ sym c.is_at_end.ensures ∙ c.if-is_at_end.false in
    let found = subst (λ (l : List ℕ). FindsRecord c.args.bits c.args.ids.now l c.record.new.fields c.in_ok-found.found) (c.of-fields.ensures.all ∙ is) c.in_ok-found.ensures.found in
    let here = subst (FindsRecord c.args.bits c.args.ids.now (take 65550 list) c.record.new.fields) c.in-None.is found in
    (shut, no_row_seen list bytes c.args.bits c.args.ids.now c.record.new.fields here)
