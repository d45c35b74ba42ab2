use Rattle.std.proofs.Common.{◌≡◌, true, false, Ok, inr, sym, ap, subst, ◌∙◌}
use Rattle.sp_block.specs.Block.{ReadBlock}
use Rattle.sp_journal.specs.Judged.{has}
use Rattle.sp_journal.specs.Recovery.{IsSpelled}
use Rattle.sp_journal.proofs.Recovered.{easy_record, good_record, known_record, no_block}
use Rattle.sp_journal.proofs.reading.record.Goals as goal

pub returns-in_default-found-clause-found : goal.returns-in_default-found-clause-found
returns-in_default-found-clause-found c =
    let s = subst (IsSpelled false c.in-Some.bytes.now) c.in_default-found.is c.in_ok-found.ensures in
    inr (c.in-Some.bytes.now, c.open_record.new.fields, c.in-Some.ensures, no_block c.args.bits c.args.ids.now c.in-Some.bytes.now s)

pub returns-then-is_known-clause-found : goal.returns-then-is_known-clause-found
returns-then-is_known-clause-found c =
    let s = subst (IsSpelled false c.in-Some.bytes.now) c.in-Some-found.is c.in_ok-found.ensures in
    let same = ap (λ (b : ReadBlock). b.id) c.block.view_is in
    let known = ap (has c.args.ids.now) (sym same) ∙ sym c.is_known.ensures ∙ c.if-is_known.true in
    inr (c.in-Some.bytes.now, c.open_record.new.fields, c.in-Some.ensures, known_record c.args.bits c.args.ids.now c.in-Some.bytes.now c.in-Some-found.block s known)

pub returns-then-not-check_work-clause-found : goal.returns-then-not-check_work-clause-found
returns-then-not-check_work-clause-found c =
    let s = subst (IsSpelled false c.in-Some.bytes.now) c.in-Some-found.is c.in_ok-found.ensures in
    let same = ap (λ (b : ReadBlock). b.id) c.block.view_is in
    let misses = c.if-not-check_work.true in
    inr (
      c.in-Some.bytes.now,
      c.open_record.new.fields,
      c.in-Some.ensures,
      easy_record c.args.bits c.args.ids.now c.in-Some.bytes.now c.in-Some-found.block s
          (λ work. let meets : c.check_work.result ≡ true = c.check_work.ensures.1 work in absurd (cc (meets, misses))),
    )

pub returns-clause-found : goal.returns-clause-found
returns-clause-found c =
    let s = subst (IsSpelled false c.in-Some.bytes.now) c.in-Some-found.is c.in_ok-found.ensures in
    let same = ap (λ (b : ReadBlock). b.id) c.block.view_is in
    let fresh = ap (has c.args.ids.now) (sym same) ∙ sym c.is_known.ensures ∙ c.if-is_known.false in
    let work = c.check_work.ensures.0 c.if-not-check_work.false in
    (c.in-Some.ensures ∙ (λ i. Ok (sym s.same i, c.open_record.new.fields)), good_record c.args.bits c.args.ids.now c.in-Some.bytes.now c.in-Some-found.block s fresh work)
