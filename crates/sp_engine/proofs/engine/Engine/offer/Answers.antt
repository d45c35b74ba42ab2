use Rattle.std.proofs.Common.{◌∙◌, ap, refl, sym}
use Rattle.sp_engine.specs.Arrivals.{valid_in}
use Rattle.sp_engine.specs.Engine.{Ledger}
use Rattle.sp_engine.proofs.Judged.{answer_valid, if_ok, kept_refused, kept_valid, on_ok, refused, refused_is_no_growth}
use Rattle.sp_engine.proofs.engine.Engine.offer.Goals as goal

pub returns-clause-answer : goal.returns-clause-answer
returns-clause-answer c =
    refused c.args.self.now.bits c.args.self.now.kept c.args.bytes.now c.in-Err.refusal (ap (λ (l : Ledger). valid_in l.bits c.args.bytes.now) (sym c.self.view_is) ∙ sym c.in_ok-block.ensures.found ∙ c.in-Err.is)

pub returns-clause-kept : goal.returns-clause-kept
returns-clause-kept c =
    kept_refused c.args.self.now.bits c.args.self.now.kept c.args.bytes.now c.in-Err.refusal (ap (λ (l : Ledger). valid_in l.bits c.args.bytes.now) (sym c.self.view_is) ∙ sym c.in_ok-block.ensures.found ∙ c.in-Err.is)

pub returns-in-Ok-clause-answer : goal.returns-in-Ok-clause-answer
returns-in-Ok-clause-answer c =
    let valid = ap (λ (l : Ledger). valid_in l.bits c.args.bytes.now) (sym c.self.view_is) ∙ sym c.in_ok-block.ensures.found ∙ c.in-Ok.is in
    if_ok c.keep.result _ _ (answer_valid c.args.self.now.bits c.args.self.now.kept c.args.bytes.now c.in-Ok.block valid) c.keep.ensures.answer

pub returns-in-Ok-clause-kept : goal.returns-in-Ok-clause-kept
returns-in-Ok-clause-kept c =
    let valid = ap (λ (l : Ledger). valid_in l.bits c.args.bytes.now) (sym c.self.view_is) ∙ sym c.in_ok-block.ensures.found ∙ c.in-Ok.is in
    on_ok c.keep.result _ _ _ (kept_valid c.args.self.now.bits c.args.self.now.kept c.args.bytes.now c.in-Ok.block valid) c.keep.ensures.kept

pub returns-in-Ok-clause-bits : goal.returns-in-Ok-clause-bits
returns-in-Ok-clause-bits c = c.keep.ensures.bits

pub returns-in-Ok-clause-idle : goal.returns-in-Ok-clause-idle
returns-in-Ok-clause-idle c = c.keep.ensures.idle

pub returns-in-Ok-clause-one : goal.returns-in-Ok-clause-one
returns-in-Ok-clause-one c = c.keep.ensures.one

pub returns-clause-idle : goal.returns-clause-idle
returns-clause-idle c = λ _. (refl, refl)

pub returns-clause-one : goal.returns-clause-one
returns-clause-one c = λ id kept. refused_is_no_growth c.in-Err.refusal id kept
