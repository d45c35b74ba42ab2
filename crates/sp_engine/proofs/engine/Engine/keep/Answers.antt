use Rattle.std.proofs.Common.{◌∙◌, ap, refl, sym}
use Rattle.sp_block.specs.Block.{ReadBlock}
use Rattle.sp_pool.specs.Kept.{kept_by}
use Rattle.sp_pool.specs.declared.answers.Standing.{Standing}
use Rattle.sp_engine.specs.Arrivals.{answer_by}
use Rattle.sp_engine.specs.declared.answer.Answer.TheVariants.{Known}
use Rattle.sp_engine.proofs.Judged.{full_is_no_growth, if_ok, known_is_no_growth, on_ok, stands_as}
use Rattle.sp_engine.proofs.engine.Engine.keep.Goals as goal

pub returns-in-Known-clause-answer : goal.returns-in-Known-clause-answer
returns-in-Known-clause-answer c =
    ap (λ (b : ReadBlock). Known b.id) c.block.view_is ∙ sym (ap (λ (s : Standing). answer_by s c.args.self.now.kept c.args.block) (stands_as c.self.view_is c.block.view_is c.standing.ensures c.in-Known.is))

pub returns-in-Known-clause-kept : goal.returns-in-Known-clause-kept
returns-in-Known-clause-kept c = sym (ap (λ (s : Standing). kept_by s c.args.self.now.kept c.args.block) (stands_as c.self.view_is c.block.view_is c.standing.ensures c.in-Known.is))

pub returns-in-Full-clause-answer : goal.returns-in-Full-clause-answer
returns-in-Full-clause-answer c = sym (ap (λ (s : Standing). answer_by s c.args.self.now.kept c.args.block) (stands_as c.self.view_is c.block.view_is c.standing.ensures c.in-Full.is))

pub returns-in-Full-clause-kept : goal.returns-in-Full-clause-kept
returns-in-Full-clause-kept c = sym (ap (λ (s : Standing). kept_by s c.args.self.now.kept c.args.block) (stands_as c.self.view_is c.block.view_is c.standing.ensures c.in-Full.is))

pub returns-in-Fresh-clause-answer : goal.returns-in-Fresh-clause-answer
returns-in-Fresh-clause-answer c =
    if_ok c.take.result _ _ (sym (ap (λ (s : Standing). answer_by s c.args.self.now.kept c.args.block) (stands_as c.self.view_is c.block.view_is c.standing.ensures c.in-Fresh.is))) c.take.ensures.answer

pub returns-in-Fresh-clause-kept : goal.returns-in-Fresh-clause-kept
returns-in-Fresh-clause-kept c =
    on_ok c.take.result _ _ _ (sym (ap (λ (s : Standing). kept_by s c.args.self.now.kept c.args.block) (stands_as c.self.view_is c.block.view_is c.standing.ensures c.in-Fresh.is))) c.take.ensures.kept

pub take-requires-clause-fresh : goal.take-requires-clause-fresh
take-requires-clause-fresh c = stands_as c.self.view_is c.block.view_is c.standing.ensures c.in-Fresh.is

pub returns-in-Known-clause-idle : goal.returns-in-Known-clause-idle
returns-in-Known-clause-idle c = λ _. (refl, refl)

pub returns-in-Known-clause-one : goal.returns-in-Known-clause-one
returns-in-Known-clause-one c = λ id kept. known_is_no_growth c.block.inside.id id kept

pub returns-in-Full-clause-idle : goal.returns-in-Full-clause-idle
returns-in-Full-clause-idle c = λ _. (refl, refl)

pub returns-in-Full-clause-one : goal.returns-in-Full-clause-one
returns-in-Full-clause-one c = λ id kept. full_is_no_growth id kept

pub returns-in-Fresh-clause-bits : goal.returns-in-Fresh-clause-bits
returns-in-Fresh-clause-bits c = c.take.ensures.bits

pub returns-in-Fresh-clause-idle : goal.returns-in-Fresh-clause-idle
returns-in-Fresh-clause-idle c = c.take.ensures.idle

pub returns-in-Fresh-clause-one : goal.returns-in-Fresh-clause-one
returns-in-Fresh-clause-one c = c.take.ensures.one
