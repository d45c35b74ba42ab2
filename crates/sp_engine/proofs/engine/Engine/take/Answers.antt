use Rattle.std.proofs.Common.{◌∙◌, ◌++◌, ◌∷◌, [], ap, sym, subst, length}
use Rattle.sp_block.specs.Block.{ReadBlock}
use Rattle.sp_pool.specs.Kept.{Releases}
use Rattle.sp_engine.specs.Arrivals.{joined}
use Rattle.sp_engine.specs.Engine.{Ledger}
use Rattle.sp_engine.specs.declared.answer.Answer.TheVariants.{Kept, Held}
use Rattle.sp_engine.proofs.Arriving.{comes_accepting, comes_answer, comes_engine, comes_fitting, comes_numbered, comes_order, comes_of, held_is_no_growth, joins_of, kept_is, stands_again, waits_answer, waits_engine, waits_of}
use Rattle.sp_engine.proofs.ToldIds.{comes_told}
use Rattle.sp_engine.proofs.engine.Engine.take.Goals as goal

pub grow-grown-requires-clause-numbered : goal.grow-grown-requires-clause-numbered
grow-grown-requires-clause-numbered c =
    let came = comes_of c.self.view_is c.self.invariant c.block.view_is c.block.invariant c.requires.other c.requires.fresh in
    comes_numbered c.offer.new.self c.in_ok-ids.ensures.kept came

pub grow-grown-requires-clause-voted : goal.grow-grown-requires-clause-voted
grow-grown-requires-clause-voted c = c.self.invariant.0.voted

pub grow-grown-requires-clause-accepting : goal.grow-grown-requires-clause-accepting
grow-grown-requires-clause-accepting c =
    let came = comes_of c.self.view_is c.self.invariant c.block.view_is c.block.invariant c.requires.other c.requires.fresh in
    comes_accepting c.offer.new.self c.in_ok-ids.ensures.kept came c.self.invariant.1

pub grow-grown-requires-clause-paying : goal.grow-grown-requires-clause-paying
grow-grown-requires-clause-paying c = c.self.invariant.2

pub grow-grown-requires-clause-order : goal.grow-grown-requires-clause-order
grow-grown-requires-clause-order c =
    let came = comes_of c.self.view_is c.self.invariant c.block.view_is c.block.invariant c.requires.other c.requires.fresh in
    subst (λ ids. Releases c.offer.new.self c.self.inside.dag.ids ids) (sym c.as_slice-ids.ensures)
    (comes_order c.offer.new.self c.in-Present.ids c.in_ok-ids.ensures.kept came (joins_of c.in_ok-ids.field-0 c.in-Present.ids c.in-Present.is c.in_ok-ids.ensures.answer))

pub invariant_of-self-in-Ok : goal.invariant_of-self-in-Ok
invariant_of-self-in-Ok c =
    let came = comes_of c.self.view_is c.self.invariant c.block.view_is c.block.invariant c.requires.other c.requires.fresh in (
      comes_engine c.offer.new.self c.in-Present.ids c.grow-grown.new.dag c.grow-grown.new.votes c.in_ok-ids.ensures.kept came
          (joins_of c.in_ok-ids.field-0 c.in-Present.ids c.in-Present.is c.in_ok-ids.ensures.answer) c.in-Ok.ensures.in_order c.in-Ok.ensures.numbered
          (c.in-Ok.ensures.ids ∙ ap (λ ids. c.self.inside.dag.ids ++ ids) c.as_slice-ids.ensures) c.in-Ok.ensures.voted c.in-Ok.ensures.few,
      c.in-Ok.ensures.accepting,
      c.in-Ok.ensures.paying,
    )

pub invariant_of-self-in-Waiting : goal.invariant_of-self-in-Waiting
invariant_of-self-in-Waiting c =
    let came = comes_of c.self.view_is c.self.invariant c.block.view_is c.block.invariant c.requires.other c.requires.fresh in
    let held = c.self.invariant in (
      waits_engine c.offer.new.self c.in_ok-ids.ensures.kept came (waits_of c.in_ok-ids.field-0 c.in-Waiting.is c.in_ok-ids.ensures.answer),
      comes_accepting c.offer.new.self c.in_ok-ids.ensures.kept came held.1,
      held.2,
    )

pub returns-in-Ok-clause-answer : goal.returns-in-Ok-clause-answer
returns-in-Ok-clause-answer c =
    let came = comes_of c.self.view_is c.self.invariant c.block.view_is c.block.invariant c.requires.other c.requires.fresh in
    ap (Kept c.block.inside.id) (ap length c.as_slice-ids.ensures) ∙ ap (λ (b : ReadBlock). Kept b.id (length c.in-Present.ids)) c.block.view_is
    ∙ comes_answer c.in-Present.ids came (joins_of c.in_ok-ids.field-0 c.in-Present.ids c.in-Present.is c.in_ok-ids.ensures.answer)
    ∙ ap (λ (l : Ledger). joined l.kept c.args.block) c.self.view_is

pub returns-in-Waiting-clause-answer : goal.returns-in-Waiting-clause-answer
returns-in-Waiting-clause-answer c =
    let came = comes_of c.self.view_is c.self.invariant c.block.view_is c.block.invariant c.requires.other c.requires.fresh in
    ap (λ (b : ReadBlock). Held b.id) c.block.view_is ∙ waits_answer came (waits_of c.in_ok-ids.field-0 c.in-Waiting.is c.in_ok-ids.ensures.answer)
    ∙ ap (λ (l : Ledger). joined l.kept c.args.block) c.self.view_is

pub overflow_cast-present : goal.overflow_cast-present
overflow_cast-present c =
    let came = comes_of c.self.view_is c.self.invariant c.block.view_is c.block.invariant c.requires.other c.requires.fresh in
    comes_fitting c.in-Present.ids c.as_slice-ids.result.now c.as_slice-ids.ensures came (joins_of c.in_ok-ids.field-0 c.in-Present.ids c.in-Present.is c.in_ok-ids.ensures.answer)

pub returns-in-Waiting-clause-kept : goal.returns-in-Waiting-clause-kept
returns-in-Waiting-clause-kept c =
    let came = comes_of c.self.view_is c.self.invariant c.block.view_is c.block.invariant c.requires.other c.requires.fresh in
    kept_is c.offer.new.self c.in_ok-ids.ensures.kept came ∙ ap (λ (l : Ledger). l.kept ++ c.args.block ∷ []) c.self.view_is

pub returns-in-Waiting-clause-profile : goal.returns-in-Waiting-clause-profile
returns-in-Waiting-clause-profile c = ap (λ (l : Ledger). l.profile) c.self.view_is

pub returns-in-Waiting-clause-bits : goal.returns-in-Waiting-clause-bits
returns-in-Waiting-clause-bits c = ap (λ (l : Ledger). l.bits) c.self.view_is

pub returns-in-Waiting-clause-idle : goal.returns-in-Waiting-clause-idle
returns-in-Waiting-clause-idle c = λ _. (ap (λ (l : Ledger). l.numbered) c.self.view_is, ap (λ (l : Ledger). l.votes) c.self.view_is)

pub returns-in-Waiting-clause-one : goal.returns-in-Waiting-clause-one
returns-in-Waiting-clause-one c = λ id kept. held_is_no_growth c.block.inside.id id kept

pub returns-in_err-ids-clause-bits : goal.returns-in_err-ids-clause-bits
returns-in_err-ids-clause-bits c = ap (λ (l : Ledger). l.bits) c.self.view_is

pub invariant_of-self-in-Err : goal.invariant_of-self-in-Err
invariant_of-self-in-Err c =
    let came = comes_of c.self.view_is c.self.invariant c.block.view_is c.block.invariant c.requires.other c.requires.fresh in
    let back = c.withdraw.ensures c.self.inside.pool c.args.block (kept_is c.offer.new.self c.in_ok-ids.ensures.kept came) in
    stands_again back c.in-Err.ensures.dag c.in-Err.ensures.votes c.in-Err.ensures.carriers c.in-Err.ensures.accepted c.in-Err.ensures.purse c.self.invariant

pub grow-grown-requires-clause-told : goal.grow-grown-requires-clause-told
grow-grown-requires-clause-told c =
    let came = comes_of c.self.view_is c.self.invariant c.block.view_is c.block.invariant c.requires.other c.requires.fresh in
    comes_told c.offer.new.self c.block.inside.id c.args.tx_ids.now (ap (λ (b : ReadBlock). b.id) c.block.view_is) c.in_ok-ids.ensures.kept came c.requires.ids
