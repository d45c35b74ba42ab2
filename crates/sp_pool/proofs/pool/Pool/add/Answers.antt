use Rattle.std.proofs.Common.{◌≡◌, ◌∙◌, ap, false, List, subst, sym, true}
use Rattle.std.specs.List.{list_all}
use Rattle.sp_block.specs.Block.{IsBlock, ReadBlock}
use Rattle.sp_model.specs.Graph.{has}
use Rattle.sp_pool.specs.Kept.{present}
use Rattle.sp_pool.specs.declared.answers.Offer.TheVariants.{Present, Waiting}
use Rattle.sp_pool.proofs.Adding.{Added, added_present, added_waiting}
use Rattle.sp_pool.proofs.pool.Pool.add.Goals as goal

became_present : (c : goal.After-release) → Added c.args.self.now c.args.block c.release.new.entries (Present c.release.result)
became_present c =
    let b = c.args.block in
    let block = subst (λ (b : ReadBlock). IsBlock b) c.block.view_is c.block.invariant in
    let own = c.as_slice.ensures ∙ ap (λ (b : ReadBlock). b.parents) c.block.view_is in
    let all : list_all (has (present c.args.self.now)) b.parents ≡ true =
    ap (list_all (has (present c.args.self.now))) (sym own) ∙ sym c.has_all.ensures ∙ c.if-has_all.true in
    subst (λ (kept : List ReadBlock). Added kept b c.release.new.entries (Present c.release.result)) c.self.view_is
    (added_present c.self.inside.entries c.push.new.self c.release.new.entries b c.release.result c.self.invariant block c.requires.other
    (rw (c.self.view_is) c.requires.fresh) (rw (c.self.view_is) all) c.in_ok-push.ensures.ok c.release.ensures.blocks c.release.ensures.order c.release.ensures.marks)

waits : (c : goal.In_ok-push-2) → Added c.args.self.now c.args.block c.push-else-has_all.new.self Waiting
waits c =
    let b = c.args.block in
    let block = subst (λ (b : ReadBlock). IsBlock b) c.block.view_is c.block.invariant in
    let own = c.as_slice.ensures ∙ ap (λ (b : ReadBlock). b.parents) c.block.view_is in
    let lacks : list_all (has (present c.args.self.now)) b.parents ≡ false =
    ap (list_all (has (present c.args.self.now))) (sym own) ∙ sym c.has_all.ensures ∙ c.if-has_all.false in
    subst (λ (kept : List ReadBlock). Added kept b c.push-else-has_all.new.self Waiting) c.self.view_is
    (added_waiting c.self.inside.entries c.push-else-has_all.new.self b c.self.invariant block c.requires.other
    (rw (c.self.view_is) c.requires.fresh) (rw (c.self.view_is) lacks) c.in_ok-push-2.ensures.ok)

pub invariant_of-self-then-has_all : goal.invariant_of-self-then-has_all
invariant_of-self-then-has_all c = (became_present c).pool

pub invariant_of-self-else-has_all : goal.invariant_of-self-else-has_all
invariant_of-self-else-has_all c = (waits c).pool

pub returns-in_ok-push-clause-answer : goal.returns-in_ok-push-clause-answer
returns-in_ok-push-clause-answer c = (became_present c).answer

pub returns-in_ok-push-clause-grown : goal.returns-in_ok-push-clause-grown
returns-in_ok-push-clause-grown c = (became_present c).grown

pub returns-in_ok-push-2-clause-answer : goal.returns-in_ok-push-2-clause-answer
returns-in_ok-push-2-clause-answer c = (waits c).answer

pub returns-in_ok-push-2-clause-grown : goal.returns-in_ok-push-2-clause-grown
returns-in_ok-push-2-clause-grown c = (waits c).grown
