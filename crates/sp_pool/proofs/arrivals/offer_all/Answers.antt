use Rattle.std.proofs.Common.{◌≡◌, ◌∷◌, ◌++◌, [], List, subst, sym, arith}
use Rattle.std.proofs.lemmas.Grind.{common_steps}
use Rattle.std.specs.Vec.Iter.{into_iter_items}
use Rattle.sp_block.specs.Block.{IsBlock, ReadBlock}
use Rattle.sp_pool.specs.declared.answers.Offer.{Offer}
use Rattle.sp_pool.proofs.Runs.{next_other, Offered, Offered-all, Offered-more}
use Rattle.sp_pool.proofs.arrivals.offer_all.Goals as goal

-- the blocks that are left, where there is one more
with_next : (genesis : ReadBlock) (arrivals offered rest kept : List ReadBlock) (answers : List Offer) (left : List ReadBlock) → left ≡ rest
    → Offered genesis arrivals offered left kept answers → Offered genesis arrivals offered rest kept answers
with_next genesis arrivals offered rest kept answers left is h = subst (λ (l : List ReadBlock). Offered genesis arrivals offered l kept answers) is h

pub offer-requires : goal.offer-requires
offer-requires c =
    let b = c.in-Some.block in
    let rest = into_iter_items c.next.new.self in
    next_other c.args.genesis c.args.blocks.items c.loop-block.yielded rest c.loop-block.pool c.loop-block.answers.items b
    (with_next c.args.genesis c.args.blocks.items c.loop-block.yielded (b ∷ rest) c.loop-block.pool c.loop-block.answers.items
    (into_iter_items c.loop-block.block-iterator) c.in-Some.ensures.steps.0 c.loop-block.invariant)
    c.requires.others

pub loop-block-preserved : goal.loop-block-preserved
loop-block-preserved c =
    let b = c.in-Some.block in
    let rest = into_iter_items c.next.new.self in
    let block = subst (λ (b : ReadBlock). IsBlock b) c.block.view_is c.block.invariant in
    let more = Offered-more c.args.genesis c.args.blocks.items c.loop-block.yielded rest c.loop-block.pool c.offer.new.self c.loop-block.answers.items b c.in_ok-answer.answer
    (with_next c.args.genesis c.args.blocks.items c.loop-block.yielded (b ∷ rest) c.loop-block.pool c.loop-block.answers.items
    (into_iter_items c.loop-block.block-iterator) c.in-Some.ensures.steps.0 c.loop-block.invariant)
    block c.in_ok-answer.ensures.kept c.in_ok-answer.ensures.answer c.in_ok-answer.ensures.grown in
    subst (λ (answers : List Offer). Offered c.args.genesis c.args.blocks.items (c.loop-block.yielded ++ b ∷ []) rest c.offer.new.self answers)
    (sym c.in_ok-push.ensures.items) more

pub returns-clause-kept_by_bytes : goal.returns-clause-kept_by_bytes
returns-clause-kept_by_bytes c =
    let left = into_iter_items c.loop-block.block-iterator in
    let none : left ≡ [] = grind (arith, common_steps, c.in-None.ensures.steps) in
    (Offered-all c.args.genesis c.args.blocks.items c.loop-block.yielded left c.loop-block.pool c.loop-block.answers.items c.loop-block.invariant
    none c.requires.others).by_bytes

pub returns-clause-answers : goal.returns-clause-answers
returns-clause-answers c =
    let left = into_iter_items c.loop-block.block-iterator in
    let none : left ≡ [] = grind (arith, common_steps, c.in-None.ensures.steps) in
    (Offered-all c.args.genesis c.args.blocks.items c.loop-block.yielded left c.loop-block.pool c.loop-block.answers.items c.loop-block.invariant
    none c.requires.others).answered
