use Rattle.std.proofs.Common.{ap, length, subst, sym, List, ℕ, ◌≡◌, true, ◌∙◌, eqb}
use Rattle.std.proofs.lemmas.Bool.{false≢true}
use Rattle.sp_block.specs.Block.{IsBlock, ReadBlock}
use Rattle.sp_pool.specs.Marks.{Marked}
use Rattle.sp_pool.specs.Pool.{IsPool}
use Rattle.sp_pool.proofs.Adding.{pool_alone}
use Rattle.sp_pool.proofs.KeptBlocks.{no_parents}
use Rattle.sp_pool.specs.Kept.{present}
use Rattle.sp_pool.proofs.Runs.{present_alone}
use Rattle.sp_pool.proofs.pool.Pool.new.Goals as goal

pub prove-unreachable-requires : goal.prove-unreachable-requires
prove-unreachable-requires c =
    let block = subst (λ (b : ReadBlock). IsBlock b) c.genesis.view_is c.genesis.invariant in
    let none = no_parents c.args.genesis block c.requires in
    let ids = c.as_slice.ensures ∙ ap (λ (b : ReadBlock). b.parents) c.genesis.view_is ∙ none in
    let empty : c.is_empty.result ≡ true = c.is_empty.ensures ∙ ap (λ (l : List ℕ). eqb (length l) 0) ids in
    false≢true (sym c.if-prove.true ∙ empty)

pub invariant_of-result : goal.invariant_of-result
invariant_of-result c =
    let block = subst (λ (b : ReadBlock). IsBlock b) c.genesis.view_is c.genesis.invariant in
    subst (λ (m : Marked). IsPool m) (sym c.in_ok-entries.ensures) (pool_alone c.args.genesis block c.requires)

pub returns-clause-present : goal.returns-clause-present
returns-clause-present c =
    let block = subst (λ (b : ReadBlock). IsBlock b) c.genesis.view_is c.genesis.invariant in
    ap (λ (m : Marked). present m.blocks) c.in_ok-entries.ensures ∙ present_alone c.args.genesis (no_parents c.args.genesis block c.requires)
