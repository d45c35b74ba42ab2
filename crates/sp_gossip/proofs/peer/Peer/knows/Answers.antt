use Rattle.std.proofs.Common.{◌≡◌, ℕ, List, [], length, eqb, true, false, sym, ap, subst, ◌∙◌}
use Rattle.std.proofs.lemmas.Bool.{false≢true}
use Rattle.sp_ids.specs.Bits.{BeginsWithZeros}
use Rattle.sp_block.specs.Block.{IsBlock, ReadBlock}
use Rattle.sp_model.specs.Graph.{has}
use Rattle.sp_pool.specs.Kept.{ids_of}
use Rattle.sp_gossip.proofs.Known.{is_known}
use Rattle.sp_gossip.proofs.peer.Peer.knows.Goals as goal

pub returns : goal.returns
returns c = λ there. (
    let is : IsBlock c.args.block.now = subst (λ (b : ReadBlock). IsBlock b) c.block.view_is c.block.invariant in
    let some : c.args.block.now.parents ≡ [] → ⊥ = λ none. (
    let ids : c.as_slice.result.now ≡ [] = c.as_slice.ensures ∙ ap (λ (b : ReadBlock). b.parents) c.block.view_is ∙ none in
    let empty : c.is_empty.result ≡ true = c.is_empty.ensures ∙ ap (λ (l : List ℕ). eqb (length l) 0) ids in
    false≢true (sym c.if-is_empty.false ∙ empty)
    ) in
    let met : c.check_work.result ≡ true = c.if-not-check_work.false in
    let work : BeginsWithZeros c.args.block.now.id c.args.self.now.bits = subst (λ (bits : ℕ). BeginsWithZeros c.args.block.now.id bits) (c.bits.ensures.value ∙ ap (λ k. k.bits) c.self.view_is) (c.check_work.ensures.0 met) in
    is_known c.args.self.now.bits c.args.self.now.kept c.args.block.now is some work (ap (λ (b : ReadBlock). has (ids_of c.args.self.now.kept) b.id) (sym c.block.view_is) ∙ sym c.keeps.ensures ∙ there)
    )
