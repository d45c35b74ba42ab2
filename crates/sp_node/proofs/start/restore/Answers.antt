use Rattle.std.proofs.Common.{◌≡◌, ◌∙◌, ◌++◌, ℕ, List, ap, sym, subst, refl, arith}
use Rattle.std.specs.Prelude.{fold}
use Rattle.std.proofs.lemmas.List.{append-nil, take_all}
use Rattle.sp_ids.specs.Digest.{sha256_number}
use Rattle.sp_block.specs.Block.{ReadBlock}
use Rattle.sp_engine.specs.Arrivals.{kept_after}
use Rattle.sp_node.proofs.Restarted.{next, one_restored, sent_all}
use Rattle.sp_node.proofs.start.restore.Goals as goal

pub each-init : goal.each-init
each-init c = record {
  profile = refl;
  bits = refl;
  place = omega arith;
  restored = record { so_far = sym (append-nil c.args.engine.now.kept); sent = refl; rest = c.requires.good };
}

pub each-preserved : goal.each-preserved
each-preserved c =
    let bits = c.args.engine.now.bits in
    let before = c.args.engine.now.kept in
    let blocks = c.args.blocks.now in
    let block = c.index-blocks-i.result in
    let is : c.offer.new.self.kept ≡ kept_after bits c.each.engine.kept block.bytes =
    c.in_ok-offer.ensures.kept ∙ ap (λ (b : ℕ). kept_after b c.each.engine.kept c.as_slice.result.now) c.each.invariant.bits
    ∙ ap (λ (t : List ℕ). kept_after bits c.each.engine.kept t) c.as_slice.ensures
    ∙ ap (λ (b : ReadBlock). kept_after bits c.each.engine.kept b.bytes) c.block.view_is in
    record {
      profile = c.in_ok-offer.ensures.profile ∙ c.each.invariant.profile;
      bits = c.offer.ensures.bits ∙ c.each.invariant.bits;
      place = omega (arith, c.each-test.true);
      restored = one_restored bits before blocks c.each.engine.kept c.offer.new.self.kept c.each.i block c.each.invariant.restored c.each-test.true c.index-blocks-i.is
          (subst (λ (b : ReadBlock). b.id ≡ sha256_number b.bytes) c.block.view_is c.block.invariant.id) c.requires.few is;
    }

pub returns-clause-kept : goal.returns-clause-kept
returns-clause-kept c = c.each.invariant.restored.so_far ∙ ap (λ (l : List ReadBlock). c.args.engine.now.kept ++ l) (take_all c.each.i c.args.blocks.now c.each-test.false)

pub returns-clause-sent : goal.returns-clause-sent
returns-clause-sent c =
    let bits = c.args.engine.now.bits in
    let before = c.args.engine.now.kept in
    c.each.invariant.restored.sent ∙ ap (fold (next bits) before) (take_all c.each.i c.args.blocks.now c.each-test.false) ∙ sent_all bits before c.args.blocks.now
