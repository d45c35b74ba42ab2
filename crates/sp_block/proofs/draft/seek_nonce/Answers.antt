use Rattle.std.proofs.Common.{◌≡◌, ◌+◌, ◌-◌, ap, ◌∙◌, below_more, arith}
use Rattle.std.proofs.lemmas.Bool.{iff_false}
use Rattle.sp_block.specs.Draft.{draft_text}
use Rattle.sp_block.proofs.Nonces.{told_work, with_nonce-draft_text}
use Rattle.sp_block.proofs.draft.seek_nonce.Goals as goal

pub returns-then-meets : goal.returns-then-meets
returns-then-meets c =
    let text = with_nonce-draft_text c.args.draft.now (c.tries.nonce - 1) c.tries.nonce c.tries.bytes c.set_nonce.new.bytes c.tries.invariant.bytes c.set_nonce.ensures in
    let told = told_work c.args.draft.now c.args.bits c.tries.nonce c.set_nonce.new.bytes c.of.result c.meets.result text c.of.ensures c.meets.ensures in
    record { below = omega arith; meets = told.0 c.if-meets.true; least = c.tries.invariant.none }

pub tries-preserved : goal.tries-preserved
tries-preserved c =
    let text = with_nonce-draft_text c.args.draft.now (c.tries.nonce - 1) c.tries.nonce c.tries.bytes c.set_nonce.new.bytes c.tries.invariant.bytes c.set_nonce.ensures in
    let told = told_work c.args.draft.now c.args.bits c.tries.nonce c.set_nonce.new.bytes c.of.result c.meets.result text c.of.ensures c.meets.ensures in
    let next : c.tries.nonce ≡ c.tries.nonce + 1 - 1 = omega arith in
    record { bytes = text ∙ ap (draft_text c.args.draft.now) next; none = below_more _ _ c.tries.invariant.none (iff_false told c.if-meets.false) }

pub returns : goal.returns
returns c = λ nonce below. c.tries.invariant.none nonce (omega arith)
