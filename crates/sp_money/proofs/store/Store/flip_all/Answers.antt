use Rattle.std.proofs.Common.{◌∙◌, false, get_or, arith}
use Rattle.sp_carry.proofs.Flipping.{set_next}
use Rattle.sp_carry.proofs.Keeping.{any_default}
use Rattle.sp_money.proofs.store.Store.flip_all.Goals as goal

pub flips-preserved : goal.flips-preserved
flips-preserved c =
    let flip = get_or c.args.flips.now c.flips.flip-index (record { tx = 0; now = false }) in (
      c.flip.ensures.kept,
      c.flip.ensures.of,
      c.flip.ensures.accepted
          ∙ set_next c.args.self.now.accepted.items c.flips.self.accepted.items c.args.flips.now c.flips.flip-index flip (omega arith) (any_default c.args.flips.now c.flips.flip-index _ _ (omega arith)) c.flips.invariant.2,
    )
