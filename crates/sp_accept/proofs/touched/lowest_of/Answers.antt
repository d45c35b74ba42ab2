use Rattle.std.proofs.Common.{◌≤◌, ◌∙◌, ℕ, ap, arith}
use Rattle.sp_carry.specs.declared.carrier.Carrier.{Carrier}
use Rattle.sp_carry.proofs.Keeping.{any_default}
use Rattle.sp_accept.specs.Rows.{row_at}
use Rattle.sp_accept.proofs.Spanned.{all_whole, lowest_more}
use Rattle.sp_accept.proofs.touched.lowest_of.Goals as goal

pub turned-preserved : goal.turned-preserved
turned-preserved c =
    lowest_more (λ d. (row_at c.args.carriers.now.rows d).tx) c.args.turned.now c.turned.c-index c.turned.first c.carrier_at.result.tx c.min-first.result c.turned-test.true c.min-first.ensures
    (λ d. ap (λ (r : Carrier). r.tx) c.carrier_at.ensures.value ∙ ap (λ (e : ℕ). (row_at c.args.carriers.now.rows e).tx) (any_default c.args.turned.now c.turned.c-index _ d c.turned-test.true))
    c.turned.invariant

pub returns : goal.returns
returns c = all_whole (λ d. c.turned.first ≤ (row_at c.args.carriers.now.rows d).tx) c.args.turned.now c.turned.c-index (omega (arith, c.turned-test.false)) c.turned.invariant
