use Rattle.std.proofs.Common.{◌<◌, ◌+◌, ◌∙◌, ℕ, length, ap, arith}
use Rattle.sp_carry.specs.declared.carrier.Carrier.{Carrier}
use Rattle.sp_carry.proofs.Keeping.{any_default}
use Rattle.sp_accept.specs.Rows.{row_at}
use Rattle.sp_accept.proofs.Spanned.{all_whole, bound_more, bound_within, greater_is}
use Rattle.sp_accept.proofs.touched.bound_of.Goals as goal

pub turned-preserved : goal.turned-preserved
turned-preserved c = record {
  within = bound_within c.turned.end c.carrier_at.result.tx (length c.args.carriers.now.txs) c.max-end.result (greater_is c.turned.end (c.carrier_at.result.tx + 1) c.max-end.result c.max-end.ensures) c.turned.invariant.within c.carrier_at.ensures.tx;
  all = bound_more (λ d. (row_at c.args.carriers.now.rows d).tx) c.args.turned.now c.turned.c-index c.turned.end c.carrier_at.result.tx c.max-end.result c.turned-test.true (greater_is c.turned.end (c.carrier_at.result.tx + 1) c.max-end.result c.max-end.ensures)
      (λ d. ap (λ (r : Carrier). r.tx) c.carrier_at.ensures.value ∙ ap (λ (e : ℕ). (row_at c.args.carriers.now.rows e).tx) (any_default c.args.turned.now c.turned.c-index _ d c.turned-test.true))
      c.turned.invariant.all;
}

pub returns-clause-all : goal.returns-clause-all
returns-clause-all c = all_whole (λ d. (row_at c.args.carriers.now.rows d).tx < c.turned.end) c.args.turned.now c.turned.c-index (omega (arith, c.turned-test.false)) c.turned.invariant.all
