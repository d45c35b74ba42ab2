use Rattle.std.proofs.Common.{ℕ, List, Bool, ap, subst, ◌∙◌, ◌<◌}
use Rattle.std.specs.Prelude.{All}
use Rattle.sp_carry.specs.declared.carrier.Flip.{Flip}
use Rattle.sp_accept.specs.Pass.{carried_flags}
use Rattle.sp_accept.proofs.Passed.{right_from}
use Rattle.sp_accept.proofs.Turned.{flips_known}
use Rattle.sp_accept.proofs.accepted.Accepted.rebuild.Goals as goal

pub returns-clause-right : goal.returns-clause-right
returns-clause-right g c =
    right_from (g.O.Order.table c.args.order.now) c.args.carriers.now _ c.block_count-self-inside.ensures.carried c.requires c.block_count-self-inside.ensures.value
    c.in_ok-flags.ensures
    (c.in_ok-txs.ensures ∙ ap (λ (flags : List Bool). carried_flags c.args.carriers.now flags) c.deref.ensures.value)

pub returns-clause-known : goal.returns-clause-known
returns-clause-known g c =
    subst (λ (n : ℕ). All (λ (flip : Flip). flip.tx < n) c.in_ok-flips.flips.items) c.tx_count.ensures.value
    (flips_known _ _ c.in_ok-flips.flips.items c.tx_count.result c.in_ok-flips.ensures)
