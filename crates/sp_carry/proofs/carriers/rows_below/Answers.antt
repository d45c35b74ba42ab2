use Rattle.std.proofs.Common.{◌<◌, ◌-◌, arith, false, subst}
use Rattle.std.proofs.lemmas.List.{get_or_default}
use Rattle.sp_carry.specs.declared.carrier.Carrier.{Carrier}
use Rattle.sp_carry.proofs.Cutting.{front_rows, no_rows}
use Rattle.sp_carry.proofs.carriers.rows_below.Goals as goal

pub returns-else-blocks-rows-clause-first : goal.returns-else-blocks-rows-clause-first
returns-else-blocks-rows-clause-first c =
    front_rows c.args.blocks c.rows.left c.args.rows.now c.requires c.rows.invariant.0 c.rows-test.true
    (λ d. subst (λ (r : Carrier). r.block < c.args.blocks)
    (get_or_default c.args.rows.now (c.rows.left - 1) (record { block = 0; tx = 0; sound = false }) d (omega (arith, c.rows-test.true, c.rows.invariant.0)))
    c.if-blocks-rows.false) c.rows.invariant.1

pub returns-after-rows-clause-first : goal.returns-after-rows-clause-first
returns-after-rows-clause-first c = no_rows c.args.blocks c.rows.left c.args.rows.now (omega arith) c.rows.invariant.1
