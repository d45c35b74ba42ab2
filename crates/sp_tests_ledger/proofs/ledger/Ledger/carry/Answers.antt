use Rattle.std.proofs.Common.{◌≡◌, ap, arith, length, subst}
use Rattle.sp_dag.specs.Numbered.{Numbered}
use Rattle.sp_carry.specs.Carried.{with_block}
use Rattle.sp_tests_ledger.proofs.Decided.{carries}
use Rattle.sp_tests_ledger.proofs.ledger.Ledger.carry.Goals as goal

pub invariant_of-self-2 : goal.invariant_of-self-2
invariant_of-self-2 c =
    let long : length c.dag.result.now.parents ≡ length c.self.inside.plain.parents = ap (λ (t : Numbered). length t.parents) c.dag.ensures in
    carries c.self.inside.plain c.self.inside.carriers c.add.new.self c.args.txs.now c.self.inside.accepted c.self.inside.decided
    (subst (λ (t : Numbered). c.add.new.self ≡ with_block t c.self.inside.carriers c.args.txs.now) c.dag-2.ensures c.in_ok-add.ensures.ok)
    (omega (arith, c.block_count-number.ensures.value, c.len.ensures.value, c.if-number-len.false, long)) c.block_count-added.ensures.carried c.self.invariant
