use Rattle.std.proofs.Common.{◌∙◌, sym, ap, arith, length}
use Rattle.std.specs.Prelude.{vec_len, vec_capacity}
use Rattle.sp_dag.proofs.SoFar.{AreSoFar-none, AreSoFar-related, AreSoFar-unrelated}
use Rattle.sp_dag.proofs.pairs.push_unrelated.Goals as goal
use Rattle.sp_dag.proofs.pairs.push_unrelated.Goals.{then-test, else-test}

pub loop-lower-init : goal.loop-lower-init
loop-lower-init c = (
  AreSoFar-none c.args.pairs.now.items c.args.past.now c.args.number c.args.indices.now.items c.requires.none,
  omega arith,
  omega arith,
  omega (arith, ap length c.requires.none, c.args.indices.now.ok.0),
  omega arith,
)

pub loop-lower-preserved : goal.loop-lower-preserved
loop-lower-preserved c =
    let before = c.args.pairs.now.items in
    let past = c.args.past.now in
    let lower = c.loop-lower.lower in
    elim c.if-test.branch [
      | then-test w ↦ (
        AreSoFar-related before c.loop-lower.pairs.items c.if-test.pairs.items past c.args.number lower c.loop-lower.indices.items c.if-test.indices.items
            c.loop-lower.invariant.0 (sym c.test.ensures.value ∙ w.if-test.true) (ap (λ v. v.items) w.pairs-is)
            (ap (λ v. v.items) w.indices-is ∙ w.push_reserved.ensures.items),
        omega (arith, ap vec_len w.pairs-is, ap vec_capacity w.pairs-is),
        omega (arith, ap vec_len w.pairs-is),
        omega (arith, ap vec_len w.indices-is),
        omega (arith, ap vec_capacity w.indices-is),
      )
      | else-test w ↦ (
        AreSoFar-unrelated before c.loop-lower.pairs.items c.if-test.pairs.items past c.args.number lower w.len.result c.loop-lower.indices.items
            c.if-test.indices.items c.loop-lower.invariant.0 (sym c.test.ensures.value ∙ w.if-test.false)
            (omega (arith, w.len.ensures, c.loop-lower.pairs.ok.0))
            (ap (λ v. v.items) w.pairs-is ∙ w.push_reserved-else-test-2.ensures.items)
            (ap (λ v. v.items) w.indices-is ∙ w.push_reserved-else-test.ensures.items),
        omega (arith, ap vec_len w.pairs-is, ap vec_capacity w.pairs-is),
        omega (arith, ap vec_len w.pairs-is),
        omega (arith, ap vec_len w.indices-is),
        omega (arith, ap vec_capacity w.indices-is),
      )
    ]
