use Rattle.std.proofs.Common.{◌++◌, ◌∙◌, ℕ, ap, false, arith}
use Rattle.std.specs.Prelude.{replicate}
use Rattle.sp_accept.proofs.flags.grow.Goals as goal

pub returns : goal.returns
returns c =
    c.flags.invariant.items
    ∙ ap (λ (n : ℕ). c.args.flags.now.items ++ replicate n false)
    (omega (arith, c.flags-test.false, c.flags.auto.counter, c.flags.auto.counter-end, c.len-counter.ensures, c.requires.short, c.args.flags.now.ok.0))
