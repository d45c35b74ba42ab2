use Rattle.std.proofs.Common.{length, sym, subst, arith}
use Rattle.std.proofs.lemmas.Bool.{eqb-true}
use Rattle.sp_gossip.specs.Named.{AreNumbered}
use Rattle.sp_gossip.proofs.Numbered.{no_name}
use Rattle.sp_gossip.proofs.made_blocks.MadeBlocks.named.Goals as goal
use Rattle.sp_gossip.proofs.made_blocks.MadeBlocks.named.Goals.{then-is_empty-via-then-is_empty, then-is_empty-via-else-is_empty+then-name-gt-LONGEST}

pub returns-then-is_empty-clause-number : goal.returns-then-is_empty-clause-number
returns-then-is_empty-clause-number c =
    no_name c.self.inside.numbers c.args.self.now c.args.name.now (subst (AreNumbered c.self.inside.numbers) c.self.view_is c.self.invariant) (λ len. elim c.then-is_empty.branch [
      | then-is_empty-via-then-is_empty w ↦ omega (arith, len.some, eqb-true (length c.args.name.now) 0 (sym w.if-is_empty.ensures))
      | then-is_empty-via-else-is_empty+then-name-gt-LONGEST w ↦ omega (arith, len.short, w.if-name-gt-LONGEST.true)
    ])
