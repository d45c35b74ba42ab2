use Rattle.std.proofs.Common.{◌∙◌, Result, Ok, Err, ap, subst}
use Rattle.std.specs.Prelude.{OnOk}
use Rattle.sp_block.specs.Block.{IsBlock, ReadBlock}
use Rattle.sp_journal.specs.Opening.{IsOpening, Opening}
use Rattle.sp_node.proofs.Restarted.{genesis_in}
use Rattle.sp_node.proofs.start.recovered.Goals as goal

whatever : {X E : Type 0} {P : Type 0} (r : Result X E) → P → OnOk r P
whatever (Ok x) p = p
whatever (Err e) p = tt

pub returns-clause-spelled : goal.returns-clause-spelled
returns-clause-spelled c =
    whatever c.engine_of.result
    (genesis_in c.args.opened.genesis (subst (λ (b : ReadBlock). IsBlock b) (c.genesis.view_is ∙ ap (λ (o : Opening). o.genesis) c.opened.view_is) c.genesis.invariant)
    (subst (λ (o : Opening). IsOpening o) c.opened.view_is c.opened.invariant).genesis)
