use Rattle.std.proofs.Common.{map, refl, sym, subst, ◌∙◌}
use Rattle.sp_block.specs.Block.{IsBlock}
use Rattle.sp_journal.specs.Journal.{contents}
use Rattle.sp_journal.specs.Records.{Found}
use Rattle.sp_journal.specs.Recovery.{bytes_in}
use Rattle.sp_journal.proofs.Recovered.{damaged_says, found_by, found_says}
use Rattle.sp_journal.proofs.recovery.opened_by.Goals as goal

pub returns-in_ok-journal-in-Ok-clause-judged : goal.returns-in_ok-journal-in-Ok-clause-judged
returns-in_ok-journal-in-Ok-clause-judged c list head says =
    let genesis = c.args.genesis in
    let is = subst IsBlock c.genesis.view_is c.genesis.invariant in
    let same = is.id in
    found_by list _ c.args.profile c.args.bits genesis.bytes _ _ head same refl _ (found_says _ _ c.in-Ok.blocks c.in-Ok.gate c.in-Ok.is says)
    ∙ (λ i. Found (contents c.args.profile c.args.bits genesis.bytes (map bytes_in (sym c.of.ensures i))))

pub returns-in-Err-clause-judged : goal.returns-in-Err-clause-judged
returns-in-Err-clause-judged c list head says =
    let genesis = c.args.genesis in
    let is = subst IsBlock c.genesis.view_is c.genesis.invariant in
    let same = is.id in
    found_by list _ c.args.profile c.args.bits genesis.bytes _ _ head same refl _ (damaged_says _ _ c.in-Err.at c.in-Err.is says)
