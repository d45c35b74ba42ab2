use Rattle.std.proofs.Common.{ap, ◌∙◌}
use Rattle.sp_gossip.specs.Script.{script}
use Rattle.sp_gossip.proofs.Within.{has_count, has_numbers}
use Rattle.sp_gossip.proofs.script.Script.read.Goals as goal

pub returns-clause-count : goal.returns-clause-count
returns-clause-count c =
    has_count c.args.first c.args.blocks.now c.args.text.now c.in_ok-script.script (c.in_ok-script.ensures ∙ ap (λ blocks. script c.args.first blocks c.args.text.now) c.in_ok-named.ensures)

pub returns-clause-within : goal.returns-clause-within
returns-clause-within c =
    has_numbers c.args.first c.args.blocks.now c.args.text.now c.in_ok-script.script (c.in_ok-script.ensures ∙ ap (λ blocks. script c.args.first blocks c.args.text.now) c.in_ok-named.ensures)
