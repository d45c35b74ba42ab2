use Rattle.std.proofs.Common.{◌∙◌, []}
use Rattle.sp_engine.proofs.Paying.{now_paying, off_all}
use Rattle.sp_engine.proofs.Retreat.{whole_of}
use Rattle.sp_engine.proofs.acceptance.accept_all.Goals as goal

pub returns-clause-paying : goal.returns-clause-paying
returns-clause-paying c =
    now_paying c.args.carriers.now c.args.accepted.now c.update.new.accepted c.args.purse.now c.prepare.new.self c.apply.new.self c.as_slice.result.now c.requires.paying
    c.in_ok-prepare.ensures.of _ c.in_ok-prepare.ensures.accepted (off_all _) (c.as_slice.ensures.value ∙ c.in_ok-flips.ensures.flips) c.apply.ensures.of c.apply.ensures.accepted

pub update-requires-clause-whole : goal.update-requires-clause-whole
update-requires-clause-whole c = whole_of c.args.dag.now c.args.votes.now [] c.requires.voted
