use Rattle.std.proofs.Common.{◌∙◌, refl, arith}
use Rattle.sp_accept.proofs.Outcome.{all_flips, cut_back}
use Rattle.sp_accept.proofs.update.decide_or_turn_back.Goals as goal

pub returns-in-Ok-clause-flips : goal.returns-in-Ok-clause-flips
returns-in-Ok-clause-flips g c =
    all_flips c.args.carriers.now c.args.txs.now c.args.flags.now.items c.grow.new.flags.items c.flips_by-found.new.flags.items c.carrier_count.result c.flips_by-found.new.turned.items c.in-Ok.flips.items
    c.requires.carried c.grow.ensures c.in-Ok.ensures.turned c.in-Ok.ensures.flips

pub returns-clause-err : goal.returns-clause-err
returns-clause-err g c =
    c.truncate.ensures.items
    ∙ cut_back c.args.flags.now.items c.grow.new.flags.items c.turn_back.new.flags.items c.carrier_count.result c.len-long.result c.grow.ensures
    (c.turn_back.ensures c.grow.new.flags.items (c.in-Err.ensures.turned.from c.grow.new.flags.items refl))
    (omega (arith, c.len-long.ensures, c.args.flags.now.ok.0))
