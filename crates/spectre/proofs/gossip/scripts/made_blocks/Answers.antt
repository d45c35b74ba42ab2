use Rattle.std.proofs.Common.{◌<◌, ◌∙◌, length, arith}
use Rattle.spectre.proofs.Gossiping.{one_made}
use Rattle.spectre.proofs.gossip.scripts.made_blocks.Goals as goal

pub each-preserved : goal.each-preserved
each-preserved c =
    let lt : c.each.number < length c.args.scene.now.made = omega (arith, c.each-test.true, c.made_count-number-end.ensures) in
    one_made c.args.scene.now.made c.each.number c.made-name.result.0 c.made-name.result.1.now c.of.result c.each.blocks.items c.push.new.self.items lt c.made-name.ensures (c.of.ensures ∙ c.in_ok-copy.ensures.items) c.each.invariant c.in_ok-push.ensures.items
