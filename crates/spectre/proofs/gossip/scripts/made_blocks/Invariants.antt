use Rattle.std.proofs.Common.{◌≡◌, map, take}
use Rattle.spectre.specs.Gossips.{made_of}
use Rattle.spectre.proofs.gossip.scripts.made_blocks.Given as goal

abbrev pub invariant-each : goal.invariant-each
invariant-each l = l.blocks.items ≡ map made_of (take l.number l.scene.made)
