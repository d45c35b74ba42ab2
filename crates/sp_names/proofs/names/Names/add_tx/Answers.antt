use Rattle.sp_names.proofs.Named.{labels_after}
use Rattle.sp_names.proofs.names.Names.add_tx.Goals as goal

pub invariant_of-self : goal.invariant_of-self
invariant_of-self c = record {
  blocks = c.self.invariant.blocks;
  txs = labels_after c.add.result c.self.inside.txs c.add.new.self c.args.id c.args.name c.as_slice-text.result.now c.self.invariant.txs c.as_slice-text.ensures.bytes c.as_slice-text.ensures.some c.as_slice-text.ensures.short c.add.ensures.ok c.add.ensures.err;
  locks = c.self.invariant.locks;
}
