use Rattle.sp_names.proofs.Named.{labels_after}
use Rattle.sp_names.proofs.names.Names.add_lock.Goals as goal

pub invariant_of-self : goal.invariant_of-self
invariant_of-self c = record {
  blocks = c.self.invariant.blocks;
  txs = c.self.invariant.txs;
  locks = labels_after c.add.result c.self.inside.locks c.add.new.self c.args.lock c.args.name c.as_slice-text.result.now c.self.invariant.locks c.as_slice-text.ensures.bytes c.as_slice-text.ensures.some c.as_slice-text.ensures.short c.add.ensures.ok c.add.ensures.err;
}
