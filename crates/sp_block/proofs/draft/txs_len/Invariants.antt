use Rattle.std.proofs.Common.{◌≡◌, ◌≤◌, ◌*◌, length, take}
use Rattle.std.specs.List.{flat_map}
use Rattle.sp_tx.specs.Spelling.{spelling}
use Rattle.sp_block.proofs.draft.txs_len.Given as goal

abbrev pub invariant-txs : goal.invariant-txs
invariant-txs l = record {
  len : l.len ≡ length (flat_map spelling (take l.tx-index l.txs));
  bound : l.len ≤ 2210 * l.tx-index;
}
