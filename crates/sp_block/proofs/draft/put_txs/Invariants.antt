use Rattle.std.proofs.Common.{◌≡◌, ◌++◌, length, take}
use Rattle.std.specs.Int.{w16, to_le_bytes}
use Rattle.std.specs.List.{flat_map}
use Rattle.sp_tx.specs.Spelling.{spelling}
use Rattle.sp_block.proofs.draft.put_txs.Given as goal

abbrev pub invariant-txs : goal.invariant-txs
invariant-txs l = l.out.items ≡ l.fn.out.items ++ (to_le_bytes w16 (length l.txs) ++ flat_map spelling (take l.tx-index l.txs))
