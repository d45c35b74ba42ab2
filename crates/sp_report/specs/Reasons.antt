-- The word for each refusal, in the order in which the faults are found.
use Rattle.std.specs.Prelude.{ℕ, List, codes}
use Rattle.sp_tx.specs.declared.fault.TxFault.{TxFault}
use Rattle.sp_tx.specs.declared.fault.TxFault.TheVariants as of_tx
use Rattle.sp_block.specs.declared.fault.BlockFault.{BlockFault}
use Rattle.sp_block.specs.declared.fault.BlockFault.TheVariants as of_block
use Rattle.sp_engine.specs.declared.answer.Refusal.{Refusal}
use Rattle.sp_engine.specs.declared.answer.Refusal.TheVariants.{Spelling, Work}

-- the word for the fault of a transaction
abbrev pub tx_reason : TxFault → List ℕ
tx_reason of_tx.Short = codes "tx-short"
tx_reason of_tx.InputCount = codes "tx-input-count"
tx_reason of_tx.InputOrder = codes "tx-input-order"
tx_reason of_tx.PreimageLength = codes "tx-preimage"
tx_reason of_tx.OutputCount = codes "tx-output-count"
tx_reason of_tx.Amount = codes "tx-amount"
tx_reason of_tx.Sum = codes "tx-sum"

-- the word for the fault of a block
abbrev pub block_reason : BlockFault → List ℕ
block_reason of_block.TooLong = codes "too-long"
block_reason of_block.Short = codes "short"
block_reason of_block.Version = codes "version"
block_reason of_block.ParentCount = codes "parent-count"
block_reason of_block.ParentOrder = codes "parent-order"
block_reason of_block.TxCount = codes "tx-count"
block_reason (of_block.Tx fault) = tx_reason fault
block_reason of_block.Grant = codes "grant"
block_reason of_block.SameTx = codes "same-tx"
block_reason of_block.SameOutpoint = codes "same-outpoint"
block_reason of_block.Trailing = codes "trailing"

-- the word for a refusal: that of the first fault, or want of work
abbrev pub reason : Refusal → List ℕ
reason (Spelling fault) = block_reason fault
reason Work = codes "work"
