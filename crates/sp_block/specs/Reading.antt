-- Reading a block from left to right, for the contracts of private functions alone. What is promised of it stands
-- in Format and Spelling.
use Rattle.std.specs.Prelude.{ℕ, Bool, List, Result, Ok}
use Rattle.sp_form.specs.declared.fault.ReadFault.{ReadFault}
use Rattle.sp_form.specs.declared.fault.ReadFault.TheVariants.{Fault, Memory}
use Rattle.sp_form.specs.Reading.{read, ◌then◌}
use Rattle.sp_tx.specs.declared.fault.TxFault.{TxFault}
use Rattle.sp_block.specs.declared.fault.BlockFault.{BlockFault}
use Rattle.sp_block.specs.declared.fault.BlockFault.TheVariants.{Tx}
use Rattle.sp_block.specs.declared.reader.Content.{Content}
use Rattle.sp_block.specs.Format.{of_parts, parent_count_form, Parts, parents_form, tx_count_form, txs_form, version_form, word_form}

-- what a block's bytes spell, without where it lies in memory
abbrev pub parts_in : Content → Parts
parts_in content = of_parts content.salt content.nonce content.parents content.txs

-- a transaction's fault as the block's
abbrev pub as_block_fault : ReadFault TxFault → ReadFault BlockFault
as_block_fault Memory = Memory
as_block_fault (Fault fault) = Fault (Tx fault)

-- the parts of a block, one after another
abbrev pub block_steps : Bool → List ℕ → Result (Parts × List ℕ) BlockFault
block_steps genesis list =
    read version_form list then λ version.
    read word_form version.1 then λ salt.
    read word_form salt.1 then λ nonce.
    read (parent_count_form genesis) nonce.1 then λ count.
    read (parents_form count.0) count.1 then λ parents.
    read tx_count_form parents.1 then λ count.
    read (txs_form genesis count.0) count.1 then λ txs.
    Ok (of_parts salt.0 nonce.0 parents.0 txs.0, txs.1)
