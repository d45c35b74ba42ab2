use Rattle.sp_block.proofs.Whole.{only_block, only_fault}
use Rattle.sp_block.proofs.read.read_block_with_ids.Goals as goal

pub returns-clause-only : goal.returns-clause-only
returns-clause-only c = λ parts s. only_block c.args.bytes.now c.args.genesis c.found_block.result parts c.found_block.ensures.found c.found_block.ensures.block c.found_block.ensures.fault s

pub returns-clause-only_fault : goal.returns-clause-only_fault
returns-clause-only_fault c = λ fault h. only_fault c.args.bytes.now c.args.genesis c.found_block.result fault c.found_block.ensures.found c.found_block.ensures.fault h
