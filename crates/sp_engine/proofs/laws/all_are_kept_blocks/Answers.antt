use Rattle.sp_engine.proofs.AllKept.{all_are_kept, genesis_is_first}
use Rattle.sp_engine.proofs.laws.all_are_kept_blocks.Goals as goal

pub returns-clause-kept : goal.returns-clause-kept
returns-clause-kept c = all_are_kept

pub returns-clause-first : goal.returns-clause-first
returns-clause-first c = genesis_is_first
