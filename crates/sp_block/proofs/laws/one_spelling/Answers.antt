use Rattle.sp_block.proofs.Whole.{only_spelling, parts_spelled}
use Rattle.sp_block.proofs.laws.one_spelling.Goals as goal

pub returns-clause-is_spelled : goal.returns-clause-is_spelled
returns-clause-is_spelled c = parts_spelled

pub returns-clause-only : goal.returns-clause-only
returns-clause-only c = only_spelling
