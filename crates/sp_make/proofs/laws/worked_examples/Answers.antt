use Rattle.std.proofs.Common.{refl}
use Rattle.std.specs.Fmt.{digits}
use Rattle.sp_make.specs.Draws.{draw_count, parents_of, state_after, state_behind}
use Rattle.sp_make.specs.Made.{block_line, block_name, carried_text, grant_line, tx_back, tx_front}
use Rattle.sp_make.proofs.laws.worked_examples.Goals as goal

pub returns-clause-first_draw : goal.returns-clause-first_draw
unfolding state_after
returns-clause-first_draw c = refl

pub returns-clause-chain : goal.returns-clause-chain
unfolding digits draw_count parents_of state_after state_behind block_line block_name carried_text grant_line tx_back tx_front
returns-clause-chain c = refl

pub returns-clause-both_parents : goal.returns-clause-both_parents
unfolding digits draw_count parents_of state_after state_behind block_line block_name carried_text grant_line tx_back tx_front
returns-clause-both_parents c = refl

pub returns-clause-pair : goal.returns-clause-pair
unfolding digits draw_count parents_of state_after state_behind block_line block_name carried_text grant_line tx_back tx_front
returns-clause-pair c = refl
