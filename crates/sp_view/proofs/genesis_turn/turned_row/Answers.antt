use Rattle.sp_view.specs.Stored.{row_of}
use Rattle.sp_view.proofs.Members.{is_row}
use Rattle.sp_view.proofs.genesis_turn.turned_row.Goals as goal

pub returns-then-was_in-is_in-clause-row : goal.returns-then-was_in-is_in-clause-row
unfolding row_of
returns-then-was_in-is_in-clause-row c = is_row _
