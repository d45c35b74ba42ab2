use Rattle.std.proofs.Common.{◌≡◌, ◌++◌}
use Rattle.sp_make.specs.Draws.{state_behind}
use Rattle.sp_make.specs.Made.{line_of_block, lines_to}
use Rattle.sp_make.proofs.Steps.{lines_left}
use Rattle.sp_make.proofs.text.put_blocks.Given as goal

abbrev pub invariant-loop-done : goal.invariant-loop-done
invariant-loop-done l =
    (l.out.items ++ lines_left (line_of_block l.n l.seed l.width) l.done l.n ≡ l.fn.out.items ++ lines_to l.n (line_of_block l.n l.seed l.width))
    × (l.state ≡ state_behind l.seed l.width l.done)
