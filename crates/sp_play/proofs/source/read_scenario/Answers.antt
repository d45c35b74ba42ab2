use Rattle.std.proofs.Common.{◌≤◌, ◌++◌, length, take, arith}
use Rattle.std.proofs.lemmas.Grind.{common_steps}
use Rattle.sp_io.proofs.Known.{consumes_then}
use Rattle.sp_play.specs.Source.{scenario_limit}
use Rattle.sp_play.proofs.source.read_scenario.Goals as goal

pub returns-in_err-extend_from_slice-clause-taken : goal.returns-in_err-extend_from_slice-clause-taken
returns-in_err-extend_from_slice-clause-taken g c =
    let before = c.pieces.text.items in
    let piece = take c.in-Ok.count c.read.new.out in
    let within : length (before ++ piece) ≤ scenario_limit = grind (arith, common_steps) in
    (before ++ piece, consumes_then _ _ _ before piece c.pieces.invariant.bytes c.in-Ok.ensures.bytes.0, within)
