use Rattle.std.proofs.Common.{◌≡◌, [], All, drop, length}
use Rattle.sp_play.specs.Judging.{inputs_after}
use Rattle.sp_play.specs.Spent.{AreApart, IsJudged}
use Rattle.sp_play.proofs.spends.inputs_all.Given as goal

abbrev pub invariant-loop-spend : goal.invariant-loop-spend
invariant-loop-spend l = record {
  value : inputs_after l.entries l.found (drop l.spend-index l.spends) ≡ inputs_after l.entries [] l.spends;
  many : length l.found ≡ l.spend-index;
  apart : AreApart l.found;
  judged : All IsJudged l.found;
}
