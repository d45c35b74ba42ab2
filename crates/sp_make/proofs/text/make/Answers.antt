use Rattle.std.proofs.Common.{◌∙◌, ◌++◌, List, ℕ, ap, arith}
use Rattle.sp_make.specs.Made.{grant_line, lines_to, pair_count}
use Rattle.sp_make.proofs.Lengths.{written_short}
use Rattle.sp_make.proofs.text.make.Goals as goal

pub returns-clause-short : goal.returns-clause-short
returns-clause-short c =
    let n = c.from-count.result in
    let width = c.from.result in
    let grants = c.in_ok-put_grants.ensures ∙ ap (λ (t : List ℕ). t ++ lines_to (pair_count n) grant_line) c.new-text.ensures.items in
    written_short c.put_blocks.new.out.items c.put_grants.new.out.items c.put_txs.new.out.items n c.args.seed width (omega (arith, c.from-count.ensures, c.requires.few)) (omega (arith, c.from.ensures, c.requires.some)) grants c.in_ok-put_txs.ensures c.in_ok-put_blocks.ensures
