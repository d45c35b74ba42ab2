use Rattle.std.proofs.Common.{◌∙◌, ap, List, ℕ}
use Rattle.std.proofs.lemmas.Bool.{or_left, or_right}
use Rattle.sp_bits.proofs.RowSets.{has_union, row_small}
use Rattle.sp_model.specs.Graph.{has}
use Rattle.sp_accept.proofs.rival_blocks.join.Goals as goal

pub returns-clause-kept : goal.returns-clause-kept
returns-clause-kept c = λ w there.
    ap (λ (l : List ℕ). has l w) c.or_with.ensures
    ∙ has_union c.args.row.now c.args.other.now w (row_small c.args.row.now w c.test-own.ensures.row) (row_small c.args.other.now w c.test-others.ensures.row)
    ∙ or_left (has c.args.row.now w) (has c.args.other.now w) there

pub returns-clause-there : goal.returns-clause-there
returns-clause-there c = λ w there.
    ap (λ (l : List ℕ). has l w) c.or_with.ensures
    ∙ has_union c.args.row.now c.args.other.now w (row_small c.args.row.now w c.test-own.ensures.row) (row_small c.args.other.now w c.test-others.ensures.row)
    ∙ or_right (has c.args.row.now w) (has c.args.other.now w) there
