use Rattle.std.proofs.Common.{◌∙◌}
use Rattle.sp_view.proofs.Pools.{taken_counts, taken_live, taken_row, taken_rows}
use Rattle.sp_view.proofs.stored.taken.Goals as goal

pub returns-clause-row : goal.returns-clause-row
returns-clause-row c =
    taken_row c.args.pool.now c.take_words.new.self c.take_words.result.0 c.words.result.now c.take_words.ensures.fresh c.take_words.ensures.taken ∙ c.words.ensures.places

pub returns-clause-counts : goal.returns-clause-counts
returns-clause-counts c = taken_counts c.args.pool.now c.take_words.new.self c.take_words.result.0 c.words.result.now c.take_words.ensures.fresh c.take_words.ensures.taken

pub returns-clause-others : goal.returns-clause-others
returns-clause-others c = taken_rows c.args.pool.now c.take_words.new.self c.take_words.result.0 c.words.result.now c.take_words.ensures.fresh c.take_words.ensures.taken

pub returns-clause-live : goal.returns-clause-live
returns-clause-live c =
    taken_live c.args.pool.now c.take_words.new.self c.take_words.result.0 c.words.result.now c.take_words.ensures.fresh c.take_words.ensures.taken c.live-live.ensures.rows
