use Rattle.std.proofs.Common.{◌∙◌, ◌+◌, ℕ, ap}
use Rattle.sp_rows.specs.Pool.{with_count}
use Rattle.sp_view.specs.Stored.{count_of}
use Rattle.sp_view.proofs.Pools.{shared_counts, shared_rows, shared_live}
use Rattle.sp_view.proofs.stored.share.Goals as goal

pub returns-clause-counts : goal.returns-clause-counts
returns-clause-counts c = shared_counts c.args.pool.now c.share.new.self c.args.row
    (c.share.ensures.rows ∙ ap (λ (k : ℕ). with_count c.args.pool.now.rows k (count_of c.args.pool.now k + 1)) c.row.view_is)

pub returns-clause-rows : goal.returns-clause-rows
returns-clause-rows c = shared_rows c.args.pool.now c.share.new.self c.args.row
    (c.share.ensures.rows ∙ ap (λ (k : ℕ). with_count c.args.pool.now.rows k (count_of c.args.pool.now k + 1)) c.row.view_is)

pub returns-clause-live : goal.returns-clause-live
returns-clause-live c = shared_live c.args.pool.now c.share.new.self c.args.row
    (c.share.ensures.rows ∙ ap (λ (k : ℕ). with_count c.args.pool.now.rows k (count_of c.args.pool.now k + 1)) c.row.view_is)
    c.live-live.ensures.rows c.requires.some
