use Rattle.std.proofs.Common.{◌≡◌, ◌∙◌, ◌<◌, ◌≤◌, ◌+◌, ℕ, cond, eqb, ap, subst, sym}
use Rattle.sp_rows.specs.Pool.{Pool, given}
use Rattle.sp_view.specs.Stored.{count_of, row_of, live, spare}
use Rattle.sp_view.proofs.Pools.{given_counts, given_rows, given_spare, given_live, given_shared}
use Rattle.sp_view.proofs.stored.give.Goals as goal

after : (pool pool' : Pool) (id row : ℕ) → pool' ≡ given pool id → id ≡ row → pool' ≡ given pool row
after pool pool' id row e same = e ∙ ap (given pool) same

pub returns-clause-counts : goal.returns-clause-counts
returns-clause-counts c = λ r.
    subst (λ (p : Pool). count_of c.args.pool.now r ≡ count_of p r + cond (eqb r c.args.row) 1 0) (sym (after c.args.pool.now c.give.new.self c.row.inside.id.0 c.args.row c.give.ensures c.row.view_is))
    (given_counts c.args.pool.now c.args.row c.live-live.ensures.rows c.requires r)

pub returns-clause-rows : goal.returns-clause-rows
returns-clause-rows c = λ r.
    subst (λ (p : Pool). 0 < count_of p r → row_of p r ≡ row_of c.args.pool.now r) (sym (after c.args.pool.now c.give.new.self c.row.inside.id.0 c.args.row c.give.ensures c.row.view_is))
    (given_rows c.args.pool.now c.args.row c.live-live.ensures.rows c.requires r)

pub returns-clause-spare : goal.returns-clause-spare
returns-clause-spare c =
    subst (λ (p : Pool). spare c.args.pool.now ≤ spare p) (sym (after c.args.pool.now c.give.new.self c.row.inside.id.0 c.args.row c.give.ensures c.row.view_is))
    (given_spare c.args.pool.now c.args.row c.live-live.ensures.rows c.requires)

pub returns-clause-live : goal.returns-clause-live
returns-clause-live c =
    subst (λ (p : Pool). live p ≤ live c.args.pool.now) (sym (after c.args.pool.now c.give.new.self c.row.inside.id.0 c.args.row c.give.ensures c.row.view_is))
    (given_live c.args.pool.now c.args.row c.live-live.ensures.rows c.requires)

pub returns-clause-shared : goal.returns-clause-shared
returns-clause-shared c =
    subst (λ (p : Pool). 1 < count_of c.args.pool.now c.args.row → live p ≡ live c.args.pool.now) (sym (after c.args.pool.now c.give.new.self c.row.inside.id.0 c.args.row c.give.ensures c.row.view_is))
    (given_shared c.args.pool.now c.args.row c.live-live.ensures.rows c.requires)
