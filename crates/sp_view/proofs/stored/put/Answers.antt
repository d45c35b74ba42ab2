use Rattle.std.proofs.Common.{◌≡◌, ◌∙◌, ℕ, List, ap, arith, subst}
use Rattle.sp_bits.specs.Places.{places_where}
use Rattle.sp_bits.specs.Words.{bit_in}
use Rattle.sp_rows.specs.Pool.{overwritten}
use Rattle.sp_view.specs.Stored.{count_of, row_of}
use Rattle.sp_view.proofs.Pools.{put_counts, put_row, put_rows, put_live}
use Rattle.sp_view.proofs.stored.put.Goals as goal

pub returns-clause-counts : goal.returns-clause-counts
returns-clause-counts c = put_counts c.args.pool.now c.row.inside.id.0 c.copy_from_slice.new.self

pub returns-clause-row : goal.returns-clause-row
returns-clause-row c =
    subst (λ (k : ℕ). row_of (overwritten c.args.pool.now c.row.inside.id.0 c.copy_from_slice.new.self) k ≡ c.args.places.now) c.row.view_is
    (put_row c.args.pool.now c.row.inside.id.0 c.copy_from_slice.new.self (c.copy_from_slice.ensures.len ∙ c.words_mut.ensures.eight) ∙ ap (λ (ws : List ℕ). places_where (bit_in ws)) c.copy_from_slice.ensures.after ∙ c.words.ensures.places)

pub returns-clause-rows : goal.returns-clause-rows
returns-clause-rows c = λ r other. put_rows c.args.pool.now c.row.inside.id.0 c.copy_from_slice.new.self r (λ e. other (e ∙ c.row.view_is))

pub returns-clause-live : goal.returns-clause-live
returns-clause-live c =
    put_live c.args.pool.now c.row.inside.id.0 c.copy_from_slice.new.self c.live-live.ensures.rows
    (let one : count_of c.args.pool.now c.row.inside.id.0 ≡ 1 = ap (count_of c.args.pool.now) c.row.view_is ∙ c.requires in omega (arith, one))
