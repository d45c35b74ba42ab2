use Rattle.std.proofs.Common.{◌-◌, ap, ◌∙◌, List, arith, length}
use Rattle.sp_rows.specs.Pool.{Counted, Pool}
use Rattle.sp_rows.specs.Kept.{words_at, live_rows}
use Rattle.sp_rows.proofs.Keeps.{grown, grown-rows, added-kept, added-rows, on_err}
use Rattle.sp_rows.proofs.pool.RowPool.reserve.Goals as goal

pub invariant_of-self : goal.invariant_of-self
invariant_of-self c =
    let p = c.self.inside in grown p.chunks p.counts.items p.free p.spare p.live c.self.invariant c.make_room.new.self c.make_room.ensures.grows

pub returns-in_err-make_room-clause-err : goal.returns-in_err-make_room-clause-err
returns-in_err-make_room-clause-err c =
    let p = c.self.inside in
    on_err c.from_residual.result (ap (λ (rows : List Counted). record { rows = rows; spare = p.spare })
    (grown-rows p.chunks p.counts.items p.free p.spare p.live c.self.invariant c.make_room.new.self c.make_room.ensures.grows) ∙ c.self.view_is ∙ c.begin_again.ensures)

pub returns-in_err-make_room-clause-rows : goal.returns-in_err-make_room-clause-rows
returns-in_err-make_room-clause-rows c =
    let p = c.self.inside in
    grown-rows p.chunks p.counts.items p.free p.spare p.live c.self.invariant c.make_room.new.self c.make_room.ensures.grows ∙ ap (λ (pool : Pool). pool.rows) (c.self.view_is ∙ c.begin_again.ensures)

pub invariant_of-self-in_err-reserve : goal.invariant_of-self-in_err-reserve
invariant_of-self-in_err-reserve c =
    let p = c.self.inside in
    rw c.reserve.ensures.items (grown p.chunks p.counts.items p.free p.spare p.live c.self.invariant c.make_room.new.self c.make_room.ensures.grows)

pub returns-in_err-reserve-clause-err : goal.returns-in_err-reserve-clause-err
returns-in_err-reserve-clause-err c =
    let p = c.self.inside in
    on_err c.from_residual-in_err-reserve.result (ap (λ (rows : List Counted). record { rows = rows; spare = p.spare })
    (ap (live_rows (words_at c.make_room.new.self) 0) c.reserve.ensures.items
    ∙ grown-rows p.chunks p.counts.items p.free p.spare p.live c.self.invariant c.make_room.new.self c.make_room.ensures.grows) ∙ c.self.view_is ∙ c.begin_again.ensures)

pub returns-in_err-reserve-clause-rows : goal.returns-in_err-reserve-clause-rows
returns-in_err-reserve-clause-rows c =
    let p = c.self.inside in
    ap (live_rows (words_at c.make_room.new.self) 0) c.reserve.ensures.items
    ∙ grown-rows p.chunks p.counts.items p.free p.spare p.live c.self.invariant c.make_room.new.self c.make_room.ensures.grows ∙ ap (λ (pool : Pool). pool.rows) (c.self.view_is ∙ c.begin_again.ensures)

pub invariant_of-self-2 : goal.invariant_of-self-2
invariant_of-self-2 c =
    let p = c.self.inside in let more = c.args.n - p.spare in
    let now = grown p.chunks p.counts.items p.free p.spare p.live c.self.invariant c.make_room.new.self c.make_room.ensures.grows in
    let rows = ap (λ (pool : Pool). length pool.rows) (c.self.view_is ∙ c.begin_again.ensures) in
    rw (c.add_rows.ensures, c.reserve.ensures.items)
    (added-kept c.make_room.new.self p.counts.items p.free p.spare p.live now more (omega (arith, c.in_ok-make_room.ensures.ok, c.len.ensures, p.counts.ok.0))
    (omega (arith, c.requires, rows, c.self.invariant.all, c.self.invariant.counted, c.if-n-self.false)))

pub returns-clause-rows : goal.returns-clause-rows
returns-clause-rows c =
    let p = c.self.inside in let more = c.args.n - p.spare in
    let now = grown p.chunks p.counts.items p.free p.spare p.live c.self.invariant c.make_room.new.self c.make_room.ensures.grows in
    rw (c.add_rows.ensures, c.reserve.ensures.items)
    (added-rows c.make_room.new.self p.counts.items p.free p.spare p.live now more
    ∙ grown-rows p.chunks p.counts.items p.free p.spare p.live c.self.invariant c.make_room.new.self c.make_room.ensures.grows ∙ ap (λ (pool : Pool). pool.rows) (c.self.view_is ∙ c.begin_again.ensures))
