use Rattle.std.proofs.Common.{◌<◌, ◌++◌, ◌∷◌, [], Bool, ap, subst, sym, List, ℕ, arith, not, set, true}
use Rattle.std.specs.Prelude.{count_by, vec_capacity}
use Rattle.sp_pool.specs.Kept.{Releases}
use Rattle.sp_pool.specs.Marks.{Marked}
use Rattle.sp_pool.proofs.Turns.{fewer_unmarked, Turned-all, Turned-more, Turned-same}
use Rattle.sp_pool.proofs.release.release.Goals as goal

pub returns-in_default-clause-order : goal.returns-in_default-clause-order
returns-in_default-clause-order c =
    λ s h. let P : List ℕ → Type 0 = λ l. Releases c.args.entries.now.blocks s l in
    subst P (sym c.of.ensures)
    (Turned-all c.args.entries.now c.turns.entries c.turns.ids.items (vec_capacity c.turns.ids) c.in_default.ensures.block c.turns.invariant s h)

pub push_reserved-requires : goal.push_reserved-requires
push_reserved-requires c =
    let fewer = fewer_unmarked c.turns.entries.marks c.in-Some.place c.in-Some.ensures.unmarked in
    omega (arith, c.turns.invariant.room, fewer)

pub turns-smaller : goal.turns-smaller
turns-smaller c =
    let old = c.turns.entries in
    let looked = c.earliest_ready.new.entries in
    let fewer = fewer_unmarked old.marks c.in-Some.place c.in-Some.ensures.unmarked in
    let marks = ap (λ (ms : List Bool). count_by not (set ms c.in-Some.place true)) c.in-Some.ensures.looked.marks in
    let now = ap (λ (m : Marked). count_by not m.marks) c.mark.ensures in
    let less : count_by not c.mark.new.self.marks < count_by not old.marks = omega (arith, fewer, marks, now) in
    less

pub turns-preserved : goal.turns-preserved
turns-preserved c =
    let looked = c.earliest_ready.new.entries in
    Turned-same c.args.entries.now (record looked { marks = set looked.marks c.in-Some.place true }) c.mark.new.self (c.turns.ids.items ++ c.id_at.result ∷ [])
    c.push_reserved.new.self.items (vec_capacity c.turns.ids) (vec_capacity c.push_reserved.new.self) c.mark.ensures c.push_reserved.ensures.items c.push_reserved.ensures.capacity
    (Turned-more c.args.entries.now c.turns.entries looked c.turns.ids.items (vec_capacity c.turns.ids) c.in-Some.place c.id_at.result c.in-Some.ensures.looked c.in-Some.ensures.apart
    c.id_at.ensures c.in-Some.ensures.unmarked c.in-Some.ensures.block c.turns.invariant)
