use Rattle.std.proofs.Common.{◌≡◌, ◌<◌, ◌++◌, ◌∷◌, [], Bool, ap, subst, sym, length, List, arith, not, set, true}
use Rattle.std.specs.Prelude.{count_by}
use Rattle.sp_block.specs.Block.{ReadBlock}
use Rattle.sp_pool.specs.Marks.{Marked}
use Rattle.sp_pool.proofs.Turns.{fewer_unmarked, id_there, Turned, Turned-all, Turned-more, Turned-none}
use Rattle.sp_pool.proofs.release.mark_ready.Goals as goal

pub returns-in_default-clause-marks : goal.returns-in_default-clause-marks
returns-in_default-clause-marks c =
    λ s m. let ids = c.turns.invariant.0 in let turned = c.turns.invariant.2 in (
      ids,
      Turned-all c.args.entries.now c.turns.entries ids c.turns.invariant.1 c.in_default.ensures.block turned s m,
      c.in_default.ensures.looked.stands (s ++ ids) (turned.marks s m),
    )

pub turns-init : goal.turns-init
turns-init c = ([], count_by not c.args.entries.now.marks, Turned-none c.args.entries.now)

pub turns-smaller : goal.turns-smaller
turns-smaller c =
    let old = c.turns.entries in
    let fewer = fewer_unmarked old.marks c.in-Some.place c.in-Some.ensures.unmarked in
    let marks = ap (λ (ms : List Bool). count_by not (set ms c.in-Some.place true)) c.in-Some.ensures.looked.marks in
    let now = ap (λ (m : Marked). count_by not m.marks) c.mark.ensures in
    let less : count_by not c.mark.new.self.marks < count_by not old.marks = omega (arith, fewer, marks, now) in
    less

pub turns-preserved : goal.turns-preserved
turns-preserved c =
    let looked = c.earliest_ready.new.entries in
    let turned = c.turns.invariant.2 in
    let long : length looked.blocks ≡ length c.turns.entries.blocks = ap (λ (bs : List ReadBlock). length bs) c.in-Some.ensures.looked.blocks in
    let found = id_there looked.blocks c.in-Some.place (omega (arith, long, c.in-Some.ensures.within)) in (
      c.turns.invariant.0 ++ found.0 ∷ [],
      c.turns.invariant.1,
      subst (λ (m : Marked). Turned c.args.entries.now m (c.turns.invariant.0 ++ found.0 ∷ []) c.turns.invariant.1) (sym c.mark.ensures)
          (Turned-more c.args.entries.now c.turns.entries looked c.turns.invariant.0 c.turns.invariant.1 c.in-Some.place found.0 c.in-Some.ensures.looked c.in-Some.ensures.apart
          found.1 c.in-Some.ensures.unmarked c.in-Some.ensures.block turned),
    )
