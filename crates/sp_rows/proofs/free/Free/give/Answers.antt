use Rattle.std.proofs.Common.{◌+◌, sym, subst, set, arith}
use Rattle.sp_rows.specs.declared.free.Free.{Free}
use Rattle.sp_rows.specs.Kept.{IsFree}
use Rattle.sp_rows.proofs.Frees.{IsFree-lower, IsFree-higher}
use Rattle.sp_rows.proofs.free.Free.give.Goals as goal
use Rattle.sp_rows.proofs.free.Free.give.Goals.{then-self-eq0, then-self-eq0-via-then-self-eq0, then-self-eq0-via-else-self-eq0+then-id-self-2, else-self-eq0+else-id-self-2}

pub returns-after-self-eq0 : goal.returns-after-self-eq0
returns-after-self-eq0 c = λ counts is had.
    let id = c.args.id in let before = c.if-id-self.true in
    elim c.if-self-eq0.branch [
      | then-self-eq0 w ↦ subst (λ (free : Free). IsFree (set counts id 0) (record { from = free.from; behind = free.behind + 1; lowest = free.lowest })) (sym w.self-is)
          (IsFree-lower counts c.args.self.now is id before had (λ some.
          elim w.then-self-eq0.branch [
            | then-self-eq0-via-then-self-eq0 w' ↦ absurd (omega (arith, some, w'.if-self-eq0.true))
            | then-self-eq0-via-else-self-eq0+then-id-self-2 w' ↦ w'.if-id-self-2.true
          ]))
      | else-self-eq0+else-id-self-2 w ↦ subst (λ (free : Free). IsFree (set counts id 0) (record { from = free.from; behind = free.behind + 1; lowest = free.lowest })) (sym w.self-is)
          (IsFree-higher counts c.args.self.now is id before had (omega (arith, w.if-self-eq0.false)) (omega (arith, w.if-id-self-2.false)))
    ]
