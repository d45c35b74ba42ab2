use Rattle.std.proofs.Common.{◌<◌, ap, sym, ◌∙◌, arith}
use Rattle.std.proofs.lemmas.Bool.{ltb-true, lt-ltb}
use Rattle.std.proofs.lemmas.Grind.{get_or_default_zero}
use Rattle.sp_rows.specs.Pool.{count_of}
use Rattle.sp_rows.proofs.Keeps.{live-count, live-within}
use Rattle.sp_rows.proofs.pool.RowPool.is_live.Goals as goal

pub returns-then-row-len : goal.returns-then-row-len
returns-then-row-len c =
    let p = c.self.inside in let id = c.args.row.0 in
    let read = c.index.ensures ∙ get_or_default_zero p.counts.items id c.index.result.now (omega (arith, c.if-row-len.true, p.counts.ok.0)) in
    let count = sym (ap (λ pool. count_of pool.rows id) c.self.view_is) ∙ live-count p.chunks p.counts.items p.free p.spare p.live c.self.invariant id in
    (λ yes. (let some : 0 < c.index.result.now = ltb-true _ _ yes in omega (arith, read, count, some)), λ live. (let some : 0 < c.index.result.now = omega (arith, read, count, live) in lt-ltb _ _ some))

pub returns-else-row-len : goal.returns-else-row-len
returns-else-row-len c =
    let p = c.self.inside in let id = c.args.row.0 in
    let is = ap (λ pool. count_of pool.rows id) c.self.view_is in (
      λ yes. (let within : id < c.len.result = ltb-true _ _ yes in absurd (omega (arith, within, c.if-row-len.false))),
      λ live. (let within = live-within p.chunks p.counts.items p.free p.spare p.live c.self.invariant id (omega (arith, is, live)) in let less : id < c.len.result = omega (arith, within, c.len.ensures, p.counts.ok.0) in lt-ltb _ _ less),
    )
