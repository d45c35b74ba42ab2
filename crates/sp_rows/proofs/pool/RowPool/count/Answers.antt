use Rattle.std.proofs.Common.{◌<◌, ap, sym, ◌∙◌, subst, List, arith}
use Rattle.std.proofs.lemmas.Grind.{get_or_default_zero}
use Rattle.sp_rows.specs.Pool.{Counted, count_of}
use Rattle.sp_rows.proofs.Keeps.{live-within, live-count}
use Rattle.sp_rows.proofs.pool.RowPool.count.Goals as goal

pub index-requires : goal.index-requires
index-requires c =
    let p = c.self.inside in let id = c.args.row.0 in
    let had = subst (λ (rows : List Counted). 0 < count_of rows id) (sym (ap (λ pool. pool.rows) c.self.view_is)) c.requires in
    omega (arith, live-within p.chunks p.counts.items p.free p.spare p.live c.self.invariant id had, p.counts.ok.0)

pub returns : goal.returns
returns c =
    let p = c.self.inside in let id = c.args.row.0 in
    let had = subst (λ (rows : List Counted). 0 < count_of rows id) (sym (ap (λ pool. pool.rows) c.self.view_is)) c.requires in
    let within = live-within p.chunks p.counts.items p.free p.spare p.live c.self.invariant id had in
    c.index.ensures ∙ get_or_default_zero p.counts.items id c.index.result.now within
    ∙ sym (live-count p.chunks p.counts.items p.free p.spare p.live c.self.invariant id)
    ∙ ap (λ pool. count_of pool.rows id) c.self.view_is
