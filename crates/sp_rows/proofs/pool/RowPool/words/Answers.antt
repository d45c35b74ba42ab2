use Rattle.std.proofs.Common.{◌<◌, ap, sym, ◌∙◌, subst, List}
use Rattle.sp_rows.specs.Pool.{Counted, count_of, words_of}
use Rattle.sp_rows.proofs.Keeps.{live-stored, live-words}
use Rattle.sp_rows.proofs.pool.RowPool.words.Goals as goal

pub words-requires : goal.words-requires
words-requires c =
    let p = c.self.inside in let id = c.args.row.0 in
    let had = subst (λ (rows : List Counted). 0 < count_of rows id) (sym (ap (λ pool. pool.rows) c.self.view_is)) c.requires in
    live-stored p.chunks p.counts.items p.free p.spare p.live c.self.invariant id had

pub returns-clause-value : goal.returns-clause-value
returns-clause-value c =
    let p = c.self.inside in let id = c.args.row.0 in
    let had = subst (λ (rows : List Counted). 0 < count_of rows id) (sym (ap (λ pool. pool.rows) c.self.view_is)) c.requires in
    c.words.ensures.value ∙ sym (live-words p.chunks p.counts.items p.free p.spare p.live c.self.invariant id had)
    ∙ ap (λ pool. words_of pool.rows id) c.self.view_is
