use Rattle.std.proofs.Common.{◌≡◌, ◌<◌, ◌+◌, ℕ, ap, sym, ◌∙◌, subst, List, arith, get_or}
use Rattle.std.proofs.lemmas.Grind.{get_or_default_zero}
use Rattle.sp_rows.specs.Pool.{Counted, count_of, with_count}
use Rattle.sp_rows.proofs.Keeps.{live-within, live-count, changed, counted-rows, Differs-none}
use Rattle.sp_rows.proofs.pool.RowPool.share.Goals as goal

pub index_mut-requires : goal.index_mut-requires
index_mut-requires c =
    let p = c.self.inside in let id = c.args.row.0 in
    let had = subst (λ (rows : List Counted). 0 < count_of rows id) (sym (ap (λ pool. pool.rows) c.self.view_is)) c.requires.live in
    omega (arith, live-within p.chunks p.counts.items p.free p.spare p.live c.self.invariant id had, p.counts.ok.0)

pub overflow_add-index_mut : goal.overflow_add-index_mut
overflow_add-index_mut c =
    let p = c.self.inside in let id = c.args.row.0 in
    let had = subst (λ (rows : List Counted). 0 < count_of rows id) (sym (ap (λ pool. pool.rows) c.self.view_is)) c.requires.live in
    let within = live-within p.chunks p.counts.items p.free p.spare p.live c.self.invariant id had in
    let is : c.index_mut.result.now ≡ count_of c.args.self.now.rows id =
    c.index_mut.ensures.value ∙ get_or_default_zero p.counts.items id c.index_mut.result.now within
    ∙ sym (live-count p.chunks p.counts.items p.free p.spare p.live c.self.invariant id) ∙ ap (λ pool. count_of pool.rows id) c.self.view_is in
    record { fits = omega (arith, is, c.requires.room) }

pub invariant_of-self : goal.invariant_of-self
invariant_of-self c =
    let p = c.self.inside in let id = c.args.row.0 in
    let had = subst (λ (rows : List Counted). 0 < count_of rows id) (sym (ap (λ pool. pool.rows) c.self.view_is)) c.requires.live in
    let some : 0 < get_or p.counts.items id 0 = omega (arith, had, live-count p.chunks p.counts.items p.free p.spare p.live c.self.invariant id) in
    changed p.chunks p.counts.items p.free p.spare p.live c.self.invariant p.chunks id (c.index_mut.result.now + 1) (Differs-none p.chunks id c.self.invariant.whole) some (omega arith)

pub returns-clause-rows : goal.returns-clause-rows
returns-clause-rows c =
    let p = c.self.inside in let id = c.args.row.0 in
    let had = subst (λ (rows : List Counted). 0 < count_of rows id) (sym (ap (λ pool. pool.rows) c.self.view_is)) c.requires.live in
    let within = live-within p.chunks p.counts.items p.free p.spare p.live c.self.invariant id had in
    let is : c.index_mut.result.now ≡ count_of c.args.self.now.rows id =
    c.index_mut.ensures.value ∙ get_or_default_zero p.counts.items id c.index_mut.result.now within
    ∙ sym (live-count p.chunks p.counts.items p.free p.spare p.live c.self.invariant id) ∙ ap (λ pool. count_of pool.rows id) c.self.view_is in
    counted-rows p.chunks p.counts.items p.free p.spare p.live c.self.invariant id (c.index_mut.result.now + 1) had (omega arith)
    ∙ ap (λ pool. with_count pool.rows id (c.index_mut.result.now + 1)) c.self.view_is
    ∙ ap (λ (n : ℕ). with_count c.args.self.now.rows id (n + 1)) is
