use Rattle.std.proofs.Common.{◌≡◌, ◌<◌, ◌+◌, ◌-◌, ℕ, ap, sym, ◌∙◌, subst, List, arith, get_or, set}
use Rattle.std.proofs.lemmas.Grind.{get_or_default_zero}
use Rattle.sp_rows.specs.Pool.{Counted, Pool, count_of, given}
use Rattle.sp_rows.specs.Kept.{words_at, live_rows}
use Rattle.sp_rows.proofs.Keeps.{live-within, live-count, Differs-none, changed, given-kept, given-pool, fewer-pool, count-written}
use Rattle.sp_rows.proofs.pool.RowPool.give.Goals as goal

pub index_mut-requires : goal.index_mut-requires
index_mut-requires c =
    let p = c.self.inside in let id = c.args.row.0 in
    let had = subst (λ (rows : List Counted). 0 < count_of rows id) (sym (ap (λ pool. pool.rows) c.self.view_is)) c.requires in
    omega (arith, live-within p.chunks p.counts.items p.free p.spare p.live c.self.invariant id had, p.counts.ok.0)

pub overflow_sub-index_mut : goal.overflow_sub-index_mut
overflow_sub-index_mut c =
    let p = c.self.inside in let id = c.args.row.0 in
    let had = subst (λ (rows : List Counted). 0 < count_of rows id) (sym (ap (λ pool. pool.rows) c.self.view_is)) c.requires in
    let within = live-within p.chunks p.counts.items p.free p.spare p.live c.self.invariant id had in
    omega (arith, had, c.index_mut.ensures.value ∙ get_or_default_zero p.counts.items id c.index_mut.result.now within, live-count p.chunks p.counts.items p.free p.spare p.live c.self.invariant id)

pub index-requires : goal.index-requires
index-requires c =
    let p = c.self.inside in let id = c.args.row.0 in
    let had = subst (λ (rows : List Counted). 0 < count_of rows id) (sym (ap (λ pool. pool.rows) c.self.view_is)) c.requires in
    omega (arith, live-within p.chunks p.counts.items p.free p.spare p.live c.self.invariant id had, p.counts.ok.0)

pub give-requires : goal.give-requires
give-requires c = (let kept = c.self.invariant in omega (arith, kept.few, kept.frees.within, kept.frees.passed))

pub invariant_of-self : goal.invariant_of-self
invariant_of-self c =
    let p = c.self.inside in let id = c.args.row.0 in let kept = c.self.invariant in
    let had = subst (λ (rows : List Counted). 0 < count_of rows id) (sym (ap (λ pool. pool.rows) c.self.view_is)) c.requires in
    let within = live-within p.chunks p.counts.items p.free p.spare p.live kept id had in
    let some : 0 < get_or p.counts.items id 0 = omega (arith, had, live-count p.chunks p.counts.items p.free p.spare p.live kept id) in
    let n = c.index_mut.result.now in
    let none : n - 1 ≡ 0 = sym (count-written p.counts.items id (n - 1) c.index.result.now within c.index.ensures) ∙ c.if-index-eq0.true in
    rw none
    (given-kept p.chunks p.counts.items p.free p.spare p.live kept p.chunks id c.give.new.self (Differs-none p.chunks id kept.whole) some (c.give.ensures p.counts.items kept.frees some))

pub invariant_of-self-else-index-eq0 : goal.invariant_of-self-else-index-eq0
invariant_of-self-else-index-eq0 c =
    let p = c.self.inside in let id = c.args.row.0 in let kept = c.self.invariant in
    let had = subst (λ (rows : List Counted). 0 < count_of rows id) (sym (ap (λ pool. pool.rows) c.self.view_is)) c.requires in
    let within = live-within p.chunks p.counts.items p.free p.spare p.live kept id had in
    let some : 0 < get_or p.counts.items id 0 = omega (arith, had, live-count p.chunks p.counts.items p.free p.spare p.live kept id) in
    let n = c.index_mut.result.now in
    let read = count-written p.counts.items id (n - 1) c.index.result.now within c.index.ensures in
    changed p.chunks p.counts.items p.free p.spare p.live kept p.chunks id (n - 1) (Differs-none p.chunks id kept.whole) some (grind (arith, read, c.if-index-eq0.false))

pub returns-then-index-eq0 : goal.returns-then-index-eq0
returns-then-index-eq0 c =
    let p = c.self.inside in let id = c.args.row.0 in let kept = c.self.invariant in
    let had = subst (λ (rows : List Counted). 0 < count_of rows id) (sym (ap (λ pool. pool.rows) c.self.view_is)) c.requires in
    let within = live-within p.chunks p.counts.items p.free p.spare p.live kept id had in
    let n = c.index_mut.result.now in
    let none : n - 1 ≡ 0 = sym (count-written p.counts.items id (n - 1) c.index.result.now within c.index.ensures) ∙ c.if-index-eq0.true in
    let was = c.index_mut.ensures.value ∙ get_or_default_zero p.counts.items id n within in
    let one : count_of (live_rows (words_at p.chunks) 0 p.counts.items) id ≡ 1 = omega (arith, had, none, was, live-count p.chunks p.counts.items p.free p.spare p.live kept id) in
    ap (λ (k : ℕ). record { rows = live_rows (words_at p.chunks) 0 (set p.counts.items id k); spare = p.spare + 1 }) none
    ∙ given-pool p.chunks p.counts.items p.free p.spare p.live kept p.chunks id (Differs-none p.chunks id kept.whole) one
    ∙ ap (λ (pool : Pool). given pool id) c.self.view_is

pub returns-else-index-eq0 : goal.returns-else-index-eq0
returns-else-index-eq0 c =
    let p = c.self.inside in let id = c.args.row.0 in let kept = c.self.invariant in
    let had = subst (λ (rows : List Counted). 0 < count_of rows id) (sym (ap (λ pool. pool.rows) c.self.view_is)) c.requires in
    let within = live-within p.chunks p.counts.items p.free p.spare p.live kept id had in
    let n = c.index_mut.result.now in
    let read = count-written p.counts.items id (n - 1) c.index.result.now within c.index.ensures in
    let was : n ≡ count_of (live_rows (words_at p.chunks) 0 p.counts.items) id =
    c.index_mut.ensures.value ∙ get_or_default_zero p.counts.items id n within ∙ sym (live-count p.chunks p.counts.items p.free p.spare p.live kept id) in
    fewer-pool p.chunks p.counts.items p.free p.spare p.live kept id n was (grind (arith, read, c.if-index-eq0.false))
    ∙ ap (λ (pool : Pool). given pool id) c.self.view_is
