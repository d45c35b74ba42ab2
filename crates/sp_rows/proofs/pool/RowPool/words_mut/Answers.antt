use Rattle.std.proofs.Common.{refl, ap, sym, ◌∙◌, arith}
use Rattle.sp_rows.specs.Pool.{count_of, words_of, overwritten}
use Rattle.sp_rows.proofs.Keeps.{live-stored, live-words, overwritten-kept, overwritten-pool}
use Rattle.sp_rows.proofs.pool.RowPool.words_mut.Goals as goal

pub words_mut-requires : goal.words_mut-requires
words_mut-requires c =
    let p = c.self.inside in let id = c.args.row.0 in
    let one = ap (λ pool. count_of pool.rows id) c.self.view_is ∙ c.requires in
    live-stored p.chunks p.counts.items p.free p.spare p.live c.self.invariant id (omega (arith, one))

pub invariant_of-self-lent : goal.invariant_of-self-lent
invariant_of-self-lent c w =
    let p = c.self.inside in let id = c.args.row.0 in
    let one = ap (λ pool. count_of pool.rows id) c.self.view_is ∙ c.requires in
    overwritten-kept p.chunks p.counts.items p.free p.spare p.live c.self.invariant id w (omega (arith, one))

pub returns : goal.returns
returns c =
    let p = c.self.inside in let id = c.args.row.0 in
    let one = ap (λ pool. count_of pool.rows id) c.self.view_is ∙ c.requires in (
      (refl, λ w. overwritten-pool p.chunks p.counts.items p.free p.spare p.live c.self.invariant id w (omega (arith, one)) ∙ ap (λ pool. overwritten pool id w) c.self.view_is),
      record { writes_back = tt; value = c.words_mut.ensures.value ∙ sym (live-words p.chunks p.counts.items p.free p.spare p.live c.self.invariant id (omega (arith, one))) ∙ ap (λ pool. words_of pool.rows id) c.self.view_is; eight = c.words_mut.ensures.eight },
    )
