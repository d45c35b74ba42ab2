use Rattle.std.proofs.Common.{◌≡◌, ◌<◌, ◌∙◌, ap, get_or, length, sym, arith}
use Rattle.std.proofs.lemmas.List.{get_or_default}
use Rattle.std.proofs.lemmas.Option.{get_or_from_slice_get}
use Rattle.sp_dag.specs.Numbered.{Numbered}
use Rattle.sp_dag.proofs.Ranked.{rank_numbered}
use Rattle.sp_dag.proofs.dag.Dag.rank.Goals as goal

pub returns : goal.returns
returns c =
    let ids = c.self.inside.ids.keys in
    let salts = c.self.inside.salts.items in
    let long : length c.self.inside.table ≡ length c.args.self.now.parents = ap (λ (b : Numbered). length b.parents) c.self.view_is in
    let in_salts : c.args.n < length salts = omega (arith, long, c.self.invariant.salts_long, c.requires) in
    let salt_is : get_or c.args.self.now.salts c.args.n 0 ≡ c.index.result.now =
    sym (ap (λ (b : Numbered). get_or b.salts c.args.n 0) c.self.view_is) ∙ sym (c.index.ensures ∙ get_or_default salts c.args.n c.index.result.now 0 in_salts) in
    let id_is : get_or c.args.self.now.ids c.args.n 0 ≡ c.index-2.result.now =
    sym (ap (λ (b : Numbered). get_or b.ids c.args.n 0) c.self.view_is) ∙ get_or_from_slice_get ids c.args.n c.index-2.result.now 0 c.index-2.ensures in
    rank_numbered c.args.self.now c.args.n c.requires ∙ (λ k. record { salt = salt_is k; id = id_is k })
