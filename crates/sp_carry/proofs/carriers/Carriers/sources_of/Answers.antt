use Rattle.std.proofs.Common.{◌∙◌, ap, length, arith}
use Rattle.sp_carry.specs.Carried.{Carried}
use Rattle.sp_carry.specs.Sources.{sources_in}
use Rattle.sp_carry.proofs.Sourced.{list_is}
use Rattle.sp_carry.proofs.carriers.Carriers.sources_of.Goals as goal

pub returns : goal.returns
returns c =
    c.as_slice.ensures
    ∙ list_is c.self.inside.table.txs.items c.self.inside.sources.items c.args.tx _ (omega (arith, c.requires, ap (λ (k : Carried). length k.txs) c.self.view_is)) c.self.invariant.4 c.index.ensures
    ∙ ap (λ (k : Carried). sources_in k.txs c.args.tx) c.self.view_is
