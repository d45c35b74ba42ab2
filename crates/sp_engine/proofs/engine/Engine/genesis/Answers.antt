use Rattle.std.proofs.Common.{◌∙◌, sym, ap}
use Rattle.std.specs.Prelude.{slice_get}
use Rattle.std.specs.Option.{option_copied}
use Rattle.sp_engine.proofs.Facts.{found_first, is_first}
use Rattle.sp_engine.proofs.engine.Engine.genesis.Goals as goal

pub unreachable-requires : goal.unreachable-requires
unreachable-requires c =
    let e = c.self.invariant.0 in
    is_first c.self.inside.pool c.self.inside.genesis e.first (sym c.block.ensures ∙ ap option_copied c.in-None.is)

pub returns : goal.returns
returns c =
    let e = c.self.invariant.0 in
    ap (λ l. slice_get l.kept 0) (sym c.self.view_is) ∙ sym (found_first c.self.inside.pool c.self.inside.genesis e.first) ∙ sym c.block.ensures ∙ ap option_copied c.in-Some.is
