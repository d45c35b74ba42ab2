use Rattle.std.proofs.Common.{◌∙◌, ap, sym, List}
use Rattle.std.specs.Prelude.{slice_get}
use Rattle.std.specs.Option.{option_and_then}
use Rattle.sp_block.specs.Block.{ReadBlock}
use Rattle.sp_pool.proofs.Standings.{found_by_id}
use Rattle.sp_pool.proofs.pool.Pool.block.Goals as goal

pub returns-in-Some : goal.returns-in-Some
returns-in-Some c =
    let bs : List ReadBlock = c.self.inside.entries.blocks in
    rw (← c.self.view_is) (sym (found_by_id c.args.id.now bs ∙ ap (option_and_then (slice_get bs)) (sym c.place_of.ensures ∙ c.in-Some.is) ∙ c.block_at.ensures))

pub returns-in-None : goal.returns-in-None
returns-in-None c =
    let bs : List ReadBlock = c.self.inside.entries.blocks in
    rw (← c.self.view_is) (sym (found_by_id c.args.id.now bs ∙ ap (option_and_then (slice_get bs)) (sym c.place_of.ensures ∙ c.in-None.is)))
