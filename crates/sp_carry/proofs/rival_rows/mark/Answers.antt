use Rattle.std.proofs.Common.{◌∙◌, refl, sym, subst, []}
use Rattle.sp_bits.specs.Places.{IsRow}
use Rattle.sp_carry.proofs.Keeping.{any_default}
use Rattle.sp_carry.proofs.Marked.{all_marked, marked, marked_read}
use Rattle.sp_carry.proofs.rival_rows.mark.Goals as goal

pub returns : goal.returns
returns c =
    all_marked c.args.rows.now.items _ c.args.tx c.args.block c.set.new.self c.requires.tx refl
    (marked_read _ _ c.set.new.self c.args.block (c.index_mut.ensures.value ∙ any_default c.args.rows.now.items c.args.tx _ [] c.requires.tx)
    (marked c.index_mut.result.now c.set.new.self c.args.block
    (subst IsRow (c.index.ensures ∙ any_default c.args.rows.now.items c.args.tx _ _ c.requires.tx ∙ sym c.index_mut.ensures.value) c.test-there.ensures.row) c.requires.block c.set.ensures))
