use Rattle.std.proofs.Common.{◌≡◌, ◌∙◌, true, List, Ok, Err, sym, ap}
use Rattle.sp_form.specs.Reading.{Answers}
use Rattle.sp_form.specs.declared.fault.ReadFault.{ReadFault}
use Rattle.sp_form.specs.declared.fault.ReadFault.TheVariants.{Fault, Memory}
use Rattle.sp_block.specs.Block.{block_of, ReadBlock}
use Rattle.sp_block.specs.declared.fault.BlockFault.{BlockFault}
use Rattle.sp_block.proofs.Whole.{parts_spelled}
use Rattle.sp_play.specs.Kept.{genesis_parts}
use Rattle.sp_play.specs.Known.{Entry, genesis_text, grants_of, Known}
use Rattle.sp_play.proofs.known.Known.head.Goals as goal

no_fault : (b : ReadBlock) (e : ReadFault BlockFault) (fault : BlockFault) → e ≡ Fault fault → Answers {E = BlockFault} {X = ReadBlock} (Err e) (Ok b) → ⊥
no_fault b Memory fault is e = cc
no_fault b (Fault other) fault is e = cc

pub unreachable-requires : goal.unreachable-requires
unreachable-requires c =
    let parts = genesis_parts c.self.inside.entries in
    let entries = ap (λ (k : Known). k.entries) c.self.view_is in
    let text = ap (λ (es : List Entry). genesis_text (grants_of es)) entries ∙ sym c.requires in
    let spells = rw text at (parts_spelled true parts c.self.invariant.all.genesis) in
    no_fault (block_of c.args.genesis.now parts) c.in-Err-Fault.field-0 c.in-Err-Fault.field-0-0 c.in-Err-Fault.field-0-is (c.in-Err-Fault.ensures.only parts spells)
