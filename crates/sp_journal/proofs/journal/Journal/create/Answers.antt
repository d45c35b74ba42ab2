use Rattle.std.proofs.Common.{inl, true, [], ◌∷◌, ◌++◌, refl, ap, ◌∙◌}
use Rattle.sp_block.specs.Block.{parts_of, ReadBlock}
use Rattle.sp_disk.proofs.Runs.{weaker}
use Rattle.sp_journal.specs.Creation.{HoldsNone, HoldsNoneOrNew}
use Rattle.sp_journal.specs.Journal.{contents, head_body}
use Rattle.sp_block.proofs.Judged.{spelled_block}
use Rattle.sp_journal.proofs.Lasting.{create_lasts}
use Rattle.sp_journal.proofs.Vacant.{create_moments, create_stands}
use Rattle.sp_journal.proofs.journal.Journal.create.Goals as goal

pub returns-in_err-close_gate-clause-any_moment : goal.returns-in_err-close_gate-clause-any_moment
returns-in_err-close_gate-clause-any_moment g c told quiet =
    let now = g.D.Disk.now in
    weaker (now c.args.disk.now) (now c.close_gate.new.disk) HoldsNone (HoldsNoneOrNew (contents c.args.profile c.args.bits c.args.genesis.now.bytes [])) (c.close_gate.ensures.any_moment told quiet) (λ image none. inl none)

pub returns-in_err-open_over-clause-any_moment : goal.returns-in_err-open_over-clause-any_moment
returns-in_err-open_over-clause-any_moment g c told quiet =
    let now = g.D.Disk.now in
    let old = now c.args.disk.now in
    let mid = now c.close_gate.new.disk in
    let new = now c.open_over.new.disk in
    let genesis = c.args.genesis.now in
    let block = spelled_block true genesis.bytes (parts_of genesis) c.requires.genesis in
    let copied = c.as_slice-bytes.ensures ∙ ap (λ (b : ReadBlock). b.bytes) c.genesis.view_is in
    let filled = c.deref.ensures.value ∙ c.fill_head.ensures.filled ∙ (λ i. head_body c.args.profile c.args.bits (copied i) ++ 0 ∷ []) in
    create_moments c.args.profile c.args.bits genesis.bytes c.deref.result.now c.requires.bits block filled old mid new (c.close_gate.ensures.any_moment told quiet) (c.open_over.ensures.any_moment [] refl (c.in_ok-close_gate.ensures.ok told))

pub returns-clause-any_moment : goal.returns-clause-any_moment
returns-clause-any_moment g c told quiet =
    let now = g.D.Disk.now in
    let old = now c.args.disk.now in
    let mid = now c.close_gate.new.disk in
    let new = now c.open_over.new.disk in
    let genesis = c.args.genesis.now in
    let block = spelled_block true genesis.bytes (parts_of genesis) c.requires.genesis in
    let copied = c.as_slice-bytes.ensures ∙ ap (λ (b : ReadBlock). b.bytes) c.genesis.view_is in
    let filled = c.deref.ensures.value ∙ c.fill_head.ensures.filled ∙ (λ i. head_body c.args.profile c.args.bits (copied i) ++ 0 ∷ []) in
    create_moments c.args.profile c.args.bits genesis.bytes c.deref.result.now c.requires.bits block filled old mid new (c.close_gate.ensures.any_moment told quiet) (c.open_over.ensures.any_moment [] refl (c.in_ok-close_gate.ensures.ok told))

pub returns-clause-stands : goal.returns-clause-stands
returns-clause-stands g c told =
    let now = g.D.Disk.now in
    let old = now c.args.disk.now in
    let mid = now c.close_gate.new.disk in
    let new = now c.open_over.new.disk in
    let genesis = c.args.genesis.now in
    let block = spelled_block true genesis.bytes (parts_of genesis) c.requires.genesis in
    let copied = c.as_slice-bytes.ensures ∙ ap (λ (b : ReadBlock). b.bytes) c.genesis.view_is in
    let filled = c.deref.ensures.value ∙ c.fill_head.ensures.filled ∙ (λ i. head_body c.args.profile c.args.bits (copied i) ++ 0 ∷ []) in
    create_stands c.args.profile c.args.bits genesis.bytes c.deref.result.now c.requires.bits block filled c.as_slice-bytes.result.now new copied (c.in_ok-open_over.ensures.ok [] refl (c.in_ok-close_gate.ensures.ok told))

pub returns-in_err-open_over-clause-lasts : goal.returns-in_err-open_over-clause-lasts
returns-in_err-open_over-clause-lasts g c told =
    let now = g.D.Disk.now in
    let law = g.met.D.Disk.is_moment in
    let genesis = c.args.genesis.now in
    let block = spelled_block true genesis.bytes (parts_of genesis) c.requires.genesis in
    let copied = c.as_slice-bytes.ensures ∙ ap (λ (b : ReadBlock). b.bytes) c.genesis.view_is in
    let filled = c.deref.ensures.value ∙ c.fill_head.ensures.filled ∙ (λ i. head_body c.args.profile c.args.bits (copied i) ++ 0 ∷ []) in
    let has = c.in_ok-close_gate.ensures.ok told in
    create_lasts c.args.profile c.args.bits genesis.bytes c.deref.result.now c.requires.bits block filled (now c.args.disk.now) (now c.close_gate.new.disk) (now c.open_over.new.disk)
    (law c.close_gate.new.disk) (law c.open_over.new.disk) (c.close_gate.ensures.lasts told) (c.open_over.ensures.any_moment [] refl has) (c.open_over.ensures.lasts [] refl has)

pub returns-clause-lasts : goal.returns-clause-lasts
returns-clause-lasts g c told =
    let now = g.D.Disk.now in
    let law = g.met.D.Disk.is_moment in
    let genesis = c.args.genesis.now in
    let block = spelled_block true genesis.bytes (parts_of genesis) c.requires.genesis in
    let copied = c.as_slice-bytes.ensures ∙ ap (λ (b : ReadBlock). b.bytes) c.genesis.view_is in
    let filled = c.deref.ensures.value ∙ c.fill_head.ensures.filled ∙ (λ i. head_body c.args.profile c.args.bits (copied i) ++ 0 ∷ []) in
    let has = c.in_ok-close_gate.ensures.ok told in
    create_lasts c.args.profile c.args.bits genesis.bytes c.deref.result.now c.requires.bits block filled (now c.args.disk.now) (now c.close_gate.new.disk) (now c.open_over.new.disk)
    (law c.close_gate.new.disk) (law c.open_over.new.disk) (c.close_gate.ensures.lasts told) (c.open_over.ensures.any_moment [] refl has) (c.open_over.ensures.lasts [] refl has)
