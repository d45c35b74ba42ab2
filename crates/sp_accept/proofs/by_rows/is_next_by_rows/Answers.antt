use Rattle.std.proofs.Common.{◌∙◌, inl, inr, refl, sym}
use Rattle.sp_accept.specs.Pass.{inputs_at}
use Rattle.sp_accept.proofs.Rowwise.{beaten_next, not_false, rest_next}
use Rattle.sp_accept.proofs.Witnesses.{decided_beside, witness_next}
use Rattle.sp_accept.proofs.by_rows.is_next_by_rows.Goals as goal

pub returns-then-is_beaten_beside-clause-next : goal.returns-then-is_beaten_beside-clause-next
returns-then-is_beaten_beside-clause-next g c =
    let table = g.O.Order.table c.args.order.now in
    let k = c.args.carriers.now in
    let row = c.carrier_at-row.result in
    elim c.requires.around [
      | inl around ↦
          beaten_next table k c.block_count-blocks.ensures.carried c.requires.of c.args.flags.now c.args.c c.requires.c c.args.around.now.beaten c.args.around.now.safe around row
          (inputs_at k row.tx) c.carrier_at-row.ensures.value refl (sym c.is_beaten_beside.ensures ∙ c.if-is_beaten_beside.true)
      | inr found ↦ witness_next table k c.block_count-blocks.ensures.carried c.requires.of c.args.flags.now c.args.c c.requires.c c.args.around.now.beaten found.0 found.1
    ]

pub returns-clause-next : goal.returns-clause-next
returns-clause-next g c =
    let table = g.O.Order.table c.args.order.now in
    let k = c.args.carriers.now in
    let row = c.carrier_at-row.result in
    elim c.requires.around [
      | inl around ↦
          rest_next table k c.block_count-blocks.ensures.carried c.requires.of c.args.flags.now c.args.c c.requires.c c.args.around.now.beaten c.args.around.now.safe around row
          (inputs_at k row.tx) c.carrier_at-row.ensures.value refl c.in_ok-outdone.outdone (not_false row.sound c.if-not-row.false) (sym c.is_beaten_beside.ensures ∙ c.if-is_beaten_beside.false)
          (sym c.are_sources_accepted.ensures ∙ c.if-not-are_sources_accepted.false) c.in_ok-outdone.ensures.outdone
      | inr found ↦ absurd (decided_beside table k c.args.c row c.args.around.now.beaten found.0 c.carrier_at-row.ensures.value found.1 (sym c.is_beaten_beside.ensures ∙ c.if-is_beaten_beside.false))
    ]
