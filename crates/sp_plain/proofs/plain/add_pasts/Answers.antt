use Rattle.std.proofs.Common.{◌≡◌, ◌∙◌, ℕ, List, ap, arith, length, subst, sym}
use Rattle.sp_dag.specs.Numbered.{graph_of}
use Rattle.sp_model.specs.Graph.{Graph}
use Rattle.sp_plain.specs.Plain.{ArePasts}
use Rattle.sp_plain.specs.Virts.{past_virts, virts_in}
use Rattle.sp_plain.proofs.Downsets.{past_below, past_closed}
use Rattle.sp_plain.proofs.Entries.{pasts_more}
use Rattle.sp_plain.proofs.plain.add_pasts.Goals as goal

pub virts_of-requires-clause-reach : goal.virts_of-requires-clause-reach
virts_of-requires-clause-reach c = λ w h.
    let lower = past_below c.args.dag.now c.loop-z.z w c.len-end.ensures.numbered.order (omega arith) (rw c.past.ensures at h) in
    omega (arith, lower, ap length c.deref.ensures.value, c.loop-z.invariant.long)

pub virts_of-requires-clause-below : goal.virts_of-requires-clause-below
virts_of-requires-clause-below c = λ w h. past_below c.args.dag.now c.loop-z.z w c.len-end.ensures.numbered.order (omega arith) (rw c.past.ensures at h)

pub virts_of-requires-clause-whole : goal.virts_of-requires-clause-whole
virts_of-requires-clause-whole c = rw c.past.ensures (past_closed c.args.dag.now c.loop-z.z c.len-end.ensures.numbered.order (omega arith))

pub loop-z-preserved : goal.loop-z-preserved
loop-z-preserved c =
    let g : Graph = graph_of c.args.dag.now in
    let is : c.in_ok-matrix.matrix ≡ past_virts g (length c.loop-z.pasts.items) =
    c.in_ok-matrix.ensures.ok ∙ ap (λ (s : List ℕ). virts_in g s c.loop-z.z) c.past.ensures ∙ ap (past_virts g) (sym c.loop-z.invariant.long) in
    record {
      pasts = subst (ArePasts g) (sym c.in_ok-push.ensures.items) (pasts_more g c.loop-z.pasts.items c.in_ok-matrix.matrix c.loop-z.invariant.pasts is);
      long = omega (arith, c.in_ok-push.ensures.len, c.loop-z.invariant.long);
    }
