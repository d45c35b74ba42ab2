use Rattle.std.proofs.Common.{◌≡◌, ◌∙◌, ◌++◌, List, ap, arith, length, map, refl, sym}
use Rattle.std.specs.List.{range_with_len}
use Rattle.std.specs.Prelude.{ℤ}
use Rattle.sp_dag.specs.Numbered.{graph_of}
use Rattle.sp_model.specs.Votes.{virt}
use Rattle.sp_plain.proofs.Entries.{grid_last, length-grid}
use Rattle.sp_plain.proofs.plain.virts_of.Goals as goal

pub loop-x-preserved : goal.loop-x-preserved
loop-x-preserved c =
    let f = virt (graph_of c.args.dag.now) c.args.members.now in
    c.in_ok-push_virts.ensures.ok ∙ ap (λ (l : List ℤ). l ++ map (f c.loop-x.x) (range_with_len 0 c.args.width)) c.loop-x.invariant ∙ sym (grid_last f c.loop-x.x c.args.width)

pub of-requires : goal.of-requires
of-requires c =
    let f = virt (graph_of c.args.dag.now) c.args.members.now in
    let all : c.loop-x.x ≡ c.args.width = omega arith in
    ap length c.loop-x.invariant ∙ length-grid f c.loop-x.x c.args.width ∙ rw all refl
