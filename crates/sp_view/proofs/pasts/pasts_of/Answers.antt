use Rattle.std.proofs.Common.{◌≡◌, ◌∙◌, ◌<◌, ◌≤◌, ℕ, List, [], Option, true, ap, arith, length, subst, sym}
use Rattle.std.specs.Prelude.{IfSome, IsNone, ◌↔◌}
use Rattle.sp_bits.specs.Places.{difference, members_below, union, IsGreatest}
use Rattle.sp_dag.specs.Numbered.{Numbered, graph_of, AreInOrder}
use Rattle.sp_model.specs.Graph.{has, past}
use Rattle.sp_view.proofs.Downward.{next_member}
use Rattle.sp_view.proofs.Reached.{AreCovered, covered_next, joined_small, joined_only, left_parts}
use Rattle.sp_view.proofs.pasts.pasts_of.Goals as goal

pub pasts-preserved : goal.pasts-preserved
pasts-preserved c =
    let table : Numbered = c.args.dag.now in
    let order : AreInOrder table.parents = c.len-blocks.ensures.numbered.order in
    let few : length table.parents ≤ 512 = c.len-blocks.ensures.numbered.small in
    let block : ℕ = c.in-Some.block in
    let below : List ℕ = c.pasts.below in
    let left : List ℕ = c.pasts.left in
    let next : Option ℕ = c.highest_below-next.result in
    let there : has left block ≡ true = subst (λ (o : Option ℕ). IfSome o (λ b. has left b ≡ true)) c.in-Some.is c.pasts.invariant.open_still in
    let within : block < length table.parents = c.requires block (c.pasts.invariant.among block there) in
    let left_small : (z : ℕ) → has left z ≡ true → z < 512 = λ z h. (let le : z < length table.parents = c.requires z (c.pasts.invariant.among z h) in omega (arith, le, few)) in
    let e : c.or_with.new.self ≡ union below (past (graph_of table) block) = c.or_with.ensures ∙ ap (union below) c.past-past.ensures in
    let e' : c.without.new.self ≡ difference left (past (graph_of table) block) = c.without.ensures ∙ ap (difference left) c.past-past.ensures in
    record {
      open_still = next_member c.without.new.self block next c.highest_below-next.ensures.some;
      among = λ b h. c.pasts.invariant.among b (left_parts table order few block within below left c.pasts.invariant.small left_small b (ap (λ (l : List ℕ). has l b) (sym e') ∙ h));
      small = λ z h. joined_small table order few block within below left c.pasts.invariant.small left_small z (ap (λ (l : List ℕ). has l z) (sym e) ∙ h);
      covers = rw (e, e')
          (covered_next table order few block within below left c.pasts.invariant.small left_small c.args.blocks.now next
          (subst (λ (o : Option ℕ). AreCovered table c.args.blocks.now left o below) c.in-Some.is c.pasts.invariant.covers)
          (subst (λ (l : List ℕ). IfSome next (IsGreatest (members_below l block))) e' c.highest_below-next.ensures.some)
          (subst (λ (l : List ℕ). IsNone next ↔ (members_below l block ≡ [])) e' c.highest_below-next.ensures.none));
      only = λ z h.
          joined_only table order few block within below left c.pasts.invariant.small left_small (has c.args.blocks.now) (c.pasts.invariant.among block there)
          c.pasts.invariant.only z (ap (λ (l : List ℕ). has l z) (sym e) ∙ h);
    }
