use Rattle.std.proofs.Common.{◌≡◌, [], ◌∷◌, Ok, Bool, true, false, not, arith, ap, sym, ◌∙◌, length, subst, inl, inr}
use Rattle.std.proofs.lemmas.Bool.{cases_lt, and_parts}
use Rattle.std.specs.List.{list_all}
use Rattle.sp_block.specs.Block.{IsBlock, ReadBlock}
use Rattle.sp_dag.specs.Numbered.{Numbered, with_block}
use Rattle.sp_model.specs.Graph.{has}
use Rattle.sp_cert.specs.Refusals.{is_placed, unless}
use Rattle.sp_cert.specs.declared.fault.CheckFault.TheVariants.{Parent}
use Rattle.sp_cert.proofs.Firsts.{some_below}
use Rattle.sp_cert.proofs.Joining.{first_ids, first_parents, first_placed, first_salts, ids_more, parents_more, placed_is, salts_more}
use Rattle.sp_cert.proofs.placed.placed.Goals as goal

pub places-init : goal.places-init
places-init c =
    let whole = subst IsBlock c.genesis.view_is c.genesis.invariant in
    record {
      ids = ap (λ (d : Numbered). d.ids) c.in_ok-dag.ensures ∙ ap (λ (b : ReadBlock). b.id ∷ []) c.genesis.view_is
          ∙ first_ids c.args.blocks.now c.index-blocks-0.result c.requires c.index-blocks-0.is whole;
      own = ap (λ (d : Numbered). d.profile) c.in_ok-dag.ensures;
      salts = ap (λ (d : Numbered). d.salts) c.in_ok-dag.ensures ∙ ap (λ (b : ReadBlock). b.salt ∷ []) c.genesis.view_is
          ∙ first_salts c.args.blocks.now c.index-blocks-0.result c.requires c.index-blocks-0.is whole;
      parents = ap (λ (d : Numbered). d.parents) c.in_ok-dag.ensures ∙ first_parents c.args.blocks.now c.index-blocks-0.result c.requires c.index-blocks-0.is whole;
      placed = first_placed c.args.blocks.now c.index-blocks-0.result c.requires c.index-blocks-0.is whole;
    }

pub returns-then-not-branch-clause-fault : goal.returns-then-not-branch-clause-fault
returns-then-not-branch-clause-fault c = λ ne.
    let fails : is_placed c.args.blocks.now c.places.place ≡ false =
    placed_is c.args.blocks.now c.places.place c.index-blocks-place.result c.places-test.true c.index-blocks-place.is c.places.dag.ids c.places.invariant.ids
    ∙ sym c.in_ok-join.ensures.joins ∙ c.if-not-branch.true in
    some_below (λ k. unless (is_placed c.args.blocks.now k) (Parent k)) (length c.args.blocks.now) c.places.place (Parent c.places.place) c.places-test.true
    (ap (λ (b : Bool). unless b (Parent c.places.place)) fails)
    (λ j less. ap (λ (b : Bool). unless b (Parent j)) (c.places.invariant.placed j less))

pub places-preserved : goal.places-preserved
places-preserved c =
    let k = c.places.place in
    let b = c.index-blocks-place.result in
    let blocks = c.args.blocks.now in
    let joins = sym c.in_ok-join.ensures.joins ∙ c.if-not-branch.false in
    let new : c.join.new.dag ≡ with_block c.places.dag b.id b.salt b.parents = c.in_ok-join.ensures.joined (ap (λ (t : Bool). Ok t) c.if-not-branch.false) in
    let all = (and_parts (list_all (has c.places.dag.ids) b.parents) (not (has c.places.dag.ids b.id)) joins).0 in
    let met : is_placed blocks k ≡ true = placed_is blocks k b c.places-test.true c.index-blocks-place.is c.places.dag.ids c.places.invariant.ids ∙ joins in
    record {
      ids = ids_more blocks k b c.places-test.true c.index-blocks-place.is c.places.dag c.join.new.dag c.places.invariant.ids new;
      own = ap (λ (d : Numbered). d.profile) new ∙ c.places.invariant.own;
      salts = salts_more blocks k b c.places-test.true c.index-blocks-place.is c.places.dag c.join.new.dag c.places.invariant.salts new;
      parents = parents_more blocks k b c.places-test.true c.index-blocks-place.is c.places.dag c.join.new.dag c.places.invariant.ids c.places.invariant.parents all new;
      placed = λ j less. elim (cases_lt j k) [
        | inl low ↦ c.places.invariant.placed j low
        | inr high ↦ (let same : j ≡ k = omega arith in ap (is_placed blocks) same ∙ met)
      ];
    }
