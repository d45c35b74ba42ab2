use Rattle.std.proofs.Common.{◌≡◌, [], ap, arith, sym, ◌∙◌, length, inl, inr}
use Rattle.std.proofs.lemmas.Bool.{cases_lt}
use Rattle.std.proofs.lemmas.List.{get_or_default}
use Rattle.std.proofs.lemmas.List.FromFn.{length-range_with_len}
use Rattle.sp_dag.specs.Numbered.{graph_of}
use Rattle.sp_dag.proofs.Ranked.{keys_are_numbers}
use Rattle.sp_model.specs.Graph.{keys}
use Rattle.sp_cert.specs.Refusals.{entry_refusal}
use Rattle.sp_cert.specs.declared.fault.CheckFault.TheVariants.{Vote}
use Rattle.sp_cert.proofs.Firsts.{none_below, some_below}
use Rattle.sp_cert.proofs.Judging.{all_right, first_wrong}
use Rattle.sp_cert.proofs.votes.check_votes.Goals as goal

pub returns-in-Some-clause-fault : goal.returns-in-Some-clause-fault
returns-in-Some-clause-fault c = λ ne.
    let table = c.args.dag.now in
    let keys_long : length (keys (graph_of table)) ≡ length table.parents = ap length (keys_are_numbers table) ∙ length-range_with_len 0 (length table.parents) in
    let w = c.index-worlds-place.result in
    let is = sym (c.index-worlds-place.is ∙ get_or_default c.args.worlds.now c.places.place w (record { number = 0; votes = [] }) c.places-test.true) in
    some_below (entry_refusal (graph_of table) c.args.worlds.now c.args.x c.args.y) (length c.args.worlds.now) c.places.place (Vote c.places.place c.in-Some.block) c.places-test.true
    (first_wrong (graph_of table) c.args.worlds.now c.args.signs.now c.requires.signs c.places.place w is c.args.x c.args.y c.in-Some.block
    (omega (arith, keys_long, c.in-Some.ensures.within)) c.in-Some.ensures.wrong c.in-Some.ensures.first)
    c.places.invariant

pub places-preserved : goal.places-preserved
places-preserved c = λ p less.
    let table = c.args.dag.now in
    let keys_long : length (keys (graph_of table)) ≡ length table.parents = ap length (keys_are_numbers table) ∙ length-range_with_len 0 (length table.parents) in
    let w = c.index-worlds-place.result in
    let is = sym (c.index-worlds-place.is ∙ get_or_default c.args.worlds.now c.places.place w (record { number = 0; votes = [] }) c.places-test.true) in
    elim (cases_lt p c.places.place) [
      | inl low ↦ c.places.invariant p low
      | inr high ↦ (let same : p ≡ c.places.place = omega arith in
          ap (entry_refusal (graph_of table) c.args.worlds.now c.args.x c.args.y) same
          ∙ all_right (graph_of table) c.args.worlds.now c.args.signs.now c.requires.signs c.places.place w is c.args.x c.args.y
          (λ z below. c.in-None.ensures.none z (omega (arith, keys_long))))
    ]

pub returns-clause-ok : goal.returns-clause-ok
returns-clause-ok c =
    none_below (entry_refusal (graph_of c.args.dag.now) c.args.worlds.now c.args.x c.args.y) (length c.args.worlds.now)
    (λ p less. c.places.invariant p (omega arith))
