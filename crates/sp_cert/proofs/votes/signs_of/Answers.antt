use Rattle.std.proofs.Common.{◌≡◌, ◌<◌, ◌+◌, ◌-◌, ap, arith, sym, subst, ◌∙◌, length, replicate, drop, get_or, pos, ℕ, rules, FitsSigned, length-set}
use Rattle.std.proofs.lemmas.Int.{to_z-of_z}
use Rattle.std.proofs.lemmas.List.{get_or_default, length-replicate}
use Rattle.std.proofs.lemmas.List.FromFn.{length-range_with_len}
use Rattle.std.specs.Int.{w8, w32}
use Rattle.sp_dag.specs.Numbered.{graph_of}
use Rattle.sp_dag.proofs.Ranked.{keys_are_numbers}
use Rattle.sp_model.specs.Graph.{keys}
use Rattle.sp_model.specs.Votes.{sgn}
use Rattle.sp_cert.specs.Certificate.{Entries}
use Rattle.sp_cert.specs.Refusals.{AreSigns}
use Rattle.sp_cert.proofs.Judging.{first_signs, signs_put, signs_skip, sum_is}
use Rattle.sp_cert.proofs.votes.signs_of.Goals as goal

pub places-init : goal.places-init
places-init c =
    let items : c.in_ok-signs.signs.items ≡ replicate c.len-count.result (pos 0) = c.in_ok-signs.ensures.items_if_clones_equal (λ y e. e) in
    record {
      long = ap length items ∙ length-replicate c.len-count.result (pos 0) ∙ c.len-count.ensures.value;
      signs = first_signs (graph_of c.args.dag.now) c.args.worlds.now c.in_ok-signs.signs.items c.len-count.result items;
    }

pub places-preserved-then-number-count : goal.places-preserved-then-number-count
places-preserved-then-number-count c =
    let table = c.args.dag.now in
    let place : ℕ = c.places.place - 1 in
    let less : place < length c.args.worlds.now = omega (arith, c.places.auto.place) in
    let next : place + 1 ≡ c.places.place = omega arith in
    let w : Entries = record { number = c.world.inside.number; votes = c.world.inside.votes } in
    let at : w ≡ get_or c.args.worlds.now place w = c.world.view_is ∙ c.index-worlds-place.is ∙ get_or_default c.args.worlds.now place c.index-worlds-place.result w less in
    let long : length w.votes ≡ length table.parents = ap (λ (x : Entries). length x.votes) at ∙ (c.requires place w less).long in
    let f : FitsSigned w8 c.sign_of.result = search rules in
    let f' : FitsSigned w32 c.sum_of.result = search rules in
    let v = to_z-of_z w8 _ f ∙ c.sign_of.ensures ∙ ap sgn (to_z-of_z w32 _ f' ∙ c.sum_of.ensures ∙ sum_is table w c.as_slice.result.now c.as_slice.ensures long) in
    record {
      long = length-set c.places.signs.items c.world.inside.number _ ∙ c.places.invariant.long;
      signs = signs_put (graph_of table) c.args.worlds.now place w less at c.places.signs.items _
          (subst (λ (k : ℕ). AreSigns (graph_of table) (drop k c.args.worlds.now) c.places.signs.items) (sym next) c.places.invariant.signs)
          (omega (arith, c.places.invariant.long, c.if-number-count.true, c.len-count.ensures.value)) v;
    }

pub places-preserved : goal.places-preserved
places-preserved c =
    let table = c.args.dag.now in
    let place : ℕ = c.places.place - 1 in
    let less : place < length c.args.worlds.now = omega (arith, c.places.auto.place) in
    let next : place + 1 ≡ c.places.place = omega arith in
    let keys_long : length (keys (graph_of table)) ≡ length table.parents = ap length (keys_are_numbers table) ∙ length-range_with_len 0 (length table.parents) in
    record {
      long = c.places.invariant.long;
      signs = signs_skip (graph_of table) c.args.worlds.now place c.index-worlds-place.result less c.index-worlds-place.is c.places.signs.items
          (subst (λ (k : ℕ). AreSigns (graph_of table) (drop k c.args.worlds.now) c.places.signs.items) (sym next) c.places.invariant.signs)
          (omega (arith, keys_long, c.len-count.ensures.value, c.if-number-count.false, ap (λ (w : Entries). w.number) c.world.view_is));
    }
