use Rattle.std.proofs.Common.{◌≡◌, ℕ, ◌+◌, ◌<◌, ◌≤◌, ◌∙◌, length, List, refl, ap, arith, subst}
use Rattle.sp_tx.specs.Parts.{Transaction}
use Rattle.sp_carry.specs.Carried.{Carried, with_carriers, with_block}
use Rattle.sp_carry.specs.Kept.{carried_of, Keeps}
use Rattle.sp_carry.specs.Sources.{AreSourced}
use Rattle.sp_carry.proofs.Blocks.{counted}
use Rattle.sp_carry.proofs.Cutting.{counted_value, IsPartly, partly_read, restored, value}
use Rattle.sp_carry.proofs.Linked.{kept_is}
use Rattle.sp_carry.proofs.Rowed.{rowed, rows_back, rows_before, IsRowed}
use Rattle.sp_carry.proofs.Sourced.{sources_back, sources_grown, sources_short}
use Rattle.sp_carry.proofs.carriers.Carriers.add_with_ids.Goals as goal

block_carried : (c : goal.After-add_rows-arg-in-Ok-1) → IsRowed (carried_of c.self.inside.table) (carried_of c.carry_with_room.new.table)
block_carried c =
    let k = carried_of c.self.inside.table in
    let number : k.blocks ≡ c.args.number = ap (λ (k : Carried). k.blocks) c.self.view_is ∙ c.requires.next in
    rowed c.args.dag.now k c.as_slice.result.now c.carry_with_room.new.table c.self.invariant.1 c.self.invariant.2
    (omega (arith, c.requires.few, ap length c.as_slice.ensures)) (omega (arith, number, c.requires.there, c.len-blocks.ensures.numbered.small)) c.in-Ok.ensures.ok

pub add_rows-requires-clause-linked : goal.add_rows-requires-clause-linked
add_rows-requires-clause-linked c = (block_carried c).linked

pub add_rows-requires-clause-blocks : goal.add_rows-requires-clause-blocks
add_rows-requires-clause-blocks c = (block_carried c).blocks

pub add_rows-requires-clause-small : goal.add_rows-requires-clause-small
add_rows-requires-clause-small c = (block_carried c).small

pub add_rows-requires-clause-within : goal.add_rows-requires-clause-within
add_rows-requires-clause-within c = omega (arith, (block_carried c).within, c.len-first.ensures, c.self.inside.table.rows.ok.0)

pub add_rows-requires-clause-before : goal.add_rows-requires-clause-before
add_rows-requires-clause-before c =
    rows_before (carried_of c.self.inside.table) (carried_of c.carry_with_room.new.table) c.len-first.result c.self.inside.rivals.items c.carry_with_room.new.rows.items
    (omega (arith, c.len-first.ensures, c.self.inside.table.rows.ok.0)) (block_carried c) c.carry_with_room.ensures.same c.self.invariant.3

block_there : (c : goal.After-push_sources-arg-in-Ok-1) → IsRowed (carried_of c.self.inside.table) (carried_of c.carry_with_room.new.table)
block_there c =
    let k = carried_of c.self.inside.table in
    let number : k.blocks ≡ c.args.number = ap (λ (k : Carried). k.blocks) c.self.view_is ∙ c.requires.next in
    rowed c.args.dag.now k c.as_slice.result.now c.carry_with_room.new.table c.self.invariant.1 c.self.invariant.2
    (omega (arith, c.requires.few, ap length c.as_slice.ensures)) (omega (arith, number, c.requires.there, c.len-blocks.ensures.numbered.small)) c.in-Ok.ensures.ok

pub push_sources-requires-clause-small : goal.push_sources-requires-clause-small
push_sources-requires-clause-small c = (block_there c).small

pub push_sources-requires-clause-short : goal.push_sources-requires-clause-short
push_sources-requires-clause-short c =
    (let short : length c.self.inside.sources.items ≤ length c.carry_with_room.new.table.txs.items =
    sources_short (carried_of c.self.inside.table) (carried_of c.carry_with_room.new.table) c.self.inside.sources.items (block_there c) c.self.invariant.4 in
    omega (arith, short, ap length c.carry_with_room.ensures.same_sources))

pub invariant_of-self : goal.invariant_of-self
invariant_of-self c =
    let k = carried_of c.self.inside.table in
    let number : c.self.inside.table.blocks ≡ c.args.number = ap (λ (k : Carried). k.blocks) c.self.view_is ∙ c.requires.next in
    let next : k.blocks < 512 = omega (arith, number, c.requires.there, c.len-blocks.ensures.numbered.small) in
    let v = counted_value c.args.dag.now k c.args.txs.now _ c.self.invariant.1 c.self.invariant.2 c.requires.few next
    (counted c.args.dag.now k c.args.txs.now c.carry_with_room.new.table
    (record {
      blocks = c.args.number + 1;
      txs = c.carry_with_room.new.table.txs;
      ids = c.carry_with_room.new.table.ids;
      rows = c.carry_with_room.new.table.rows;
      by_tx = c.carry_with_room.new.table.by_tx;
      spenders = c.carry_with_room.new.table.spenders;
    })
    (subst (λ (ts : List Transaction). Keeps c.carry_with_room.new.table (with_carriers c.args.dag.now k ts)) c.as_slice.ensures c.in-Ok.ensures.ok)
    (omega (arith, number)) refl refl refl refl (λ from. refl)) in
    let r : IsRowed k (carried_of c.carry_with_room.new.table) =
    rowed c.args.dag.now k c.as_slice.result.now c.carry_with_room.new.table c.self.invariant.1 c.self.invariant.2
    (omega (arith, c.requires.few, ap length c.as_slice.ensures)) (omega (arith, number, c.requires.there, c.len-blocks.ensures.numbered.small)) c.in-Ok.ensures.ok in (
      v.0,
      v.1,
      v.2,
      record { long = c.add_rows.ensures.long; each = c.add_rows.ensures.each },
      sources_grown k (carried_of c.carry_with_room.new.table) c.self.inside.sources.items c.push_sources.new.sources.items r.linked r c.self.invariant.4
          (subst (λ (l : List (List ℕ)). AreSourced c.carry_with_room.new.table.txs.items l c.push_sources.new.sources.items (length c.carry_with_room.new.table.txs.items)) c.carry_with_room.ensures.same_sources c.push_sources.ensures),
    )

pub returns-in-Ok-clause-ok : goal.returns-in-Ok-clause-ok
returns-in-Ok-clause-ok c =
    let number : c.self.inside.table.blocks ≡ c.args.number = ap (λ (k : Carried). k.blocks) c.self.view_is ∙ c.requires.next in
    kept_is _ (with_block c.args.dag.now (carried_of c.self.inside.table) c.args.txs.now)
    (counted c.args.dag.now (carried_of c.self.inside.table) c.args.txs.now c.carry_with_room.new.table
    (record {
      blocks = c.args.number + 1;
      txs = c.carry_with_room.new.table.txs;
      ids = c.carry_with_room.new.table.ids;
      rows = c.carry_with_room.new.table.rows;
      by_tx = c.carry_with_room.new.table.by_tx;
      spenders = c.carry_with_room.new.table.spenders;
    })
    (subst (λ (ts : List Transaction). Keeps c.carry_with_room.new.table (with_carriers c.args.dag.now (carried_of c.self.inside.table) ts)) c.as_slice.ensures c.in-Ok.ensures.ok)
    (omega (arith, number)) refl refl refl refl (λ from. refl))
    ∙ ap (λ (k : Carried). with_block c.args.dag.now k c.args.txs.now) c.self.view_is

some_carried : (c : goal.After-take_back-arg-1) → IsPartly (carried_of c.self.inside.table) (carried_of c.carry_with_room.new.table)
some_carried c =
    let k = carried_of c.self.inside.table in
    let number : k.blocks ≡ c.args.number = ap (λ (k : Carried). k.blocks) c.self.view_is ∙ c.requires.next in
    partly_read c.args.dag.now k c.as_slice.result.now c.carry_with_room.new.table c.self.invariant.1 c.self.invariant.2
    (omega (arith, c.requires.few, ap length c.as_slice.ensures)) (omega (arith, number, c.requires.there, c.len-blocks.ensures.numbered.small)) c.in-Err.ensures.err

pub take_back-requires-clause-linked : goal.take_back-requires-clause-linked
take_back-requires-clause-linked c = (some_carried c).linked

pub take_back-requires-clause-turn : goal.take_back-requires-clause-turn
take_back-requires-clause-turn c = (some_carried c).turn

pub take_back-requires-clause-few : goal.take_back-requires-clause-few
take_back-requires-clause-few c = (some_carried c).few

pub take_back-requires-clause-within : goal.take_back-requires-clause-within
take_back-requires-clause-within c = omega (arith, (some_carried c).within, c.len-first.ensures, c.self.inside.table.rows.ok.0)

as_before : (c : goal.After-take_back) → Keeps c.take_back.new.self (carried_of c.self.inside.table)
as_before c =
    let k = carried_of c.self.inside.table in
    let number : k.blocks ≡ c.args.number = ap (λ (k : Carried). k.blocks) c.self.view_is ∙ c.requires.next in
    restored k c.carry_with_room.new.table c.take_back.new.self c.len-first.result (omega (arith, c.len-first.ensures, c.self.inside.table.rows.ok.0))
    (partly_read c.args.dag.now k c.as_slice.result.now c.carry_with_room.new.table c.self.invariant.1 c.self.invariant.2
    (omega (arith, c.requires.few, ap length c.as_slice.ensures)) (omega (arith, number, c.requires.there, c.len-blocks.ensures.numbered.small)) c.in-Err.ensures.err)
    c.take_back.ensures

pub invariant_of-self-in-Err : goal.invariant_of-self-in-Err
invariant_of-self-in-Err c =
    let v = value (carried_of c.self.inside.table) c.take_back.new.self (as_before c) c.self.invariant.1 c.self.invariant.2 in (
      v.0,
      v.1,
      v.2,
      rows_back (carried_of c.self.inside.table) c.take_back.new.self c.self.inside.rivals.items _ (as_before c) c.carry_with_room.ensures.same c.self.invariant.3,
      sources_back (carried_of c.self.inside.table) c.take_back.new.self c.self.inside.sources.items _ (as_before c) c.carry_with_room.ensures.same_sources c.self.invariant.4,
    )

pub returns-in-Err-clause-err : goal.returns-in-Err-clause-err
returns-in-Err-clause-err c = kept_is c.take_back.new.self (carried_of c.self.inside.table) (as_before c) ∙ c.self.view_is
