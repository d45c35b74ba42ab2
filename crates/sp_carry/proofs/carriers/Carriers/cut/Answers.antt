use Rattle.std.proofs.Common.{◌∙◌, ◌≤◌, ap, length, refl, sym, take, arith}
use Rattle.sp_carry.specs.declared.table.Table.{Table}
use Rattle.sp_carry.specs.Carried.{Carried, cut_to, rows_of_first}
use Rattle.sp_carry.specs.Kept.{carried_of, Keeps}
use Rattle.sp_carry.proofs.Cutting.{AreOfFirst, IsBlockwise-cut, IsCarried-cut, Keeps-cut, value}
use Rattle.sp_carry.proofs.Linked.{kept_is}
use Rattle.sp_carry.proofs.Rowed.{rivals_cut}
use Rattle.sp_carry.proofs.Sourced.{sources_cut}
use Rattle.sp_carry.proofs.carriers.Carriers.cut.Goals as goal

of_first : (c : goal.After-self-1) → AreOfFirst (carried_of c.self.inside.table) c.args.blocks c.rows_below-left.result
of_first c =
    record {
      within = omega (arith, c.rows_below-left.ensures.within, ap length c.deref.ensures.value);
      are = ap (take c.rows_below-left.result) (sym c.deref.ensures.value) ∙ c.rows_below-left.ensures.first ∙ ap (rows_of_first c.args.blocks) c.deref.ensures.value;
    }

left : (c : goal.After-self-1) → Table
left c =
    record {
      blocks = c.args.blocks;
      txs = c.take_back.new.self.txs;
      ids = c.take_back.new.self.ids;
      rows = c.take_back.new.self.rows;
      by_tx = c.take_back.new.self.by_tx;
      spenders = c.take_back.new.self.spenders;
    }

keeps : (c : goal.After-self-1) → Keeps (left c) (cut_to (carried_of c.self.inside.table) c.args.blocks)
unfolding left
keeps c =
    Keeps-cut (carried_of c.self.inside.table) c.args.blocks c.rows_below-left.result c.take_back.new.self (left c) (of_first c) c.take_back.ensures refl refl refl refl refl
    (λ from. refl)

pub invariant_of-self : goal.invariant_of-self
unfolding left
invariant_of-self c =
    let k = carried_of c.self.inside.table in
    let within : c.args.blocks ≤ k.blocks = omega (arith, ap (λ (x : Carried). x.blocks) c.self.view_is, c.requires) in
    let v = value (cut_to k c.args.blocks) (left c) (keeps c)
    (IsCarried-cut k c.args.blocks c.rows_below-left.result c.self.invariant.1 c.self.invariant.2 within (of_first c))
    (IsBlockwise-cut k c.args.blocks c.rows_below-left.result c.self.invariant.2 (of_first c)) in (
      v.0,
      v.1,
      v.2,
      rivals_cut k c.args.blocks c.rows_below-left.result c.len-count.result c.take_back.new.self (left c) c.self.inside.rivals.items c.cut_rows.new.rows.items c.self.invariant.1.linked (of_first c)
          c.take_back.ensures (omega (arith, c.len-count.ensures)) (keeps c) c.self.invariant.3 c.cut_rows.ensures,
      sources_cut k c.args.blocks c.rows_below-left.result c.len-count.result c.take_back.new.self (left c) c.self.inside.sources.items _ c.self.invariant.1.linked (of_first c)
          c.take_back.ensures (omega (arith, c.len-count.ensures)) (keeps c) c.self.invariant.4 c.truncate.ensures.items,
    )

pub returns : goal.returns
unfolding left
returns c =
    kept_is (left c) (cut_to (carried_of c.self.inside.table) c.args.blocks) (keeps c) ∙ ap (λ (k : Carried). cut_to k c.args.blocks) c.self.view_is
