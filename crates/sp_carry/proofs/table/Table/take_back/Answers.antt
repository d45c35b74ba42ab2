use Rattle.std.proofs.Common.{◌≡◌, ◌<◌, arith, length, subst, sym, ℕ}
use Rattle.sp_carry.specs.Carried.{AreLinked, Carried}
use Rattle.sp_carry.specs.Growth.{front}
use Rattle.sp_carry.specs.Kept.{carried_of, Keeps}
use Rattle.sp_carry.proofs.Fronts.{front_whole, linked_front, step_back}
use Rattle.sp_carry.proofs.Linked.{kept_is}
use Rattle.sp_carry.proofs.table.Table.take_back.Goals as goal

pub rows-init : goal.rows-init
rows-init c =
    let k = carried_of c.args.self.now in
    (subst (Keeps c.args.self.now) (sym (front_whole k (length k.rows) c.requires.linked (omega arith))) c.requires.kept, c.requires.within, omega arith)

pub drop_carrier-requires-clause-linked : goal.drop_carrier-requires-clause-linked
drop_carrier-requires-clause-linked c =
    let k = carried_of c.args.self.now in
    subst (λ (x : Carried). AreLinked x) (sym (kept_is c.rows.self (front k (length c.rows.self.rows.items)) c.rows.invariant.0))
    (linked_front k (length c.rows.self.rows.items) c.requires.linked c.requires.turn)

pub rows-smaller : goal.rows-smaller
rows-smaller c =
    let step = step_back (carried_of c.args.self.now) c.rows.self c.drop_carrier.new.self c.requires.linked c.requires.turn
    (omega (arith, c.rows-test.true, c.len.ensures, c.rows.self.rows.ok.0)) c.rows.invariant.2 c.rows.invariant.0 c.drop_carrier.ensures in
    let less : length c.drop_carrier.new.self.rows.items < length c.rows.self.rows.items = omega (arith, step.1) in less

pub rows-preserved : goal.rows-preserved
rows-preserved c =
    let step = step_back (carried_of c.args.self.now) c.rows.self c.drop_carrier.new.self c.requires.linked c.requires.turn
    (omega (arith, c.rows-test.true, c.len.ensures, c.rows.self.rows.ok.0)) c.rows.invariant.2 c.rows.invariant.0 c.drop_carrier.ensures in
    (step.0, omega (arith, step.1, c.rows-test.true, c.len.ensures, c.rows.self.rows.ok.0), omega (arith, step.1, c.rows.invariant.2))

pub returns : goal.returns
returns c =
    let all : length c.rows.self.rows.items ≡ c.args.first = omega (arith, c.rows.invariant.1, c.rows-test.false, c.len.ensures, c.rows.self.rows.ok.0) in
    subst (λ (n : ℕ). Keeps c.rows.self (front (carried_of c.args.self.now) n)) all c.rows.invariant.0
