use Rattle.sp_money.proofs.Fronts.{first_of, kept_cut, of_cut}
use Rattle.sp_money.proofs.store.Store.cut.Goals as goal

pub returns-clause-kept : goal.returns-clause-kept
returns-clause-kept c =
    let old = c.args.self.now in
    let list = c.requires.of.0 in
    let of = c.requires.of.1 in
    let slots = c.slot_count-slots.ensures.value list of in
    kept_cut old c.take_back.new.self list c.args.txs c.slot_count-slots.result c.args.locks of c.requires.kept c.requires.early c.requires.within
    slots c.requires.none (first_of old list c.args.txs c.slot_count-slots.result c.args.locks of c.len-locks.ensures.once c.requires.kept slots c.requires.of.2)
    c.take_back.ensures

pub returns-clause-of : goal.returns-clause-of
returns-clause-of c = λ list of.
    let old = c.args.self.now in
    let some = c.requires.of.0 in
    let first = first_of old some c.args.txs c.slot_count-slots.result c.args.locks c.requires.of.1 c.len-locks.ensures.once c.requires.kept
    (c.slot_count-slots.ensures.value some c.requires.of.1) c.requires.of.2 in
    of_cut old c.take_back.new.self list c.args.txs c.slot_count-slots.result c.args.locks of c.requires.within
    (c.slot_count-slots.ensures.value list of) c.requires.none first c.take_back.ensures
