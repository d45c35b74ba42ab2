use Rattle.std.proofs.Common.{◌<◌, length, refl, arith, Some}
use Rattle.std.proofs.lemmas.List.Elements.{All-pop}
use Rattle.sp_carry.specs.declared.carrier.Carrier.{Carrier}
use Rattle.sp_carry.proofs.Keeping.{row_dropped, none_left}
use Rattle.sp_carry.proofs.table.Table.drop_row.Goals as goal

pub returns-clause-kept : goal.returns-clause-kept
returns-clause-kept c = λ k r h.
    let below : c.in-Some.row.tx < length c.args.self.now.txs.items =
    (All-pop (λ (r : Carrier). r.tx < length c.args.self.now.txs.items) c.args.self.now.rows.items c.pop.new.self.items (Some c.in-Some.row) c.in-Some.ensures.items c.requires.there).1 in
    row_dropped c.args.self.now _ k r c.in-Some.row c.index_mut.result.now c.pop-in-Some.new.self h refl refl refl c.in-Some.ensures.items
    (omega (arith, below, c.requires.kept.long)) c.index_mut.ensures.value (λ front last e. (c.pop-in-Some.ensures front last e).0) refl (λ from. refl)

pub returns-clause-left : goal.returns-clause-left
returns-clause-left c = λ k r h.
    let below : c.in-Some.row.tx < length c.args.self.now.txs.items =
    (All-pop (λ (r : Carrier). r.tx < length c.args.self.now.txs.items) c.args.self.now.rows.items c.pop.new.self.items (Some c.in-Some.row) c.in-Some.ensures.items c.requires.there).1 in
    none_left c.args.self.now c.pop.new.self.items k r c.in-Some.row c.index_mut.result.now c.pop-in-Some.result h c.in-Some.ensures.items
    (omega (arith, below, c.requires.kept.long)) c.index_mut.ensures.value (λ front last e. (c.pop-in-Some.ensures front last e).1)
