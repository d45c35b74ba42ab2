use Rattle.std.proofs.Common.{◌∙◌, ◌-◌, ℕ, length, refl, subst}
use Rattle.std.specs.Prelude.{Result, Ok, Err, OnOk}
use Rattle.sp_accept.specs.Changes.{TellsChanges}
use Rattle.sp_rows.proofs.Keeps.{on_err}
use Rattle.sp_engine.proofs.Retreat.{whole_joined}
use Rattle.sp_engine.proofs.CarriedBlocks.{are_of, carried_count}
use Rattle.sp_engine.proofs.Decided.{first_new, told_of}
use Rattle.sp_engine.proofs.Paying.{was_paying}
use Rattle.sp_engine.proofs.TakenBack.{no_wider}
use Rattle.sp_engine.proofs.growth.decide.Goals as goal

pub add_all-requires-clause-joined : goal.add_all-requires-clause-joined
add_all-requires-clause-joined c = (c.args.before.now.blocks, c.requires.joined.0, c.requires.joined.1, c.requires.joined.2)

pub add_all-requires-clause-carried : goal.add_all-requires-clause-carried
add_all-requires-clause-carried c = c.requires.accepting.carriers

pub update-requires-clause-of : goal.update-requires-clause-of
update-requires-clause-of c = are_of c.args.pool.now c.add_all.new.dag c.add_all.new.carriers c.len-blocks.ensures.numbered c.in_ok-add_all.ensures.carried

pub update-requires-clause-right : goal.update-requires-clause-right
update-requires-clause-right c = c.in_ok-add_all.ensures.right c.args.accepted.now c.requires.accepting.right

pub update-requires-clause-first : goal.update-requires-clause-first
update-requires-clause-first c =
    first_new c.args.carriers.now c.add_all.new.carriers c.carrier_count-from.result c.args.accepted.now.blocks c.carrier_count-from.ensures.value c.requires.accepting.all
    c.requires.accepting.carriers.carried c.in_ok-add_all.ensures.below

pub changes-requires : goal.changes-requires
changes-requires c = (c.requires.joined.0, c.in_ok-add_all.ensures.joined c.args.before.now.blocks c.requires.joined.0 c.requires.joined.1 c.requires.joined.2, c.requires.joined.3)

pub update-requires-clause-whole : goal.update-requires-clause-whole
update-requires-clause-whole c =
    whole_joined c.add_all.new.dag c.args.before.now.blocks c.requires.joined.0 c.add_all.new.votes c.add_all.new.saved
    (c.in_ok-add_all.ensures.joined c.args.before.now.blocks c.requires.joined.0 c.requires.joined.1 c.requires.joined.2)

pub update-requires-clause-told : goal.update-requires-clause-told
update-requires-clause-told c =
    told_of c.add_all.new.dag c.in_ok-changed.changed.items c.as_slice-changed.result.now (length c.args.dag.now.parents) c.args.accepted.now.blocks c.as_slice-changed.ensures.value
    (c.requires.accepting.all ∙ carried_count c.args.pool.now c.args.dag.now c.args.carriers.now c.len-before.ensures.numbered c.requires.accepting.carriers)
    (subst (λ (n : ℕ). TellsChanges c.add_all.new.dag n c.in_ok-changed.changed.items) c.requires.blocks c.in_ok-changed.ensures)

on_ok : {X E P : Type 0} (r : Result X E) → P → OnOk r P
on_ok (Ok x) h = h
on_ok (Err e) h = tt

pub returns-clause-joined : goal.returns-clause-joined
returns-clause-joined c = on_ok c.update.result (λ old h tips. c.in_ok-add_all.ensures.joined c.args.before.now.blocks old h tips)

pub returns-in_err-changed-clause-err : goal.returns-in_err-changed-clause-err
returns-in_err-changed-clause-err c = on_err c.from_residual-in_err-changed.result (λ old h tips. (c.in_ok-add_all.ensures.joined c.args.before.now.blocks old h tips).joining)

pub returns-in_err-prepare-clause-err : goal.returns-in_err-prepare-clause-err
returns-in_err-prepare-clause-err c = on_err c.from_residual-in_err-prepare.result (λ old h tips. (c.in_ok-add_all.ensures.joined c.args.before.now.blocks old h tips).joining)

pub returns-clause-err : goal.returns-clause-err
returns-clause-err c = on_err c.update.result (λ old h tips. (c.in_ok-add_all.ensures.joined c.args.before.now.blocks old h tips).joining)

pub returns-in_err-add_all-clause-wider : goal.returns-in_err-add_all-clause-wider
returns-in_err-add_all-clause-wider c = no_wider c.args.carriers.now c.args.accepted.now c.args.purse.now c.args.purse.now c.requires.paying refl

pub returns-in_err-changed-clause-wider : goal.returns-in_err-changed-clause-wider
returns-in_err-changed-clause-wider c = no_wider c.args.carriers.now c.args.accepted.now c.args.purse.now c.args.purse.now c.requires.paying refl

pub returns-in_err-prepare-clause-wider : goal.returns-in_err-prepare-clause-wider
returns-in_err-prepare-clause-wider c = no_wider c.args.carriers.now c.args.accepted.now c.args.purse.now c.prepare.new.self c.requires.paying c.in_err-prepare.ensures.err

pub returns-clause-wider : goal.returns-clause-wider
returns-clause-wider c = record {
  list = c.add_all.new.carriers.txs;
  front = c.in_ok-add_all.ensures.more;
  of = c.in_ok-prepare.ensures.of;
  more = length c.add_all.new.carriers.txs - length c.args.purse.now.accepted;
  flags = c.in_ok-prepare.ensures.accepted;
}

pub prepare-requires-clause-few : goal.prepare-requires-clause-few
prepare-requires-clause-few c =
    (was_paying c.args.carriers.now c.add_all.new.carriers c.args.accepted.now c.args.purse.now c.in_ok-add_all.ensures.more c.requires.accepting.right.no_more_txs c.requires.paying).few

pub prepare-requires-clause-of : goal.prepare-requires-clause-of
prepare-requires-clause-of c =
    (was_paying c.args.carriers.now c.add_all.new.carriers c.args.accepted.now c.args.purse.now c.in_ok-add_all.ensures.more c.requires.accepting.right.no_more_txs c.requires.paying).of
