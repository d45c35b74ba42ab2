use Rattle.std.proofs.Common.{length, List, sym, subst, arith}
use Rattle.std.proofs.lemmas.List.{take_all}
use Rattle.sp_tx.specs.Parts.{Transaction}
use Rattle.sp_carry.specs.Carried.{with_carriers}
use Rattle.sp_carry.specs.Kept.{carried_of, Keeps}
use Rattle.sp_carry.proofs.carry.carry_with_room.Goals as goal

pub returns-in-Err-clause-err : goal.returns-in-Err-clause-err
returns-in-Err-clause-err c = (
  length c.args.txs.now,
  subst (λ (ts : List Transaction). Keeps c.carry_all.new.self (with_carriers c.args.dag.now (carried_of c.args.table.now) ts))
      (sym (take_all (length c.args.txs.now) c.args.txs.now (omega arith))) c.in_ok-carry_all.ensures.ok,
)
