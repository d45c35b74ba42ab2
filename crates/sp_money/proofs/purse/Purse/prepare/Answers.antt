use Rattle.std.proofs.Common.{length, take, ap, sym, subst, ◌∙◌, arith}
use Rattle.sp_money.specs.Held.{Held, IsOf}
use Rattle.sp_money.specs.Kept.{held_of}
use Rattle.sp_money.proofs.Growing.{front_kept}
use Rattle.sp_money.proofs.Standing.{length-starts}
use Rattle.sp_money.proofs.purse.Purse.prepare.Goals as goal

pub returns-in-Err-clause-err : goal.returns-in-Err-clause-err
returns-in-Err-clause-err c =
    let s = c.self.inside.store in
    let of : IsOf (take (length c.args.self.now.accepted) c.args.carriers.now.txs) (held_of s) =
    subst (λ (h : Held). IsOf (take (length c.args.self.now.accepted) c.args.carriers.now.txs) h) (sym c.self.view_is) c.requires.of in
    (front_kept s c.add_txs.new.self c.take_back.new.self c.len-slots.result c.len-txs.result c.len-locks.result c.self.invariant.0 c.add_txs.ensures.longer c.take_back.ensures
    (omega arith) (omega arith) (ap length of.starts ∙ length-starts 0 (take (length c.args.self.now.accepted) c.args.carriers.now.txs) ∙ sym of.flags) c.len-locks.ensures.value).1
    ∙ c.self.view_is
