use Rattle.sp_carry.proofs.Forgetting.{as_before}
use Rattle.sp_carry.specs.Lookups.{kept_at}
use Rattle.sp_carry.proofs.Noting.{on_err}
use Rattle.sp_carry.proofs.spenders.Spenders.add.Goals as goal

pub returns-then-is_err-clause-err : goal.returns-then-is_err-clause-err
returns-then-is_err-clause-err c =
    on_err c.note_all-noted.result c.note_all-noted.ensures.err
    (λ p. as_before c.args.self.now.lists c.note_all-noted.new.lists c.forget_all.new.lists c.args.inputs.now c.args.number p.0
    c.requires.below p.1 (c.forget_all.ensures (kept_at c.args.self.now.lists)))
