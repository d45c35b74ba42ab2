use Rattle.std.proofs.Common.{sym}
use Rattle.sp_ids.proofs.Numbers.{bytes_seen}
use Rattle.sp_ids.specs.Digits.{number_of-bound}
use Rattle.sp_ids.proofs.tx_id.TxId.as_bytes.Goals as goal

pub returns-clause-value : goal.returns-clause-value
returns-clause-value c = sym (bytes_seen c.self.inside.0 c.args.self.now c.self.view_is c.self.invariant)

pub returns-clause-bound : goal.returns-clause-bound
returns-clause-bound c = rw (← c.self.view_is) (number_of-bound c.self.inside.0 c.self.invariant)
