use Rattle.std.proofs.Common.{arith}
use Rattle.sp_accept.proofs.Accepting.{dropped_behind, dropped_there}
use Rattle.sp_accept.proofs.accepted_rows.AcceptedRows.forget.Goals as goal

pub returns-then-place-len : goal.returns-then-place-len
returns-then-place-len c = λ k flags d is h. dropped_there k flags d c.args.tx c.args.self.now.places.items c.args.self.now.rows.items is (omega (arith, c.if-place-len.true, c.len.ensures, c.args.self.now.places.ok.0)) h

pub returns-else-place-len : goal.returns-else-place-len
returns-else-place-len c = λ k flags d is h. dropped_behind k flags d c.args.tx c.args.self.now.places.items c.args.self.now.rows.items is (omega (arith, c.if-place-len.false, c.len.ensures, c.args.self.now.places.ok.0)) h
