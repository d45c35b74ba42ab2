use Rattle.std.proofs.Common.{length, sym, ◌∙◌}
use Rattle.sp_tx.proofs.Judged.{order_breaks, size_breaks}
use Rattle.sp_form.proofs.Breaks.{outside}
use Rattle.sp_tx.proofs.check.check_input.Goals as goal

pub returns-then-not-is_next : goal.returns-then-not-is_next
returns-then-not-is_next c = record { ok = tt; fault = (λ e. cc, λ rest. order_breaks c.args.before c.args.input.now rest c.as_bytes-id.ensures.bound (sym c.is_next.ensures ∙ c.if-not-is_next.true)) }

pub returns-then-size-lt1 : goal.returns-then-size-lt1
returns-then-size-lt1 c =
    let size = rw c.as_slice-size.ensures at (outside (length c.as_slice-size.result.now) 1 64 c.then-size-lt1.either) in
    record { ok = tt; fault = (λ e. cc, λ rest. size_breaks c.args.before c.args.input.now rest c.as_bytes-id.ensures.bound (sym c.is_next.ensures ∙ c.if-not-is_next.false) size) }
