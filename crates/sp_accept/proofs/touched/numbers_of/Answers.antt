use Rattle.std.proofs.Common.{◌-◌, ◌∙◌, ℕ, ap, arith}
use Rattle.std.specs.Prelude.{filter}
use Rattle.std.specs.List.{range_with_len}
use Rattle.sp_carry.specs.Flags.{is_set}
use Rattle.sp_accept.proofs.Spanned.{span_more}
use Rattle.sp_accept.proofs.touched.numbers_of.Goals as goal

pub numbers-preserved : goal.numbers-preserved
numbers-preserved c =
    span_more (λ tx. is_set c.args.noted.now (tx - c.args.first)) c.args.first (c.numbers.number - c.args.first) c.numbers.number c.numbers.list.items c.note_number.new.list.items
    (omega (arith, c.numbers.auto.number)) c.numbers.invariant c.in_ok-note_number.ensures
    ∙ ap (λ (n : ℕ). filter (λ tx. is_set c.args.noted.now (tx - c.args.first)) (range_with_len c.args.first n)) (omega (arith, c.numbers.auto.number))
