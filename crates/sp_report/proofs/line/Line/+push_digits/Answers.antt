use Rattle.std.proofs.Common.{◌∙◌, ◌++◌, ◌∷◌, ◌+◌, ◌%◌, ◌/◌, [], length, length-append, ap, arith}
use Rattle.std.specs.Fmt.{decimal}
use Rattle.sp_report.proofs.Decimals.{fewer_digits, last_digit, one_alone, one_digit}
use Rattle.sp_report.proofs.line.Line.+push_digits.Goals as goal
use Rattle.sp_report.proofs.line.Line.+push_digits.Goals.{then-number-ge10, else-number-ge10}

pub push_byte-requires : goal.push_byte-requires
push_byte-requires t c =
    elim c.if-number-ge10.branch [
      | then-number-ge10 w ↦ omega (arith, fewer_digits c.args.number w.if-number-ge10.true c.ranges.number.fits, length-append c.args.self.now (decimal (c.args.number / 10)), ap length (w.self-is ∙ w.push_digits.ensures))
      | else-number-ge10 w ↦ omega (arith, one_alone c.args.number w.if-number-ge10.false, ap length w.self-is)
    ]

pub returns : goal.returns
returns t c =
    elim c.if-number-ge10.branch [
      | then-number-ge10 w ↦ last_digit c.args.self.now c.if-number-ge10.self c.push_byte.new.self c.args.number w.if-number-ge10.true c.ranges.number.fits (w.self-is ∙ w.push_digits.ensures) c.push_byte.ensures.text
      | else-number-ge10 w ↦ one_digit c.args.self.now c.push_byte.new.self c.args.number w.if-number-ge10.false (c.push_byte.ensures.text ∙ ap (λ l. l ++ (48 + c.args.number % 10) ∷ []) w.self-is)
    ]
