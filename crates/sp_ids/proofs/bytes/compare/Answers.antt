use Rattle.std.proofs.Common.{rules, ◌∙◌}
use Rattle.sp_ids.proofs.Numbers.{by_first_apart, by_none_apart}
use Rattle.sp_ids.proofs.bytes.compare.Goals as goal

pub returns-then-bytes-place : goal.returns-then-bytes-place
returns-then-bytes-place c =
    c.cmp.ensures
    ∙ by_first_apart c.args.bytes.now c.args.other.now c.loop-place.place record { long = c.told-bytes; small = λ k _. c.fits-bytes k } record { long = c.told-other; small = λ k _. c.fits-other k } (search rules) c.loop-place.invariant c.if-bytes-place.true

pub returns : goal.returns
returns c =
    by_none_apart c.args.bytes.now c.args.other.now record { long = c.told-bytes; small = λ k _. c.fits-bytes k } record { long = c.told-other; small = λ k _. c.fits-other k } (λ k le. c.loop-place.invariant k (search rules))
