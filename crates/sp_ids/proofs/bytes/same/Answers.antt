use Rattle.std.proofs.Common.{◌∙◌}
use Rattle.sp_ids.proofs.Numbers.{same_number}
use Rattle.sp_ids.proofs.bytes.same.Goals as goal

pub returns : goal.returns
returns c =
    c.eq.ensures
    ∙ same_number c.args.bytes.now c.args.other.now record { long = c.told-bytes; small = λ k _. c.fits-bytes k } record { long = c.told-other; small = λ k _. c.fits-other k }
