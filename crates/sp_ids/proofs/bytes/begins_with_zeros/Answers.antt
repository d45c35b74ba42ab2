use Rattle.std.proofs.Common.{arith}
use Rattle.std.proofs.lemmas.Grind.{common_steps}
use Rattle.sp_ids.specs.Digits.{bytes_of_number}
use Rattle.sp_ids.proofs.bytes.begins_with_zeros.Goals as goal

pub returns-then-byte-place-eq1 : goal.returns-then-byte-place-eq1
returns-then-byte-place-eq1 c = rw (bytes_of_number c.args.bytes.now record { long = c.told-bytes; small = λ k _. c.fits-bytes k }) (grind (arith, common_steps))

pub returns : goal.returns
returns c = rw (bytes_of_number c.args.bytes.now record { long = c.told-bytes; small = λ k _. c.fits-bytes k }) (grind (arith, common_steps))
