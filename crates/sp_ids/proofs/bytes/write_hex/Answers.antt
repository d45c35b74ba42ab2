use Rattle.std.proofs.Common.{arith}
use Rattle.std.proofs.lemmas.Grind.{common_steps}
use Rattle.sp_ids.specs.Digits.{bytes_of_number}
use Rattle.sp_ids.proofs.bytes.write_hex.Goals as goal

pub returns : goal.returns
returns c = rw (bytes_of_number c.args.bytes.now record { long = c.told-bytes; small = λ k _. c.fits-bytes k }) (grind (arith, common_steps))
