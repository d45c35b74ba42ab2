use Rattle.std.proofs.Common.{ap}
use Rattle.sp_ids.specs.Digest.{sha256_number}
use Rattle.sp_ids.specs.Key.{number_of}
use Rattle.sp_ids.proofs.bytes.digest.Goals as goal

pub returns : goal.returns
unfolding sha256_number
returns c = ap number_of c.digest.ensures
