use Rattle.std.proofs.Common.{◌<◌, length}
use Rattle.std.proofs.lemmas.List.Elements.{All-same}
use Rattle.sp_accept.proofs.Numbers.{carriers_within}
use Rattle.sp_accept.proofs.lookups.carriers_of.Goals as goal

pub returns-clause-within : goal.returns-clause-within
returns-clause-within c =
    All-same (λ n. n < length c.args.carriers.now.rows) c.carriers_of.result.now _ c.carriers_of.ensures
    (carriers_within c.args.carriers.now.rows c.args.tx)
