use Rattle.std.proofs.Common.{◌<◌, length}
use Rattle.std.proofs.lemmas.List.Elements.{All-same}
use Rattle.sp_accept.proofs.Numbers.{spenders_within}
use Rattle.sp_accept.proofs.lookups.spenders_of.Goals as goal

pub returns-clause-within : goal.returns-clause-within
returns-clause-within c =
    All-same (λ n. n < length c.args.carriers.now.txs) c.spenders_of.result.now _ c.spenders_of.ensures
    (spenders_within c.args.carriers.now.txs c.args.from.now)
