use Rattle.std.proofs.Common.{◌<◌, length}
use Rattle.std.proofs.lemmas.List.Elements.{All-same}
use Rattle.sp_accept.specs.Pass.{inputs_at}
use Rattle.sp_accept.proofs.Spent.{sources_within}
use Rattle.sp_accept.proofs.lookups.sources_of.Goals as goal

pub returns-clause-within : goal.returns-clause-within
returns-clause-within c =
    All-same (λ n. n < length c.args.carriers.now.txs) c.sources_of.result.now _ c.sources_of.ensures
    (sources_within c.args.carriers.now.txs c.args.tx (inputs_at c.args.carriers.now c.args.tx) c.requires)
