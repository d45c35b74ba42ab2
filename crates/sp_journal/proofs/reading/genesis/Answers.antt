use Rattle.sp_journal.proofs.Recovered.{genesis_found}
use Rattle.sp_journal.proofs.reading.genesis.Goals as goal

pub returns-clause-found : goal.returns-clause-found
returns-clause-found c = genesis_found c.args.length c.args.fields.now c.in-Some.bytes.now c.take.new.self c.in-Some.ensures.field c.in-Some.ensures.size c.in-Some.ensures.left c.in_ok-found.found c.in_ok-found.ensures
