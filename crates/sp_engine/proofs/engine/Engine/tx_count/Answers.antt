use Rattle.std.proofs.Common.{◌∙◌}
use Rattle.sp_engine.proofs.Facts.{accepting_of, engine_of}
use Rattle.sp_engine.proofs.StatesByNumbers.{ids_carried, ids_once, txs_counted}
use Rattle.sp_engine.proofs.engine.Engine.tx_count.Goals as goal

pub returns-clause-count : goal.returns-clause-count
returns-clause-count c =
    c.tx_count.ensures.value
    ∙ txs_counted (engine_of c.self.view_is c.self.invariant) (accepting_of c.self.view_is c.self.invariant)

pub returns-clause-ids : goal.returns-clause-ids
returns-clause-ids c = ids_carried (engine_of c.self.view_is c.self.invariant) (accepting_of c.self.view_is c.self.invariant)

pub returns-clause-once : goal.returns-clause-once
returns-clause-once c = ids_once (engine_of c.self.view_is c.self.invariant) (accepting_of c.self.view_is c.self.invariant)
