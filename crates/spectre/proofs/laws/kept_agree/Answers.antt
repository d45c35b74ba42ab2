use Rattle.sp_engine.proofs.AllKept.{all_are_kept, genesis_is_first, genesis_spelled}
use Rattle.sp_engine.proofs.Granted.{none_conflict, sources_by_id}
use Rattle.sp_engine.specs.Arrivals.{kept_by_all}
use Rattle.spectre.proofs.laws.kept_agree.Goals as goal

pub returns : goal.returns
returns c profile bits genesis arrivals bytes spelled all =
    let kept = kept_by_all bits genesis arrivals in
    let g = genesis_spelled genesis.bytes genesis bytes spelled in
    let are = all_are_kept bits genesis arrivals g.0 g.1 all in
    let first = genesis_is_first bits genesis arrivals in
    record {
      no_conflict = λ plain t u in_t in_u. none_conflict profile kept are plain t u in_t in_u;
      sources = λ t i in_t in_i. sources_by_id profile kept t i in_t in_i;
      granted = λ plain locks apart. c.nothing_is_made.ensures profile kept first.0 genesis locks are first.1 plain apart;
    }
