use Rattle.sp_engine.proofs.AllKept.{all_are_kept, genesis_is_first, genesis_spelled}
use Rattle.sp_engine.proofs.Granted.{none_conflict, sources_by_id}
use Rattle.sp_engine.specs.Arrivals.{kept_by_all}
use Rattle.spectre.specs.Talks.{arrived_by}
use Rattle.spectre.proofs.Talking.{brings_bytes, fewer_arrived}
use Rattle.spectre.proofs.laws.jobs_agree.Goals as goal

pub returns : goal.returns
returns c job disk input bytes talk says of genesis spelled before after is =
    let arrivals = arrived_by talk before in
    let kept = kept_by_all talk.terms.bits genesis arrivals in
    let brought = brings_bytes job disk input bytes talk says of in
    let g = genesis_spelled talk.genesis genesis brought.genesis spelled in
    let are = all_are_kept talk.terms.bits genesis arrivals g.0 g.1 (fewer_arrived talk before after is brought) in
    let first = genesis_is_first talk.terms.bits genesis arrivals in
    record {
      no_conflict = λ plain t u in_t in_u. none_conflict talk.terms.profile kept are plain t u in_t in_u;
      sources = λ t i in_t in_i. sources_by_id talk.terms.profile kept t i in_t in_i;
      granted = λ plain locks apart. c.nothing_is_made.ensures talk.terms.profile kept first.0 genesis locks are first.1 plain apart;
    }
