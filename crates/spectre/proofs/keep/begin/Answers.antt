use Rattle.std.proofs.Common.{◌∙◌, Ok, Err, ap, subst, sym}
use Rattle.std.proofs.lemmas.Result.{err_from_is_err_and}
use Rattle.sp_disk.specs.Moments.{Looks}
use Rattle.sp_engine.specs.Arrivals.{kept_by_all}
use Rattle.sp_feed.specs.Reads.{moment}
use Rattle.sp_feed.proofs.WholeFeeds.{from_start}
use Rattle.sp_disk.proofs.Lasting.{looks_same}
use Rattle.spectre.proofs.Keeping.{sent_bytes, untried_head, untried_start}
use Rattle.spectre.proofs.keep.begin.Goals as goal

pub returns-in_err-head-clause-err : goal.returns-in_err-head-clause-err
returns-in_err-head-clause-err g c =
    let now = moment (g.S.Source.left c.head.new.source) (g.S.Source.faults c.head.new.source) c.head.new.self.taken in
    let p = err_from_is_err_and c.from_residual.result c.from_residual.ensures.1 in
    rw (p.1, p.2) (λ old. untried_head c.args.stored old (g.D.Disk.now c.args.disk.now) (g.met.D.Disk.is_moment c.args.disk.now) c.in_err-head.field-0.0 (from_start {now = now} {r = Err c.in_err-head.field-0.0} (ap (λ r. r.limit) c.requires.new) (ap (λ r. r.taken) c.requires.new) c.in_err-head.ensures.gives))

pub returns-in_err-node_on-clause-err : goal.returns-in_err-node_on-clause-err
returns-in_err-node_on-clause-err g c =
    let now = moment (g.S.Source.left c.head.new.source) (g.S.Source.faults c.head.new.source) c.head.new.self.taken in
    let p = err_from_is_err_and c.from_residual-in_err-node_on.result c.from_residual-in_err-node_on.ensures.1 in
    let e = c.in_err-node_on.ensures in
    let first = g.D.Disk.now c.args.disk.now in
    let gives = from_start {now = now} {r = Ok c.in_ok-head.head} (ap (λ r. r.limit) c.requires.new) (ap (λ r. r.taken) c.requires.new) c.in_ok-head.ensures.gives in
    rw (p.1, p.2) (λ old. untried_start c.args.stored old first (g.D.Disk.now c.node_on.new.disk) c.in_ok-head.head gives e.genesis c.in_err-node_on.field-0.0 e.other (λ d. e.created (ap (λ t. Err t) d)) e.any_moment
    (λ f. subst (λ d. Looks first (g.D.Disk.now d)) (sym (e.untouched f)) (looks_same first (g.met.D.Disk.is_moment c.args.disk.now))) (λ m. subst (λ d. Looks first (g.D.Disk.now d)) (sym (e.memory (ap (λ t. Err t) m))) (looks_same first (g.met.D.Disk.is_moment c.args.disk.now))))

pub returns-clause-ok : goal.returns-clause-ok
returns-clause-ok g c =
    let now = moment (g.S.Source.left c.head.new.source) (g.S.Source.faults c.head.new.source) c.head.new.self.taken in
    let e = c.in_ok-node_on.ensures in
    record {
      head = c.in_ok-head.head;
      gives = from_start {now = now} {r = Ok c.in_ok-head.head} (ap (λ r. r.limit) c.requires.new) (ap (λ r. r.taken) c.requires.new) c.in_ok-head.ensures.gives;
      spelled = e.genesis;
      same = e.same;
      kept = e.kept;
      sent = e.sent ∙ ap (kept_by_all c.in_ok-head.head.bits c.in_ok-head.head.genesis) (sent_bytes c.args.stored);
      terms = e.terms;
      live = e.live;
      has = e.has;
      stands = e.stands;
      leaves = e.any_moment;
    }
