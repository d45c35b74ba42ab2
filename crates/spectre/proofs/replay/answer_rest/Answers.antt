use Rattle.std.proofs.Common.{◌≡◌, ◌∙◌, None, Some, Ok, Err, IfSome, Option, refl, ap, sym, subst}
use Rattle.std.specs.Io.KnownBytes.{Appends}
use Rattle.std.proofs.lemmas.Result.{err_from_is_err_and}
use Rattle.sp_io.specs.Whole.{AppendsFront}
use Rattle.sp_feed.specs.Kinds.{Said}
use Rattle.sp_feed.specs.Reader.{last_of}
use Rattle.sp_feed.specs.Reads.{moment}
use Rattle.sp_feed.proofs.WholeFeeds.{behind_open, from_limit, tells}
use Rattle.sp_names.specs.Labels.{no_labels}
use Rattle.sp_node.specs.Answers.{kept_then, reply_of}
use Rattle.spectre.specs.declared.replay.ReplayFault.TheVariants.{Feed}
use Rattle.spectre.proofs.Replies.{disk_fault, disk_rose, disk_still, one_more, quiet_next, quiet_node, stop_cause}
use Rattle.sp_node.specs.Journalled.{HoldsThen, LeavesOn}
use Rattle.sp_pool.specs.Kept.{AreKept}
use Rattle.spectre.proofs.Running.{none_on, run_first, run_more}
use Rattle.spectre.proofs.Securing.{secures_end, secures_fault, secures_stop}
use Rattle.spectre.proofs.replay.answer_rest.Goals as goal

pub messages-init : goal.messages-init
messages-init g c = record {
  limit = c.requires.limit;
  opened = c.requires.opened;
  unended = c.requires.unended;
  live = c.requires.live;
  run = run_first c.args.node.now.terms c.args.node.now.kept c.args.node.now.journal (g.D.Disk.now c.args.disk.now) (g.met.D.Disk.is_moment c.args.disk.now) c.requires.stands;
  uncalled = λ none. refl;
  disk_quiet = refl;
  answering = λ before start old h. h;
  read_quiet = refl;
  write_quiet = refl;
}

pub returns-in_err-next-clause-replies : goal.returns-in_err-next-clause-replies
returns-in_err-next-clause-replies g c =
    let mid = moment (g.S.Source.left c.messages.source) (g.S.Source.faults c.messages.source) c.messages.reader.taken in
    let now = moment (g.S.Source.left c.next.new.source) (g.S.Source.faults c.next.new.source) c.next.new.self.taken in
    let p = err_from_is_err_and c.from_residual.result c.from_residual.ensures.1 in
    rw (p.1, p.2) (λ before start old h. secures_fault before (c.messages.invariant.answering before start old h) c.messages.invariant.run (from_limit {old = mid} {now = now} {r = Err c.in_err-next.field-0.0} c.messages.invariant.limit (c.in_err-next.ensures.gives c.messages.invariant.unended)))

pub returns-in_err-next-clause-read_quiet : goal.returns-in_err-next-clause-read_quiet
returns-in_err-next-clause-read_quiet g c =
    let p = err_from_is_err_and c.from_residual.result c.from_residual.ensures.1 in
    rw (p.1, p.2) (λ other. quiet_next _ _ _ c.in_err-next.ensures.quiet (λ h. other (ap (λ t. Err (Feed t)) h)) ∙ c.messages.invariant.read_quiet)

pub returns-in_err-next-clause-cause : goal.returns-in_err-next-clause-cause
returns-in_err-next-clause-cause g c =
    let p = err_from_is_err_and c.from_residual.result c.from_residual.ensures.1 in
    rw (p.1, p.2) tt

pub returns-in-End-clause-replies : goal.returns-in-End-clause-replies
returns-in-End-clause-replies g c =
    let mid = moment (g.S.Source.left c.messages.source) (g.S.Source.faults c.messages.source) c.messages.reader.taken in
    let now = moment (g.S.Source.left c.next.new.source) (g.S.Source.faults c.next.new.source) c.next.new.self.taken in
    λ before start old h. secures_end before (c.messages.invariant.answering before start old h) c.messages.invariant.run (from_limit {old = mid} {now = now} {r = Ok tt} c.messages.invariant.limit (c.in_ok-next.ensures.gives c.messages.invariant.unended)) (sym c.in-End.ensures)

pub messages-preserved : goal.messages-preserved
messages-preserved g c =
    let mid = moment (g.S.Source.left c.messages.source) (g.S.Source.faults c.messages.source) c.messages.reader.taken in
    let now = moment (g.S.Source.left c.next.new.source) (g.S.Source.faults c.next.new.source) c.next.new.self.taken in
    let s = tells c.message-message.result c.in_default.not-End in
    let is : last_of c.next.new.self.stage ≡ Some s.0 = sym c.message-message.ensures ∙ s.1 in
    let terms = c.messages.node.terms in
    let kept = c.messages.node.kept in
    let e = c.in_ok-message-in_default.ensures in
    let are = subst AreKept c.engine.ensures.kept c.kept_count-kept.ensures.blocks in
    let first = c.args.node.now in
    let then = subst (λ (o : Option Said). IfSome o (λ said. c.message.new.self.kept ≡ kept_then terms.bits kept said)) s.1 e.kept in
    record {
      limit = c.in_ok-next.ensures.limit ∙ c.messages.invariant.limit;
      opened = behind_open _ c.in_ok-next.ensures.ok;
      unended = λ e. let no : None ≡ Some s.0 = sym (ap last_of e) ∙ is in cc;
      live = e.stopped;
      run = run_more first.terms first.kept first.journal (g.D.Disk.now c.args.disk.now) (g.D.Disk.now c.messages.disk) (g.D.Disk.now c.message.new.disk) terms kept c.messages.node.journal c.messages.invariant.run are
          s.0 c.message.new.self.terms c.message.new.self.kept c.message.new.self.journal e.terms then e.has e.told e.acknowledged
          (subst (λ (o : Option Said). IfSome o (λ said. LeavesOn c.messages.node.journal (g.D.Disk.now c.messages.disk) (g.D.Disk.now c.message.new.disk) (HoldsThen terms kept said))) s.1 e.any_moment);
      uncalled = λ none. (e.uncalled (none_on c.messages.node.journal first.journal c.messages.invariant.run.has none)).0 ∙ c.messages.invariant.uncalled none;
      disk_quiet = e.disk_quiet (λ h. cc) ∙ c.messages.invariant.disk_quiet;
      answering = λ before start old h. one_more before s.0 (c.messages.invariant.answering before start old h) (from_limit {old = mid} {now = now} {r = Ok tt} c.messages.invariant.limit (c.in_ok-next.ensures.gives c.messages.invariant.unended)) is
          (subst (λ (o : Option Said). IfSome o (λ said. Appends (g.K.Sink.taken c.messages.sink) (g.K.Sink.taken c.message.new.sink) (reply_of no_labels terms kept said))) s.1 e.ok)
          then e.terms;
      read_quiet = c.in_ok-next.ensures.quiet ∙ c.messages.invariant.read_quiet;
      write_quiet = e.quiet (λ h. cc) ∙ c.messages.invariant.write_quiet;
    }

pub returns-in_err-message-in_default : goal.returns-in_err-message-in_default
returns-in_err-message-in_default g c =
    let mid = moment (g.S.Source.left c.messages.source) (g.S.Source.faults c.messages.source) c.messages.reader.taken in
    let now = moment (g.S.Source.left c.next.new.source) (g.S.Source.faults c.next.new.source) c.next.new.self.taken in
    let p = err_from_is_err_and c.from_residual-in_err-message-in_default.result c.from_residual-in_err-message-in_default.ensures.1 in
    let s = tells c.message-message.result c.in_default.not-End in
    let is : last_of c.next.new.self.stage ≡ Some s.0 = sym c.message-message.ensures ∙ s.1 in
    let terms = c.messages.node.terms in
    let kept = c.messages.node.kept in
    let e = c.in_err-message-in_default.ensures in
    let first = c.args.node.now in
    let front = subst (λ (o : Option Said). IfSome o (λ said. AppendsFront (g.K.Sink.taken c.messages.sink) (g.K.Sink.taken c.message.new.sink) (reply_of no_labels terms kept said))) s.1 e.err in
    let then = subst (λ (o : Option Said). IfSome o (λ said. LeavesOn c.messages.node.journal (g.D.Disk.now c.messages.disk) (g.D.Disk.now c.message.new.disk) (HoldsThen terms kept said))) s.1 e.any_moment in
    let are = subst AreKept c.engine.ensures.kept c.kept_count-kept.ensures.blocks in
    let f = c.in_err-message-in_default.field-0.0 in
    let taken = g.K.Sink.taken in
    rw (p.1, p.2) (record {
      replies = λ before start old h. secures_stop before (c.messages.invariant.answering before start old h) c.messages.invariant.run s.0 are (g.met.D.Disk.is_moment c.messages.disk) (g.met.D.Disk.is_moment c.message.new.disk) e.told then
          c.message.new.self.terms c.message.new.self.kept c.message.new.self.journal f (from_limit {old = mid} {now = now} {r = Ok tt} c.messages.invariant.limit (c.in_ok-next.ensures.gives c.messages.invariant.unended)) is
          (λ d. ap taken (e.silent (ap (λ t. Err t) d))) (λ d. ap taken (e.memory (ap (λ t. Err t) d))) front e.terms
          (λ d. subst (λ (o : Option Said). IfSome o (λ said. c.message.new.self.kept ≡ kept_then terms.bits kept said)) s.1 (e.kept_unwritten (ap (λ t. Err t) d))) e.has (λ d. e.acknowledged_unwritten (ap (λ t. Err t) d));
      uncalled = λ none.
          let here = e.uncalled (none_on c.messages.node.journal first.journal c.messages.invariant.run.has none) in
          (here.0 ∙ c.messages.invariant.uncalled none, λ d. here.1 (disk_fault f d));
      told = ((λ t. e.told.0 (c.messages.invariant.run.told.0 t)), (λ t. c.messages.invariant.run.told.1 (e.told.1 t)));
      cause = stop_cause f (g.K.Sink.faults c.args.sink.now) (g.K.Sink.faults c.messages.sink) (g.K.Sink.faults c.message.new.sink) _ _ c.messages.invariant.write_quiet e.cause;
      disk_cause = λ d. disk_rose f (g.D.Disk.now c.args.disk.now).faults (g.D.Disk.now c.messages.disk).faults (g.D.Disk.now c.message.new.disk).faults _ _ c.messages.invariant.disk_quiet e.cause d;
      read_quiet = λ _. c.in_ok-next.ensures.quiet ∙ c.messages.invariant.read_quiet;
      write_quiet = λ other. quiet_node _ _ _ (λ k. e.quiet (λ h. k cc)) (λ h. other (ap (λ t. Err t) h)) ∙ c.messages.invariant.write_quiet;
      disk_quiet = λ other. disk_still f _ _ (λ k. e.disk_quiet (λ h. k cc)) other ∙ c.messages.invariant.disk_quiet;
    })
