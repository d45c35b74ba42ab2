use Rattle.std.proofs.Common.{◌≡◌, Some, refl, sym, ap, subst, arith}
use Rattle.std.specs.Prelude.{IfSome, is_some}
use Rattle.sp_feed.specs.Kinds.{SaysBlock}
use Rattle.sp_feed.specs.Messages.{said_by}
use Rattle.sp_node.specs.Answers.{IsQuestion, IsTextOf}
use Rattle.sp_node.specs.Journalled.{IsKeptOn}
use Rattle.sp_node.specs.Node.{State}
use Rattle.sp_node.proofs.Questions.{as_before, if_question, is_question, on_ok, question_cause, question_keeps, question_leaves}
use Rattle.sp_node.proofs.node.Node.message.Goals as goal

pub answer-requires-clause-question : goal.answer-requires-clause-question
answer-requires-clause-question g c = is_question c.args.message.now c.in_default.not-Block

pub returns-in-Block : goal.returns-in-Block
returns-in-Block g c =
    let is : said_by c.args.message.now ≡ Some (SaysBlock c.in-Block.bytes.now) = ap said_by c.in-Block.is in
    let done = c.arrive.ensures in
    record {
      ok = rw is done.ok;
      kept = rw is done.kept;
      terms = done.terms;
      kept_unwritten = rw is done.kept_unwritten;
      kept_unsure = rw is done.kept_unsure;
      acknowledged = done.acknowledged;
      acknowledged_unwritten = done.acknowledged_unwritten;
      any_moment = rw is done.any_moment;
      uncalled = done.uncalled;
      asked = rw is (λ question. absurd question);
      has = done.has;
      err = rw is done.err;
      silent = done.silent;
      memory = done.memory;
      memory_disk = done.memory_disk;
      cause = done.cause;
      quiet = done.quiet;
      disk_quiet = done.disk_quiet;
      told = done.told;
      disk_later = done.disk_later;
      vote = λ x y other fault. cc (is, other);
      tx = λ id other fault. cc (is, other);
      balance = λ lock other fault. cc (is, other);
      later = done.later;
      stopped = done.stopped;
      refused = done.refused;
    }

pub returns-in_default : goal.returns-in_default
returns-in_default g c =
    let said = said_by c.args.message.now in
    let before = c.args.self.now in
    let result = c.answer.result in
    let done = c.answer.ensures in
    let question : IfSome said IsQuestion = is_question c.args.message.now c.in_default.not-Block in
    let keeps = question_keeps before.terms.bits before.kept c.answer.new.self.kept said question (ap (λ (s : State). s.kept) done.state) in
    let stands : IsKeptOn c.answer.new.self.terms c.answer.new.self.kept c.answer.new.self.journal (g.D.Disk.now c.args.disk.now) =
    subst (λ (s : State). IsKeptOn s.terms s.kept s.journal (g.D.Disk.now c.args.disk.now)) (sym done.state) c.requires.stands in
    record {
      ok = done.ok;
      kept = on_ok result _ keeps;
      terms = ap (λ (s : State). s.terms) done.state;
      kept_unwritten = λ _. keeps;
      kept_unsure = λ _. keeps;
      acknowledged = on_ok result _ stands;
      acknowledged_unwritten = λ _. stands;
      any_moment = question_leaves before.terms before.kept before.journal (g.D.Disk.now c.args.disk.now) said (g.met.D.Disk.is_moment c.args.disk.now) c.requires.stands;
      uncalled = λ _. (refl, done.never);
      asked = if_question said _ (refl, done.never);
      has = ap (λ (s : State). is_some s.journal) done.state;
      err = done.err;
      silent = λ fault. absurd (done.never fault);
      memory = λ fault. (done.memory fault).1;
      memory_disk = λ _. refl;
      cause = question_cause result _ _ _ _ done.never done.cause;
      quiet = done.quiet;
      disk_quiet = λ _. refl;
      told = (λ told. told, λ told. told);
      disk_later = omega arith;
      vote = λ x y is fault. subst IsTextOf is (done.memory fault).0;
      tx = λ id is fault. subst IsTextOf is (done.memory fault).0;
      balance = λ lock is fault. subst IsTextOf is (done.memory fault).0;
      later = done.later;
      stopped = ap (λ (s : State). s.stopped) done.state;
      refused = as_before before c.answer.new.self result c.requires.live done.state;
    }
