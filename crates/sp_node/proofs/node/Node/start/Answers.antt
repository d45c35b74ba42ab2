use Rattle.std.proofs.Common.{◌∙◌, ◌∷◌, [], inl, inr, ⊎_elim, refl, sym, ap, subst, arith}
use Rattle.sp_node.specs.Journalled.{IsKeptOn}
use Rattle.sp_node.specs.Node.{State}
use Rattle.sp_node.specs.Stored.{IsReady}
use Rattle.sp_node.specs.Terms.{terms_in, terms_of}
use Rattle.sp_node.specs.declared.stored.Stored.{Stored}
use Rattle.sp_node.proofs.Started.{found_stands, kept_on, same_terms}
use Rattle.sp_node.proofs.node.Node.start.Goals as goal

pub returns-in-Ok : goal.returns-in-Ok
returns-in-Ok g c =
    let new = g.D.Disk.now c.start_new.new.disk in
    let head = c.args.head in
    let is = c.in-Empty.is in
    let engine = c.in-Ok.engine in
    let made = c.with_journal.ensures in
    let done = c.in-Ok.ensures in
    record {
      kept = rw is (ap (λ (n : State). n.kept) made ∙ done.engine.kept_are);
      sent = rw is (ap (λ (n : State). n.kept) made ∙ done.engine.kept_are);
      terms = ap (λ (n : State). n.terms) made ∙ same_terms done.engine.profile_is done.engine.bits_are;
      live = ap (λ (n : State). n.stopped) made;
      has = rw (ap (λ (n : State). n.journal) made) refl;
      stands = subst (λ (n : State). IsKeptOn n.terms n.kept n.journal new) (sym made)
          (kept_on (terms_of head.profile head.bits) (terms_in engine) (head.genesis ∷ []) engine.kept c.in-Ok.journal new (same_terms done.engine.profile_is done.engine.bits_are) done.engine.kept_are (λ told. done.stands (done.told.1 told)));
      any_moment = rw is (λ told. (done.any_moment told, done.lasts told));
      untouched = rw is (λ found. absurd found);
      told = done.told;
      same = rw is tt;
      other = tt;
      created = λ fault. absurd (cc fault);
      fault = λ fault. absurd (cc fault);
      memory = λ fault. absurd (cc fault);
      later = done.later;
      quiet = λ _. done.quiet (λ fault. cc fault);
    }

pub returns-in-Err : goal.returns-in-Err
returns-in-Err g c =
    let is = c.in-Empty.is in
    let done = c.in-Err.ensures in
    record {
      kept = tt;
      sent = tt;
      terms = tt;
      live = tt;
      has = tt;
      stands = tt;
      any_moment = rw is (λ told. (done.any_moment told, done.lasts told));
      untouched = rw is (λ found. absurd found);
      told = done.told;
      same = tt;
      other = ⊎_elim (λ disk. inl disk) (λ memory. inr (inl memory)) done.own;
      created = λ _. rw is (λ found. found);
      fault = λ fault. done.fault (cc fault);
      memory = λ fault. done.memory (cc fault);
      later = done.later;
      quiet = λ none. done.quiet (λ fault. none (cc fault));
    }

pub returns-in-Ok-start_found : goal.returns-in-Ok-start_found
returns-in-Ok-start_found g c =
    let now = g.D.Disk.now c.args.disk.now in
    let head = c.args.head in
    let is = c.in-Found.is in
    let opened = c.in-Found.opened in
    let engine = c.in-Ok-start_found.engine in
    let journal = c.in-Ok-start_found.journal in
    let made = c.with_journal-in-Ok-start_found.ensures in
    let done = c.in-Ok-start_found.ensures in
    record {
      kept = rw is (ap (λ (n : State). n.kept) made ∙ done.engine.kept_are);
      sent = rw is (ap (λ (n : State). n.kept) made ∙ done.sent);
      terms = ap (λ (n : State). n.terms) made ∙ same_terms done.engine.profile_is done.engine.bits_are;
      live = ap (λ (n : State). n.stopped) made;
      has = rw (ap (λ (n : State). n.journal) made) refl;
      stands = subst (λ (n : State). IsKeptOn n.terms n.kept n.journal now) (sym made)
          (kept_on (terms_of head.profile head.bits) (terms_in engine) (head.genesis ∷ opened.blocks) engine.kept journal now (same_terms done.engine.profile_is done.engine.bits_are) done.engine.kept_are
          (found_stands opened head journal now done.same done.journal (subst (λ (s : Stored). IsReady s now) is c.requires.ready)));
      any_moment = rw is tt;
      untouched = λ _. refl;
      told = (λ told. told, λ told. told);
      same = rw is done.same;
      other = tt;
      created = λ fault. absurd (cc fault);
      fault = λ fault. absurd (cc fault);
      memory = λ fault. absurd (cc fault);
      later = omega arith;
      quiet = λ _. refl;
    }

pub returns-in-Err-start_found : goal.returns-in-Err-start_found
returns-in-Err-start_found g c =
    let is = c.in-Found.is in
    let done = c.in-Err-start_found.ensures in
    record {
      kept = tt;
      sent = tt;
      terms = tt;
      live = tt;
      has = tt;
      stands = tt;
      any_moment = rw is tt;
      untouched = λ _. refl;
      told = (λ told. told, λ told. told);
      same = tt;
      other = ⊎_elim (λ memory. inr (inl memory)) (λ other. inr (inr (rw is other))) done.other;
      created = λ fault. absurd (⊎_elim (λ memory. cc (fault, memory)) (λ other. cc (fault, other.1)) done.other);
      fault = λ fault. absurd (⊎_elim (λ memory. cc (fault, memory)) (λ other. cc (fault, other.1)) done.other);
      memory = λ _. refl;
      later = omega arith;
      quiet = λ _. refl;
    }
