use Rattle.std.proofs.Common.{◌≡◌, ◌∙◌, ◌++◌, ℕ, List, [], IfSome, Option, None, Some, Result, Ok, Err, ap, sym, subst}
use Rattle.std.specs.Io.KnownBytes.{Appends}
use Rattle.std.specs.Prelude.{OnErr}
use Rattle.std.proofs.lemmas.List.{append-nil}
use Rattle.std.proofs.lemmas.Result.{err_from_is_err_and}
use Rattle.sp_block.specs.Block.{ReadBlock}
use Rattle.sp_feed.specs.Kinds.{Said, SaysBlock}
use Rattle.sp_feed.specs.Messages.{said_by}
use Rattle.sp_io.specs.Whole.{AppendsFront, Wrote}
use Rattle.sp_io.proofs.Writing.{wrote_none, wrote_stops}
use Rattle.sp_model.specs.declared.profile.Profile.{Profile}
use Rattle.sp_names.specs.Labels.{no_labels}
use Rattle.sp_node.specs.Answers.{kept_then, reply_of}
use Rattle.sp_node.specs.Terms.{Terms}
use Rattle.sp_watch.specs.Watching.{Watched}
use Rattle.spectre.specs.Watching.{answer_then, seen_text, text_then}
use Rattle.spectre.specs.declared.ending.Stop.{Stop}
use Rattle.spectre.proofs.watch.answer_and_tell.Goals as goal

-- a front of the reply is one of the reply and of what it changes
reply_cut : (o : Option Said) (a b : Option (List ℕ)) (terms : Terms) (kept : List ReadBlock) (w : Watched) → IfSome o (λ said. AppendsFront a b (reply_of no_labels terms kept said)) → IfSome o (λ said. AppendsFront a b (answer_then terms kept w said))
reply_cut None a b terms kept w front = tt
reply_cut (Some m) a b terms kept w front =
    let reply : List ℕ = reply_of no_labels terms kept m in
    let text : List ℕ = text_then terms.profile w (kept_then terms.bits kept m) m in
    wrote_stops reply text (wrote_none a (reply ++ text)) front

-- the reply to a block, and a front of what it changes
block_cut : (bytes : List ℕ) (a b c : Option (List ℕ)) (terms : Terms) (kept : List ReadBlock) (w : Watched) → Appends a b (reply_of no_labels terms kept (SaysBlock bytes)) → AppendsFront b c (seen_text terms.profile w (kept_then terms.bits kept (SaysBlock bytes)))
    → AppendsFront a c (answer_then terms kept w (SaysBlock bytes))
block_cut bytes a b c terms kept w wrote front =
    let reply : List ℕ = reply_of no_labels terms kept (SaysBlock bytes) in
    let text : List ℕ = seen_text terms.profile w (kept_then terms.bits kept (SaysBlock bytes)) in
    let told : Wrote a b (reply ++ text) (text ++ []) = record { front = reply; appended = wrote; split = ap (λ (t : List ℕ). reply ++ t) (sym (append-nil text)) } in
    wrote_stops text [] told front

text_cut : (o : Option Said) (bytes : List ℕ) → o ≡ Some (SaysBlock bytes) → (a b c : Option (List ℕ)) (terms : Terms) (kept mid now : List ReadBlock) (profile : Profile) (w : Watched) → profile ≡ terms.profile → now ≡ mid
    → IfSome o (λ said. Appends a b (reply_of no_labels terms kept said)) → IfSome o (λ said. mid ≡ kept_then terms.bits kept said) → AppendsFront b c (seen_text profile w now) → IfSome o (λ said. AppendsFront a c (answer_then terms kept w said))
text_cut o bytes e a b c terms kept mid now profile w same held wrote is front =
    let here = subst (λ (p : Option Said). IfSome p (λ said. Appends a b (reply_of no_labels terms kept said))) e wrote in
    let then : mid ≡ kept_then terms.bits kept (SaysBlock bytes) = subst (λ (p : Option Said). IfSome p (λ said. mid ≡ kept_then terms.bits kept said)) e is in
    let part = subst (λ (l : List ReadBlock). AppendsFront b c (seen_text terms.profile w l)) (held ∙ then) (subst (λ (p : Profile). AppendsFront b c (seen_text p w now)) same front) in
    subst (λ (p : Option Said). IfSome p (λ said. AppendsFront a c (answer_then terms kept w said))) (sym e) (block_cut bytes a b c terms kept w here part)

on_err : {P Q : Type 0} (r : Result (Unit {0}) Stop) → (P → Q) → OnErr r P → OnErr r Q
on_err (Ok u) f h = tt
on_err (Err e) f h = f h

pub returns-in_err-answer-clause-err : goal.returns-in_err-answer-clause-err
returns-in_err-answer-clause-err g c =
    let p = err_from_is_err_and c.from_residual.result c.from_residual.ensures.1 in
    rw p.1 (reply_cut _ (g.K.Sink.taken c.args.sink.now) (g.K.Sink.taken c.answer.new.sink) c.args.node.now.terms c.args.node.now.kept c.args.watch.now c.in_err-answer.ensures.err)

pub returns-in-Block-clause-err : goal.returns-in-Block-clause-err
returns-in-Block-clause-err g c =
    let taken = g.K.Sink.taken in
    let e = c.in_ok-answer.ensures in
    on_err c.tell_changes.result
    (λ front. text_cut (said_by c.args.message.now) c.in-Block.field-0.now (ap said_by c.in-Block.is) (taken c.args.sink.now) (taken c.answer.new.sink) (taken c.tell_changes.new.sink) c.args.node.now.terms c.args.node.now.kept c.answer.new.node.kept c.engine.result.now.kept c.engine.result.now.profile c.args.watch.now (c.engine.ensures.profile ∙ ap (λ (t : Terms). t.profile) e.terms) c.engine.ensures.kept e.ok e.kept front)
    c.tell_changes.ensures.err
