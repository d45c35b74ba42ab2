use Rattle.std.proofs.Common.{List, ℕ, OnErr, OnOk, ap, subst, ◌∙◌}
use Rattle.std.specs.Io.KnownBytes.{Appends}
use Rattle.sp_io.specs.Whole.{AppendsFront}
use Rattle.sp_model.specs.declared.profile.Profile.{Profile}
use Rattle.sp_node.specs.Terms.{Terms}
use Rattle.sp_names.specs.Labels.{AllLabels}
use Rattle.spectre.specs.Summary.{summary}
use Rattle.spectre.proofs.drill.keep_and_tell.Goals as goal

pub returns-clause-ok : goal.returns-clause-ok
returns-clause-ok g c = λ genesis k.
    let taken = g.K.Sink.taken in
    let names = c.args.scene.now.names in
    let old = c.args.node.now.terms.profile in
    let same = c.engine.ensures.profile ∙ ap (λ (t : Terms). t.profile) c.in_ok-keep_scene.ensures.terms in
    let is = ap (λ (p : Profile). summary p c.names.result.now c.engine.result.now.kept) same ∙ ap (λ (l : AllLabels). summary old l c.engine.result.now.kept) c.names.ensures ∙ ap (summary old names) (c.engine.ensures.kept ∙ c.in_ok-keep_scene.ensures.kept genesis k) in
    subst (λ (t : List ℕ). OnOk c.summarize.result (Appends (taken c.args.sink.now) (taken c.summarize.new.sink) t)) is c.summarize.ensures.ok

pub returns-clause-err : goal.returns-clause-err
returns-clause-err g c = λ genesis k.
    let taken = g.K.Sink.taken in
    let names = c.args.scene.now.names in
    let old = c.args.node.now.terms.profile in
    let same = c.engine.ensures.profile ∙ ap (λ (t : Terms). t.profile) c.in_ok-keep_scene.ensures.terms in
    let is = ap (λ (p : Profile). summary p c.names.result.now c.engine.result.now.kept) same ∙ ap (λ (l : AllLabels). summary old l c.engine.result.now.kept) c.names.ensures ∙ ap (summary old names) (c.engine.ensures.kept ∙ c.in_ok-keep_scene.ensures.kept genesis k) in
    subst (λ (t : List ℕ). OnErr c.summarize.result (AppendsFront (taken c.args.sink.now) (taken c.summarize.new.sink) t)) is c.summarize.ensures.err
