use Rattle.std.proofs.Common.{◌∙◌, ap₂, List, ℕ, subst}
use Rattle.std.specs.Io.KnownBytes.{Appends}
use Rattle.sp_block.specs.Block.{ReadBlock}
use Rattle.sp_gossip.specs.Gossip.{kept_by_node}
use Rattle.sp_io.specs.Whole.{AppendsFront}
use Rattle.sp_io.proofs.Stops.{on_err}
use Rattle.sp_io.proofs.Writing.{appends_then, wrote_none, wrote_stops}
use Rattle.sp_model.specs.declared.profile.Profile.{Profile}
use Rattle.sp_report.specs.Naming.{labels_of}
use Rattle.sp_report.specs.Texts.{report_text}
use Rattle.spectre.specs.Gossips.{at_text, node_text}
use Rattle.spectre.proofs.Shown.{front_then}
use Rattle.spectre.proofs.gossip.turns.write_report.Goals as goal

pub returns-in_err-write_whole-clause-err : goal.returns-in_err-write_whole-clause-err
unfolding node_text
returns-in_err-write_whole-clause-err g c =
    let taken = g.K.Sink.taken in
    let line = c.as_slice.ensures.bytes ∙ c.at_line-at.ensures in
    on_err c.from_residual.result _
    (wrote_stops (at_text c.args.node 10) (report_text c.args.net.now.profile (labels_of c.args.naming.now) (kept_by_node c.args.net.now.kept c.args.node)) (wrote_none (taken c.args.sink.now) _)
    (subst (λ (t : List ℕ). AppendsFront (taken c.args.sink.now) (taken c.write_whole.new.sink) t) line c.in_err-write_whole.ensures.err))

pub returns-in-Ok-clause-ok : goal.returns-in-Ok-clause-ok
unfolding node_text
returns-in-Ok-clause-ok g c =
    let taken = g.K.Sink.taken in
    let line = c.as_slice.ensures.bytes ∙ c.at_line-at.ensures in
    let first = subst (λ (t : List ℕ). Appends (taken c.args.sink.now) (taken c.write_whole.new.sink) t) line c.in_ok-write_whole.ensures.ok in
    let is = ap₂ (λ (p : Profile) (k : List ReadBlock). report_text p (labels_of c.args.naming.now) k) c.engine.ensures.profile c.engine.ensures.kept in
    appends_then (taken c.args.sink.now) (taken c.write_whole.new.sink) (taken c.write_text.new.sink) (at_text c.args.node 10) (report_text c.args.net.now.profile (labels_of c.args.naming.now) (kept_by_node c.args.net.now.kept c.args.node)) first
    (subst (λ (t : List ℕ). Appends (taken c.write_whole.new.sink) (taken c.write_text.new.sink) t) is c.in-Ok.ensures.ok)

pub returns-in-Err-WriteFault-clause-err : goal.returns-in-Err-WriteFault-clause-err
unfolding node_text
returns-in-Err-WriteFault-clause-err g c =
    let taken = g.K.Sink.taken in
    let line = c.as_slice.ensures.bytes ∙ c.at_line-at.ensures in
    let first = subst (λ (t : List ℕ). Appends (taken c.args.sink.now) (taken c.write_whole.new.sink) t) line c.in_ok-write_whole.ensures.ok in
    let is = ap₂ (λ (p : Profile) (k : List ReadBlock). report_text p (labels_of c.args.naming.now) k) c.engine.ensures.profile c.engine.ensures.kept in
    front_then (taken c.args.sink.now) (taken c.write_whole.new.sink) (taken c.write_text.new.sink) (at_text c.args.node 10) (report_text c.args.net.now.profile (labels_of c.args.naming.now) (kept_by_node c.args.net.now.kept c.args.node)) first
    (subst (λ (t : List ℕ). AppendsFront (taken c.write_whole.new.sink) (taken c.write_text.new.sink) t) is c.in-Err-WriteFault.ensures.err)

pub returns-in-Err-Memory-clause-err : goal.returns-in-Err-Memory-clause-err
unfolding node_text
returns-in-Err-Memory-clause-err g c =
    let taken = g.K.Sink.taken in
    let line = c.as_slice.ensures.bytes ∙ c.at_line-at.ensures in
    let first = subst (λ (t : List ℕ). Appends (taken c.args.sink.now) (taken c.write_whole.new.sink) t) line c.in_ok-write_whole.ensures.ok in
    let is = ap₂ (λ (p : Profile) (k : List ReadBlock). report_text p (labels_of c.args.naming.now) k) c.engine.ensures.profile c.engine.ensures.kept in
    front_then (taken c.args.sink.now) (taken c.write_whole.new.sink) (taken c.write_text.new.sink) (at_text c.args.node 10) (report_text c.args.net.now.profile (labels_of c.args.naming.now) (kept_by_node c.args.net.now.kept c.args.node)) first
    (subst (λ (t : List ℕ). AppendsFront (taken c.write_whole.new.sink) (taken c.write_text.new.sink) t) is c.in-Err-Memory.ensures.err)
