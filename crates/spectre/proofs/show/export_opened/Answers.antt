use Rattle.std.proofs.Common.{List, ℕ, ◌∙◌, ap, subst}
use Rattle.std.specs.Io.KnownBytes.{Appends}
use Rattle.sp_block.specs.Block.{ReadBlock}
use Rattle.sp_io.specs.Whole.{AppendsFront}
use Rattle.sp_io.proofs.Stops.{on_err}
use Rattle.sp_journal.specs.Opening.{Opening}
use Rattle.spectre.specs.Sent.{blocks_text}
use Rattle.spectre.proofs.Shown.{exported_is}
use Rattle.spectre.proofs.show.export_opened.Goals as goal

pub returns-in_err-write_feed-clause-err : goal.returns-in_err-write_feed-clause-err
returns-in_err-write_feed-clause-err g c =
    let o = c.args.opened.now in
    let a = g.K.Sink.taken c.args.sink.now in
    let b = g.K.Sink.taken c.write_feed.new.sink in
    let is = ap (λ (blocks : List ReadBlock). blocks_text c.args.profile c.opened.inside.bits c.opened.inside.genesis.bytes blocks) c.as_slice-blocks.ensures
    ∙ ap (λ (x : Opening). blocks_text c.args.profile x.bits x.genesis.bytes x.blocks) c.opened.view_is ∙ exported_is c.args.profile o in
    on_err c.from_residual.result _ (subst (λ (t : List ℕ). AppendsFront a b t) is c.in_err-write_feed.ensures.err)

pub returns-clause-ok : goal.returns-clause-ok
returns-clause-ok g c =
    let o = c.args.opened.now in
    let a = g.K.Sink.taken c.args.sink.now in
    let b = g.K.Sink.taken c.write_feed.new.sink in
    let is = ap (λ (blocks : List ReadBlock). blocks_text c.args.profile c.opened.inside.bits c.opened.inside.genesis.bytes blocks) c.as_slice-blocks.ensures
    ∙ ap (λ (x : Opening). blocks_text c.args.profile x.bits x.genesis.bytes x.blocks) c.opened.view_is ∙ exported_is c.args.profile o in
    subst (λ (t : List ℕ). Appends a b t) is c.in_ok-write_feed.ensures.ok
