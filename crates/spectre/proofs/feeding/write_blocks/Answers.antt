use Rattle.std.proofs.Common.{[], ◌+◌, ◌∙◌, List, ℕ, map, subst, arith}
use Rattle.sp_feed.specs.declared.kind.Kind.TheVariants.{Block, End}
use Rattle.sp_feed.specs.Spelling.{framed, frames_of}
use Rattle.sp_io.specs.Whole.{Wrote}
use Rattle.sp_io.proofs.Pages.{all_goes, rest_stops}
use Rattle.sp_io.proofs.Stops.{on_err}
use Rattle.sp_io.proofs.Writing.{wrote_more, wrote_stops}
use Rattle.spectre.specs.Sent.{said_block}
use Rattle.spectre.proofs.Sending.{frames_from, last_frame, next_frame}
use Rattle.spectre.proofs.feeding.write_blocks.Goals as goal

pub returns-in_err-write_block-clause-err : goal.returns-in_err-write_block-clause-err
returns-in_err-write_block-clause-err g c =
    let blocks = c.args.blocks.now in
    let i = c.each.place in
    let block = c.index-blocks-place.result in
    let a = g.K.Sink.taken c.args.sink.now in
    let b = g.K.Sink.taken c.each.sink in
    let e = next_frame blocks i block (omega (arith, c.each-test.true)) c.index-blocks-place.is in
    let w = subst (λ (t : List ℕ). Wrote a b (frames_of (map said_block blocks)) t) e c.each.invariant.text in
    on_err c.from_residual.result _ (wrote_stops (framed Block block.bytes) (frames_from (i + 1) blocks) w c.in_err-write_block.ensures.err)

pub each-preserved : goal.each-preserved
each-preserved g c =
    let blocks = c.args.blocks.now in
    let i = c.each.place in
    let block = c.index-blocks-place.result in
    let a = g.K.Sink.taken c.args.sink.now in
    let b = g.K.Sink.taken c.each.sink in
    let e = next_frame blocks i block (omega (arith, c.each-test.true)) c.index-blocks-place.is in
    let w = subst (λ (t : List ℕ). Wrote a b (frames_of (map said_block blocks)) t) e c.each.invariant.text in
    record {
      text = wrote_more (framed Block block.bytes) (frames_from (i + 1) blocks) w c.in_ok-write_block.ensures.ok;
      quiet = c.in_ok-write_block.ensures.cause.quiet ∙ c.each.invariant.quiet;
    }

pub returns-clause-ok : goal.returns-clause-ok
returns-clause-ok g c =
    let blocks = c.args.blocks.now in
    let whole = frames_of (map said_block blocks) in
    let a = g.K.Sink.taken c.args.sink.now in
    let b = g.K.Sink.taken c.each.sink in
    let e = last_frame blocks c.each.place (omega (arith, c.each-test.false)) in
    let w = subst (λ (t : List ℕ). Wrote a b whole t) e c.each.invariant.text in
    all_goes a b (g.K.Sink.taken c.write_frame.new.sink) whole (framed End []) c.write_frame.result w c.write_frame.ensures.ok

pub returns-clause-err : goal.returns-clause-err
returns-clause-err g c =
    let blocks = c.args.blocks.now in
    let whole = frames_of (map said_block blocks) in
    let a = g.K.Sink.taken c.args.sink.now in
    let b = g.K.Sink.taken c.each.sink in
    let e = last_frame blocks c.each.place (omega (arith, c.each-test.false)) in
    let w = subst (λ (t : List ℕ). Wrote a b whole t) e c.each.invariant.text in
    rest_stops a b (g.K.Sink.taken c.write_frame.new.sink) whole (framed End []) c.write_frame.result w c.write_frame.ensures.err
