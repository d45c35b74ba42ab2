use Rattle.std.proofs.Common.{List, ℕ, map, subst}
use Rattle.std.specs.Io.KnownBytes.{Appends}
use Rattle.sp_feed.specs.declared.kind.Kind.TheVariants.{Block}
use Rattle.sp_feed.specs.Spelling.{framed, frames_of}
use Rattle.sp_io.specs.Whole.{AppendsFront}
use Rattle.sp_io.proofs.Pages.{all_goes, rest_stops}
use Rattle.sp_io.proofs.Stops.{on_err}
use Rattle.sp_io.proofs.Writing.{wrote_more, wrote_stops}
use Rattle.spectre.specs.Sent.{blocks_text, said_block}
use Rattle.spectre.proofs.Sending.{feed_goes, feed_stops}
use Rattle.spectre.proofs.feeding.write_feed.Goals as goal

pub returns-in_err-write_whole-clause-err : goal.returns-in_err-write_whole-clause-err
returns-in_err-write_whole-clause-err g c =
    let a = g.K.Sink.taken c.args.sink.now in
    let b = g.K.Sink.taken c.write_whole.new.sink in
    on_err c.from_residual.result _ (feed_stops a b c.args.profile c.args.bits c.args.genesis.now.bytes c.args.blocks.now (subst (λ (t : List ℕ). AppendsFront a b t) c.feed_front-front.ensures c.in_err-write_whole.ensures.err))

pub returns-in_err-write_block-clause-err : goal.returns-in_err-write_block-clause-err
returns-in_err-write_block-clause-err g c =
    let genesis = c.args.genesis.now.bytes in
    let blocks = c.args.blocks.now in
    let a = g.K.Sink.taken c.args.sink.now in
    let b = g.K.Sink.taken c.write_whole.new.sink in
    let w = feed_goes a b c.args.profile c.args.bits genesis blocks (subst (λ (t : List ℕ). Appends a b t) c.feed_front-front.ensures c.in_ok-write_whole.ensures.ok) in
    on_err c.from_residual-in_err-write_block.result _ (wrote_stops (framed Block genesis) (frames_of (map said_block blocks)) w c.in_err-write_block.ensures.err)

pub returns-clause-ok : goal.returns-clause-ok
returns-clause-ok g c =
    let genesis = c.args.genesis.now.bytes in
    let blocks = c.args.blocks.now in
    let frames = frames_of (map said_block blocks) in
    let a = g.K.Sink.taken c.args.sink.now in
    let b = g.K.Sink.taken c.write_whole.new.sink in
    let w = feed_goes a b c.args.profile c.args.bits genesis blocks (subst (λ (t : List ℕ). Appends a b t) c.feed_front-front.ensures c.in_ok-write_whole.ensures.ok) in
    let v = wrote_more (framed Block genesis) frames w c.in_ok-write_block.ensures.ok in
    all_goes a (g.K.Sink.taken c.write_block.new.sink) (g.K.Sink.taken c.write_blocks.new.sink) (blocks_text c.args.profile c.args.bits genesis blocks) frames c.write_blocks.result v c.write_blocks.ensures.ok

pub returns-clause-err : goal.returns-clause-err
returns-clause-err g c =
    let genesis = c.args.genesis.now.bytes in
    let blocks = c.args.blocks.now in
    let frames = frames_of (map said_block blocks) in
    let a = g.K.Sink.taken c.args.sink.now in
    let b = g.K.Sink.taken c.write_whole.new.sink in
    let w = feed_goes a b c.args.profile c.args.bits genesis blocks (subst (λ (t : List ℕ). Appends a b t) c.feed_front-front.ensures c.in_ok-write_whole.ensures.ok) in
    let v = wrote_more (framed Block genesis) frames w c.in_ok-write_block.ensures.ok in
    rest_stops a (g.K.Sink.taken c.write_block.new.sink) (g.K.Sink.taken c.write_blocks.new.sink) (blocks_text c.args.profile c.args.bits genesis blocks) frames c.write_blocks.result v c.write_blocks.ensures.err
