use Rattle.std.proofs.Common.{[], ◌∷◌, ◌++◌, ℕ, List, ap, sym, ◌∙◌}
use Rattle.sp_model.specs.declared.profile.Profile.{Profile}
use Rattle.sp_feed.specs.declared.kind.Kind.TheVariants.{Block}
use Rattle.sp_feed.specs.Spelling.{framed, frames_of}
use Rattle.sp_feed.specs.Versions.{name}
use Rattle.sp_io.proofs.Pages.{all_goes, front_then, goes_on, rest_stops, stops_there, wrote_then}
use Rattle.sp_io.proofs.Stops.{on_err}
use Rattle.sp_play.specs.Feeds.{feed_text}
use Rattle.sp_play.proofs.FeedFronts.{feed_goes, feed_stops}
use Rattle.sp_play.proofs.feeding.write_feed.Goals as goal

pub returns-in_err-push-clause-err : goal.returns-in_err-push-clause-err
returns-in_err-push-clause-err g c =
    let scene = c.args.scene.now in
    let front = c.feed_front-front.ensures ∙ ap (λ (p : Profile). name p ++ c.bits.result ∷ []) c.profile.ensures ∙ ap (λ (bits : ℕ). name scene.profile ++ bits ∷ []) c.bits.ensures in
    on_err c.from_residual.result _ (feed_stops scene c.new-page.result c.feed_front-front.result c.new-page.ensures front c.in_err-push.ensures.err)

pub returns-in_err-push_frame-clause-err : goal.returns-in_err-push_frame-clause-err
returns-in_err-push_frame-clause-err g c =
    let scene = c.args.scene.now in
    let frames = frames_of scene.messages in
    let left = framed Block scene.genesis ++ frames in
    let front = c.feed_front-front.ensures ∙ ap (λ (p : Profile). name p ++ c.bits.result ∷ []) c.profile.ensures ∙ ap (λ (bits : ℕ). name scene.profile ++ bits ∷ []) c.bits.ensures in
    let w = feed_goes scene c.new-page.result c.feed_front-front.result c.new-page.ensures front c.in_ok-push.ensures.ok in
    let e = ap (λ (bytes : List ℕ). framed Block bytes ++ frames) (sym c.genesis-genesis.ensures.bytes) in
    on_err c.from_residual-in_err-push_frame.result _ (stops_there c.push.new.self left (framed Block c.genesis-genesis.result.now) frames e w c.in_err-push_frame.ensures.err)

pub returns-in_err-push_messages-clause-err : goal.returns-in_err-push_messages-clause-err
returns-in_err-push_messages-clause-err g c =
    let scene = c.args.scene.now in
    let frames = frames_of scene.messages in
    let left = framed Block scene.genesis ++ frames in
    let front = c.feed_front-front.ensures ∙ ap (λ (p : Profile). name p ++ c.bits.result ∷ []) c.profile.ensures ∙ ap (λ (bits : ℕ). name scene.profile ++ bits ∷ []) c.bits.ensures in
    let w = feed_goes scene c.new-page.result c.feed_front-front.result c.new-page.ensures front c.in_ok-push.ensures.ok in
    let e = ap (λ (bytes : List ℕ). framed Block bytes ++ frames) (sym c.genesis-genesis.ensures.bytes) in
    let v = goes_on c.push.new.self left (framed Block c.genesis-genesis.result.now) frames e w c.in_ok-push_frame.ensures.ok in
    on_err c.from_residual-in_err-push_messages.result _ (front_then v c.in_err-push_messages.ensures.err)

pub returns-clause-ok : goal.returns-clause-ok
returns-clause-ok g c =
    let taken = g.K.Sink.taken in
    let scene = c.args.scene.now in
    let frames = frames_of scene.messages in
    let left = framed Block scene.genesis ++ frames in
    let front = c.feed_front-front.ensures ∙ ap (λ (p : Profile). name p ++ c.bits.result ∷ []) c.profile.ensures ∙ ap (λ (bits : ℕ). name scene.profile ++ bits ∷ []) c.bits.ensures in
    let w = feed_goes scene c.new-page.result c.feed_front-front.result c.new-page.ensures front c.in_ok-push.ensures.ok in
    let e = ap (λ (bytes : List ℕ). framed Block bytes ++ frames) (sym c.genesis-genesis.ensures.bytes) in
    let v = goes_on c.push.new.self left (framed Block c.genesis-genesis.result.now) frames e w c.in_ok-push_frame.ensures.ok in
    all_goes (taken c.args.sink.now) (taken c.push_messages.new.sink) (taken c.flush.new.sink) (feed_text scene) c.push_messages.new.page c.flush.result
    (wrote_then v c.in_ok-push_messages.ensures.ok) c.flush.ensures.ok

pub returns-clause-err : goal.returns-clause-err
returns-clause-err g c =
    let taken = g.K.Sink.taken in
    let scene = c.args.scene.now in
    let frames = frames_of scene.messages in
    let left = framed Block scene.genesis ++ frames in
    let front = c.feed_front-front.ensures ∙ ap (λ (p : Profile). name p ++ c.bits.result ∷ []) c.profile.ensures ∙ ap (λ (bits : ℕ). name scene.profile ++ bits ∷ []) c.bits.ensures in
    let w = feed_goes scene c.new-page.result c.feed_front-front.result c.new-page.ensures front c.in_ok-push.ensures.ok in
    let e = ap (λ (bytes : List ℕ). framed Block bytes ++ frames) (sym c.genesis-genesis.ensures.bytes) in
    let v = goes_on c.push.new.self left (framed Block c.genesis-genesis.result.now) frames e w c.in_ok-push_frame.ensures.ok in
    rest_stops (taken c.args.sink.now) (taken c.push_messages.new.sink) (taken c.flush.new.sink) (feed_text scene) c.push_messages.new.page c.flush.result
    (wrote_then v c.in_ok-push_messages.ensures.ok) c.flush.ensures.err
