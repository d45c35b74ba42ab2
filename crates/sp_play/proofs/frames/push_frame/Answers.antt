use Rattle.std.proofs.Common.{◌++◌, ◌∷◌, length}
use Rattle.std.specs.Int.{w32, to_le_bytes}
use Rattle.sp_io.proofs.Pages.{head_goes, head_stops, rest_goes, rest_stops}
use Rattle.sp_io.proofs.Stops.{on_err}
use Rattle.sp_play.proofs.frames.push_frame.Goals as goal

pub returns-in_err-push-clause-err : goal.returns-in_err-push-clause-err
returns-in_err-push-clause-err g c =
    let payload = c.args.payload.now in
    on_err c.from_residual.result _ (head_stops c.args.page.now c.frame_front-front.result (c.args.letter ∷ to_le_bytes w32 (length payload)) payload c.frame_front-front.ensures c.in_err-push.ensures.err)

pub returns-clause-ok : goal.returns-clause-ok
returns-clause-ok g c =
    let taken = g.K.Sink.taken in
    let payload = c.args.payload.now in
    let head = c.args.letter ∷ to_le_bytes w32 (length payload) in
    let w = head_goes c.args.page.now c.frame_front-front.result head payload c.frame_front-front.ensures c.in_ok-push.ensures.ok in
    rest_goes (taken c.args.sink.now) (taken c.push.new.sink) (taken c.push_bytes.new.sink) (c.args.page.now ++ (head ++ payload)) (c.push.new.self ++ payload) c.push_bytes.new.page c.push_bytes.result w c.push_bytes.ensures.ok

pub returns-clause-err : goal.returns-clause-err
returns-clause-err g c =
    let taken = g.K.Sink.taken in
    let payload = c.args.payload.now in
    let head = c.args.letter ∷ to_le_bytes w32 (length payload) in
    let w = head_goes c.args.page.now c.frame_front-front.result head payload c.frame_front-front.ensures c.in_ok-push.ensures.ok in
    rest_stops (taken c.args.sink.now) (taken c.push.new.sink) (taken c.push_bytes.new.sink) (c.args.page.now ++ (head ++ payload)) (c.push.new.self ++ payload) c.push_bytes.result w c.push_bytes.ensures.err
