use Rattle.std.proofs.Common.{◌≡◌, ◌++◌, take-append-drop, ap₂, List, ℕ, sym, ◌∙◌}
use Rattle.sp_io.proofs.Pages.{goes_on, rest_goes, rest_stops, stops_there}
use Rattle.sp_io.proofs.Stops.{on_err}
use Rattle.sp_play.proofs.frames.push_bytes.Goals as goal

pub returns-in_err-push-clause-err : goal.returns-in_err-push-clause-err
returns-in_err-push-clause-err g c =
    let rest = c.pieces.rest.now in
    let e : rest ≡ c.split_at.result.0.now ++ c.split_at.result.1.now = sym (ap₂ (λ (xs ys : List ℕ). xs ++ ys) c.split_at.ensures.front c.split_at.ensures.back ∙ take-append-drop 4096 rest) in
    on_err c.from_residual.result _ (stops_there {whole = c.args.page.now ++ c.args.bytes.now} c.pieces.page rest c.split_at.result.0.now c.split_at.result.1.now e c.pieces.invariant.text c.in_err-push.ensures.err)

pub pieces-preserved : goal.pieces-preserved
pieces-preserved g c =
    let rest = c.pieces.rest.now in
    let e : rest ≡ c.split_at.result.0.now ++ c.split_at.result.1.now = sym (ap₂ (λ (xs ys : List ℕ). xs ++ ys) c.split_at.ensures.front c.split_at.ensures.back ∙ take-append-drop 4096 rest) in
    record {
      text = goes_on {whole = c.args.page.now ++ c.args.bytes.now} c.pieces.page rest c.split_at.result.0.now c.split_at.result.1.now e c.pieces.invariant.text c.in_ok-push.ensures.ok;
      quiet = c.in_ok-push.ensures.cause.quiet ∙ c.pieces.invariant.quiet;
    }

pub returns-clause-ok : goal.returns-clause-ok
returns-clause-ok g c =
    let taken = g.K.Sink.taken in
    rest_goes (taken c.args.sink.now) (taken c.pieces.sink) (taken c.push-2.new.sink) (c.args.page.now ++ c.args.bytes.now) (c.pieces.page ++ c.pieces.rest.now) c.push-2.new.self c.push-2.result c.pieces.invariant.text c.push-2.ensures.ok

pub returns-clause-err : goal.returns-clause-err
returns-clause-err g c =
    let taken = g.K.Sink.taken in
    rest_stops (taken c.args.sink.now) (taken c.pieces.sink) (taken c.push-2.new.sink) (c.args.page.now ++ c.args.bytes.now) (c.pieces.page ++ c.pieces.rest.now) c.push-2.result c.pieces.invariant.text c.push-2.ensures.err
