use Rattle.std.proofs.Common.{◌∷◌, ◌++◌, length, List, ℕ, subst}
use Rattle.std.specs.Int.{w32, to_le_bytes}
use Rattle.std.specs.Io.KnownBytes.{Appends}
use Rattle.sp_io.specs.Whole.{AppendsFront}
use Rattle.sp_io.proofs.Pages.{all_goes, rest_stops}
use Rattle.sp_io.proofs.Stops.{on_err}
use Rattle.spectre.proofs.Sending.{first_goes, first_stops}
use Rattle.spectre.proofs.feeding.write_frame.Goals as goal

pub returns-in_err-write_whole-clause-err : goal.returns-in_err-write_whole-clause-err
returns-in_err-write_whole-clause-err g c =
    let payload = c.args.payload.now in
    let head = c.args.kind ∷ to_le_bytes w32 (length payload) in
    let a = g.K.Sink.taken c.args.sink.now in
    let b = g.K.Sink.taken c.write_whole.new.sink in
    on_err c.from_residual.result _ (first_stops a b head payload (subst (λ (t : List ℕ). AppendsFront a b t) c.frame_front-front.ensures c.in_err-write_whole.ensures.err))

pub returns-clause-ok : goal.returns-clause-ok
returns-clause-ok g c =
    let payload = c.args.payload.now in
    let head = c.args.kind ∷ to_le_bytes w32 (length payload) in
    let a = g.K.Sink.taken c.args.sink.now in
    let b = g.K.Sink.taken c.write_whole.new.sink in
    let w = first_goes a b head payload (subst (λ (t : List ℕ). Appends a b t) c.frame_front-front.ensures c.in_ok-write_whole.ensures.ok) in
    all_goes a b (g.K.Sink.taken c.write_whole-2.new.sink) (head ++ payload) payload c.write_whole-2.result w c.write_whole-2.ensures.ok

pub returns-clause-err : goal.returns-clause-err
returns-clause-err g c =
    let payload = c.args.payload.now in
    let head = c.args.kind ∷ to_le_bytes w32 (length payload) in
    let a = g.K.Sink.taken c.args.sink.now in
    let b = g.K.Sink.taken c.write_whole.new.sink in
    let w = first_goes a b head payload (subst (λ (t : List ℕ). Appends a b t) c.frame_front-front.ensures c.in_ok-write_whole.ensures.ok) in
    rest_stops a b (g.K.Sink.taken c.write_whole-2.new.sink) (head ++ payload) payload c.write_whole-2.result w c.write_whole-2.ensures.err
