use Rattle.std.proofs.Common.{◌++◌, List, ℕ, OnErr, OnOk, subst}
use Rattle.sp_io.specs.Whole.{AppendsFront, Wrote}
use Rattle.sp_io.proofs.Pages.{head_goes, head_stops, rest_goes, rest_stops}
use Rattle.sp_io.proofs.Stops.{on_err}
use Rattle.spectre.proofs.summary.push_two.Goals as goal

pub returns-in_err-push-clause-err : goal.returns-in_err-push-clause-err
returns-in_err-push-clause-err g c =
    on_err c.from_residual.result _ (head_stops c.args.page.now c.as_slice.result.now c.args.first.now c.args.second.now c.as_slice.ensures.bytes c.in_err-push.ensures.err)

pub returns-clause-ok : goal.returns-clause-ok
returns-clause-ok g c =
    let taken = g.K.Sink.taken in
    let a = taken c.args.sink.now in let b = taken c.push.new.sink in let d = taken c.push-2.new.sink in
    let second = c.args.second.now in
    rest_goes a b d (c.args.page.now ++ (c.args.first.now ++ second)) (c.push.new.self ++ second) c.push-2.new.self c.push-2.result
    (head_goes c.args.page.now c.as_slice.result.now c.args.first.now second c.as_slice.ensures.bytes c.in_ok-push.ensures.ok)
    (subst (λ (t : List ℕ). OnOk c.push-2.result (Wrote b d (c.push.new.self ++ t) c.push-2.new.self)) c.as_slice-2.ensures.bytes c.push-2.ensures.ok)

pub returns-clause-err : goal.returns-clause-err
returns-clause-err g c =
    let taken = g.K.Sink.taken in
    let a = taken c.args.sink.now in let b = taken c.push.new.sink in let d = taken c.push-2.new.sink in
    let second = c.args.second.now in
    rest_stops a b d (c.args.page.now ++ (c.args.first.now ++ second)) (c.push.new.self ++ second) c.push-2.result
    (head_goes c.args.page.now c.as_slice.result.now c.args.first.now second c.as_slice.ensures.bytes c.in_ok-push.ensures.ok)
    (subst (λ (t : List ℕ). OnErr c.push-2.result (AppendsFront b d (c.push.new.self ++ t))) c.as_slice-2.ensures.bytes c.push-2.ensures.err)
