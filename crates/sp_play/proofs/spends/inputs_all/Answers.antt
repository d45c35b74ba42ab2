use Rattle.std.proofs.Common.{◌∷◌, [], drop, length, length-append, suc, add-one, arith, sym, ap, ◌∙◌}
use Rattle.std.proofs.Math.Seq.{drop-cons}
use Rattle.std.proofs.lemmas.List.Elements.{All-push}
use Rattle.sp_play.specs.Judging.{inputs_after}
use Rattle.sp_play.specs.Spent.{IsJudged}
use Rattle.sp_play.proofs.Apart.{apart_push}
use Rattle.sp_play.proofs.Finding.{input_more}
use Rattle.sp_play.proofs.spends.inputs_all.Goals as goal

pub loop-spend-preserved : goal.loop-spend-preserved
loop-spend-preserved c =
    let spends = c.args.spends.now in
    let at = c.loop-spend.spend-index in
    let items = c.in_ok-push.ensures.ok in
    let e = rw (sym c.spend-item.is) at (drop-cons spends at c.spend-item.result c.loop-spend-test.true) in
    record {
      value = rw add-one (ap (λ found. inputs_after c.args.entries.now found (drop (suc at) spends)) items
          ∙ sym (input_more c.args.entries.now c.loop-spend.found (drop at spends) _ c.spend-item.result c.in_ok-input.input e c.in_ok-input.ensures.value)
          ∙ c.loop-spend.invariant.value);
      many = omega (arith, ap length items, length-append c.loop-spend.found (c.in_ok-input.input ∷ []), c.loop-spend.invariant.many);
      apart = rw items (apart_push c.loop-spend.found c.in_ok-input.input c.loop-spend.invariant.apart c.in_ok-input.ensures.apart);
      judged = rw items (All-push IsJudged c.loop-spend.found c.in_ok-input.input c.loop-spend.invariant.judged c.in_ok-input.ensures.judged);
    }
