use Rattle.std.proofs.Common.{◌≡◌, ◌+◌, Bool, List, length, ap, ◌∙◌, arith}
use Rattle.std.specs.Prelude.{count_by}
use Rattle.std.proofs.lemmas.List.{take_all}
use Rattle.sp_ids.specs.declared.outpoint.Outpoint.{Outpoint}
use Rattle.sp_carry.specs.Lookups.{spenders_in}
use Rattle.sp_carry.specs.Money.{Coin, coins_from}
use Rattle.sp_carry.specs.Flags.{is_set}
use Rattle.sp_money.specs.Held.{Held}
use Rattle.sp_money.specs.Kept.{held_of}
use Rattle.sp_money.specs.Growth.{set_spenders, with_outputs}
use Rattle.sp_money.proofs.Growing.{coin_first, longer_more, outputs_next}
use Rattle.sp_money.proofs.Standing.{coins_long}
use Rattle.sp_money.proofs.store.Store.add_outputs.Goals as goal

pub outputs-preserved : goal.outputs-preserved
outputs-preserved c =
    let one : length c.add_output.new.self.slots.items ≡ length c.outputs.self.slots.items + 1 = c.in_ok-add_output.ensures.count in
    let before : length c.outputs.self.slots.items ≡ length c.args.self.now.slots.items + c.outputs.index = c.outputs.invariant.2 in
    let long : length (coins_from c.args.id 0 c.args.outputs.now) ≡ length c.args.outputs.now = coins_long c.args.id 0 c.args.outputs.now in
    let name : Outpoint = record { tx = c.args.id; index = c.outputs.index } in
    let coin : Coin = record { name = name; amount = c.index-outputs-index.result.amount; lock = c.index-outputs-index.result.lock } in (
      c.add_output.ensures.kept,
      longer_more c.args.self.now c.outputs.self c.add_output.new.self c.outputs.invariant.1 c.add_output.ensures.longer,
      omega arith,
      outputs_next (set_spenders c.args.carriers.now.txs c.args.self.now.accepted.items) (held_of c.args.self.now) (held_of c.outputs.self) (held_of c.add_output.new.self)
          (coins_from c.args.id 0 c.args.outputs.now) c.outputs.index coin c.spender_count-spenders.result (omega arith)
          (coin_first c.args.id c.args.outputs.now c.outputs.index c.index-outputs-index.result coin (omega arith) c.index-outputs-index.is)
          (c.spender_count-spenders.ensures
          ∙ ap (λ (flags : List Bool). count_by (is_set flags) (spenders_in c.args.carriers.now.txs name)) (ap (λ (h : Held). h.accepted) c.outputs.invariant.3))
          c.outputs.invariant.3 c.in_ok-add_output.ensures.held,
    )

pub returns-clause-held : goal.returns-clause-held
returns-clause-held c =
    c.outputs.invariant.3
    ∙ ap (with_outputs (set_spenders c.args.carriers.now.txs c.args.self.now.accepted.items) (held_of c.args.self.now))
    (take_all c.outputs.index (coins_from c.args.id 0 c.args.outputs.now) (omega (arith, coins_long c.args.id 0 c.args.outputs.now)))
