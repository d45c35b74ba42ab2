use Rattle.std.proofs.Common.{◌≡◌, ℕ, List, [], ◌∷◌, ◌++◌, map, sym, ap, ◌∙◌, append_assoc}
use Rattle.std.proofs.lemmas.List.{map-append}
use Rattle.std.proofs.lemmas.Result.{err_from_is_err_and}
use Rattle.sp_form.specs.Reading.{read}
use Rattle.sp_form.proofs.Rows.{row_ends, row_goes_on, row_stops}
use Rattle.sp_tx.specs.Parts.{Transaction}
use Rattle.sp_tx.specs.Spending.{id_of}
use Rattle.sp_block.specs.Format.{carried_form, txs_form, with_tx}
use Rattle.sp_block.proofs.reader.BlockReader.txs.Goals as goal

-- the ids of some transactions, and that of one more behind them
more_ids : (before old new : List ℕ) (front : List Transaction) (t : Transaction) → old ≡ before ++ map id_of front → new ≡ old ++ id_of t ∷ []
    → new ≡ before ++ map id_of (front ++ t ∷ [])
more_ids before old new front t were now =
    now ∙ ap (λ ids. ids ++ id_of t ∷ []) were ∙ append_assoc before (map id_of front) (id_of t ∷ []) ∙ ap (λ ids. before ++ ids) (sym (map-append id_of front (t ∷ [])))

pub returns-clause-ids : goal.returns-clause-ids
returns-clause-ids c = rw c.of.ensures c.txs.invariant.ids

pub returns-in_err-tx-clause-read : goal.returns-in_err-tx-clause-read
returns-in_err-tx-clause-read c =
    let p = err_from_is_err_and c.from_residual.result c.from_residual.ensures.1 in
    rw (p.1, p.2) (row_stops (carried_form c.args.genesis) with_tx c.in_err-tx.field-0.0 c.txs.txs.items c.args.count c.txs.counter c.txs.txs.items c.txs.self (read (txs_form c.args.genesis c.args.count) c.args.self.now) c.txs-test.true (c.in_err-tx.ensures.read c.txs.txs.items c.txs.invariant.saw) c.txs.invariant.read)

pub txs-preserved : goal.txs-preserved
txs-preserved c =
    let step = row_goes_on (carried_form c.args.genesis) with_tx c.txs.txs.items c.args.count c.txs.counter c.txs.txs.items c.txs.self c.in_ok-tx.tx c.carried.new.self (read (txs_form c.args.genesis c.args.count) c.args.self.now) c.txs-test.true (c.in_ok-tx.ensures.read c.txs.txs.items c.txs.invariant.saw) c.txs.invariant.read in
    rw c.in_ok-push.ensures.items (record { ids = more_ids c.args.ids.now.items c.txs.ids.items c.carried.new.ids.items c.txs.txs.items c.in_ok-tx.tx c.txs.invariant.ids c.in_ok-tx.ensures.ids; saw = c.in_ok-tx.ensures.saw c.txs.txs.items c.txs.invariant.saw; read = step })

pub returns-clause-read : goal.returns-clause-read
returns-clause-read c = rw c.of.ensures (row_ends (carried_form c.args.genesis) with_tx c.txs.txs.items c.args.count c.txs.counter c.txs.txs.items c.txs.self (read (txs_form c.args.genesis c.args.count) c.args.self.now) c.txs-test.false c.txs.invariant.read)
