use Rattle.std.proofs.Common.{◌≡◌, ◌-◌, ℕ, Bool, List, ◌++◌, map}
use Rattle.sp_form.specs.Form.{rows}
use Rattle.sp_form.specs.Reading.{read}
use Rattle.sp_form.proofs.Rows.{with_front}
use Rattle.sp_tx.specs.Parts.{Transaction}
use Rattle.sp_tx.specs.Spending.{id_of}
use Rattle.sp_block.specs.declared.seen.Seen.{Seen}
use Rattle.sp_block.specs.Format.{carried_form, txs_form, with_tx}
use Rattle.sp_block.specs.Seen.{Saw}
use Rattle.sp_block.proofs.reader.BlockReader.txs.Given as goal

pub record Reads (genesis : Bool) (front : List Transaction) (seen : Seen) (count counter : ℕ) (now whole before told : List ℕ) : Type 0 where
  pub ids : told ≡ before ++ map id_of front
  pub saw : Saw seen front
  pub read : with_front front (read (rows (carried_form genesis) with_tx (count - counter) front) now) ≡ read (txs_form genesis count) whole

abbrev pub invariant-txs : goal.invariant-txs
invariant-txs l = Reads l.genesis l.txs.items l.seen l.count l.counter l.self l.fn.self l.fn.ids.items l.ids.items
