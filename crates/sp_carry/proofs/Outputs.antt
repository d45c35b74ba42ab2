-- The output that an outpoint names in the past of a block, by the tables of numbers.
use Rattle.std.proofs.Common.{◌≡◌, ℕ, Bool, true, false, cond, eqb, ◌&&◌, ◌<◌, List, [], length, Option, Some, None, refl, sym, ap, ◌∙◌}
use Rattle.std.specs.Prelude.{slice_get}
use Rattle.std.specs.List.{list_any}
use Rattle.std.proofs.lemmas.Option.{slice_get-get_or}
use Rattle.sp_ids.specs.declared.outpoint.Outpoint.{Outpoint}
use Rattle.sp_tx.specs.Parts.{Transaction, of_parts}
use Rattle.sp_model.specs.Graph.{has, in_past, past}
use Rattle.sp_dag.specs.Numbered.{Numbered, graph_of, AreInOrder}
use Rattle.sp_dag.proofs.Ranked.{past_members}
use Rattle.sp_carry.specs.declared.carrier.Carrier.{Carrier}
use Rattle.sp_carry.specs.Payment.{Payment, output_at, output_in, payment_of}
use Rattle.sp_carry.specs.Ledger.{carried}
use Rattle.sp_carry.specs.Carried.{Carried, carriers_in, ledger_of, number_of, tx_at, AreLinked}
use Rattle.sp_carry.specs.Worth.{block_at, outputs_or_none}
use Rattle.sp_carry.proofs.Finding.{any_carriers, found_none, found_some, is_below, number_within}
use Rattle.sp_carry.proofs.Members.{any_agrees}

pub output_none : (table : Numbered) (k : Carried) (set : List ℕ) (from : Outpoint) → AreLinked k → number_of k from.tx ≡ None
    → output_at (carried (ledger_of table k) set) from ≡ None
output_none table k set from linked none = ap (λ (f : Option Payment). output_in f from.index) (found_none k set from.tx linked none)

-- whether one of a transaction's carriers stands in the past of a block
pub below_is : (table : Numbered) (k : Carried) (z tx : ℕ) → AreInOrder table.parents → z < length table.parents
    → list_any (λ c. in_past (graph_of table) (block_at k.rows c) z) (carriers_in k.rows tx) ≡ is_below (has (past (graph_of table) z)) k.rows tx
below_is table k z tx order within =
    any_carriers (λ w. in_past (graph_of table) w z) tx k.rows
    ∙ any_agrees (λ (r : Carrier). eqb r.tx tx && in_past (graph_of table) r.block z) (λ (r : Carrier). eqb r.tx tx && has (past (graph_of table) z) r.block) k.rows
    (λ r _. ap (λ (b : Bool). eqb r.tx tx && b) (sym (past_members table r.block z order within)))

pub output_some : (table : Numbered) (k : Carried) (set : List ℕ) (from : Outpoint) (tx : ℕ) (c : Bool) → AreLinked k → number_of k from.tx ≡ Some tx
    → is_below (has set) k.rows tx ≡ c
    → output_at (carried (ledger_of table k) set) from ≡ cond c (slice_get (outputs_or_none (slice_get k.txs tx)) from.index) None
output_some table k set from tx c linked found below =
    ap (λ (f : Option Payment). output_in f from.index) (found_some k set from.tx tx linked found) ∙ at (is_below (has set) k.rows tx) below
  where
    there : slice_get k.txs tx ≡ Some (tx_at k tx)
    there = slice_get-get_or k.txs tx (of_parts [] []) (number_within k from.tx tx found)

    at : (b : Bool) → b ≡ c
        → output_in (cond b (Some (payment_of (tx_at k tx))) None) from.index ≡ cond c (slice_get (outputs_or_none (slice_get k.txs tx)) from.index) None
    at true e = rw (sym e) (sym (ap (λ (o : Option Transaction). slice_get (outputs_or_none o) from.index) there))
    at false e = rw (sym e) refl
