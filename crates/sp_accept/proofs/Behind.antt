-- A carrier looks at no flags but those of carriers in the past of its block.
use Rattle.std.proofs.Common.{◌≡◌, ◌<◌, ◌||◌, ◌&&◌, not, ℕ, Bool, true, false, cond, List, map, refl, ap, length, eqb, Some, None}
use Rattle.std.specs.Prelude.{Option, nat_eq, position}
use Rattle.std.specs.List.{list_all, list_any}
use Rattle.sp_tx.specs.Spending.{id_of}
use Rattle.sp_tx.specs.declared.parts.Input.{Input}
use Rattle.sp_dag.specs.Numbered.{Numbered}
use Rattle.sp_carry.specs.Carried.{Carried, carriers_in}
use Rattle.sp_carry.specs.Lookups.{spenders_in}
use Rattle.sp_carry.proofs.Members.{all_agrees, any_agrees}
use Rattle.sp_carry.specs.Flags.{is_set}
use Rattle.sp_accept.specs.Pass.{has_source, inputs_at, is_accepted_below, is_beaten, is_beaten_at, is_lost, is_next, is_paid, is_paid_by}
use Rattle.sp_accept.specs.Rows.{row_at}
use Rattle.sp_accept.specs.Standing.{is_before, is_below}
use Rattle.sp_accept.proofs.Numbers.{carrier_of}

module _ (table : Numbered) (k : Carried) (F G : List Bool) (d : ℕ)
    (agree : (e : ℕ) → e < length k.rows → is_below table (row_at k.rows e).block (row_at k.rows d).block ≡ true → is_set F e ≡ is_set G e) where
  abbrev block_of : ℕ → ℕ
  block_of c = (row_at k.rows c).block

  abbrev tx_of : ℕ → ℕ
  tx_of c = (row_at k.rows c).tx

  below_same : (e : ℕ) → e < length k.rows → is_accepted_below table k F (block_of d) e ≡ is_accepted_below table k G (block_of d) e
  below_same e le = at (is_below table (block_of e) (block_of d)) refl
    where
      off : (x y : Bool) → (x && false) ≡ (y && false)
      off true true = refl
      off true false = refl
      off false true = refl
      off false false = refl

      at : (b : Bool) → is_below table (block_of e) (block_of d) ≡ b → (is_set F e && b) ≡ (is_set G e && b)
      at true under = ap (λ (x : Bool). x && true) (agree e le under)
      at false _ = off (is_set F e) (is_set G e)

  paid_same : (tx : ℕ) → is_paid table k F (block_of d) tx ≡ is_paid table k G (block_of d) tx
  paid_same tx =
      any_agrees (is_accepted_below table k F (block_of d)) (is_accepted_below table k G (block_of d)) (carriers_in k.rows tx)
      (λ e in_e. below_same e (carrier_of k.rows tx e in_e).0)

  source_same : (i : Input) → has_source table k F (block_of d) i ≡ has_source table k G (block_of d) i
  source_same i = by (position (nat_eq i.from.tx) (map id_of k.txs))
    where
      by : (o : Option ℕ) → is_paid_by table k F (block_of d) o ≡ is_paid_by table k G (block_of d) o
      by None = refl
      by (Some tx) = paid_same tx

  beaten_same : (e : ℕ) → e < length k.rows → is_beaten_at table k F (block_of d) e ≡ is_beaten_at table k G (block_of d) e
  beaten_same e le = ap (λ (b : Bool). (row_at k.rows e).sound && b) (at (is_below table (block_of e) (block_of d)) refl)
    where
      rest : Bool
      rest = not (eqb (block_of e) (block_of d) || is_below table (block_of d) (block_of e)) && not (is_before table (block_of d) (block_of e))

      at : (b : Bool) → is_below table (block_of e) (block_of d) ≡ b → cond b (is_set F e) rest ≡ cond b (is_set G e) rest
      at true under = agree e le under
      at false _ = refl

  lost_same : (i : Input) → is_lost table k F (row_at k.rows d) i ≡ is_lost table k G (row_at k.rows d) i
  lost_same i =
      any_agrees (λ other. not (eqb other (tx_of d)) && is_beaten table k F (block_of d) other)
      (λ other. not (eqb other (tx_of d)) && is_beaten table k G (block_of d) other) (spenders_in k.txs i.from)
      (λ other _. ap (λ (b : Bool). not (eqb other (tx_of d)) && b) (
      any_agrees (is_beaten_at table k F (block_of d)) (is_beaten_at table k G (block_of d)) (carriers_in k.rows other)
      (λ e in_e. beaten_same e (carrier_of k.rows other e in_e).0)
      ))

  pub depends : is_next table k F d ≡ is_next table k G d
  depends =
      let s : list_all (has_source table k F (block_of d)) (inputs_at k (tx_of d)) ≡ list_all (has_source table k G (block_of d)) (inputs_at k (tx_of d)) =
      all_agrees (has_source table k F (block_of d)) (has_source table k G (block_of d)) (inputs_at k (tx_of d)) (λ i _. source_same i) in
      let l : list_any (is_lost table k F (row_at k.rows d)) (inputs_at k (tx_of d)) ≡ list_any (is_lost table k G (row_at k.rows d)) (inputs_at k (tx_of d)) =
      any_agrees (is_lost table k F (row_at k.rows d)) (is_lost table k G (row_at k.rows d)) (inputs_at k (tx_of d)) (λ i _. lost_same i) in
      rw (s, l) refl
