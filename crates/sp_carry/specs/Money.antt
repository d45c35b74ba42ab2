-- Unspent outputs and balances of a list of accepted transactions.
use Rattle.std.specs.Prelude.{ℕ, suc, Bool, ◌==◌, not, List, [], ◌∷◌, filter, flat_map, sum_by}
use Rattle.std.specs.List.{list_any}
use Rattle.sp_ids.specs.declared.outpoint.Outpoint.{Outpoint}
use Rattle.sp_tx.specs.declared.parts.Output.{Output}
use Rattle.sp_carry.specs.Payment.{Payment, spends}
use Rattle.sp_carry.specs.Ledger.{Ledger, accepted_carriers}

-- an output and its name
pub record Coin : Type 0 where
  pub name : Outpoint
  pub amount : ℕ
  pub lock : ℕ

-- the first of each id
abbrev pub firsts : List Payment → List Payment
firsts [] = []
firsts (t ∷ ts) = t ∷ filter (λ (u : Payment). not (u.id == t.id)) (firsts ts)

abbrev pub coins_from : ℕ → ℕ → List Output → List Coin
coins_from id index [] = []
coins_from id index (o ∷ os) =
    record { name = record { tx = id; index = index }; amount = o.amount; lock = o.lock } ∷ coins_from id (suc index) os

-- the outputs of a transaction
abbrev pub coins : Payment → List Coin
coins t = coins_from t.id 0 t.outputs

abbrev pub is_spent : List Payment → Coin → Bool
is_spent txs coin = list_any (λ t. spends t coin.name) txs

-- the outputs of these transactions that none of them spends
abbrev pub unspent : List Payment → List Coin
unspent txs = filter (λ c. not (is_spent txs c)) (flat_map coins txs)

abbrev pub worth : List Coin → ℕ
worth cs = sum_by (λ (c : Coin). c.amount) cs

-- what these transactions leave under a lock
abbrev pub balance_of : List Payment → ℕ → ℕ
balance_of txs lock = worth (filter (λ (c : Coin). c.lock == lock) (unspent txs))

-- the accepted transactions, each once
abbrev pub accepted_txs : Ledger → List ℕ → List Payment
accepted_txs ledger set = firsts (accepted_carriers ledger set)

abbrev pub balance : Ledger → List ℕ → ℕ → ℕ
balance ledger set lock = balance_of (accepted_txs ledger set) lock
