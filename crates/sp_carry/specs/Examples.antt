-- Small ledgers, whose answers were worked out by hand. Genesis has the key 0 and grants 100 to alice. Locks: alice 1,
-- bob 2, carol 3, dave 4, eve 5. Transactions have the ids 11 and up.
use Rattle.std.specs.Prelude.{ℕ, ◌==◌, List, [], ◌∷◌, map, Option, Some, None}
use Rattle.std.specs.List.{find}
use Rattle.sp_model.specs.declared.profile.Profile.TheVariants.{One}
use Rattle.sp_model.specs.Graph.{complete}
use Rattle.sp_carry.specs.declared.state.TxState.{TxState}
use Rattle.sp_carry.specs.Payment.{Payment}
use Rattle.sp_carry.specs.Ledger.{Ledger, state}
use Rattle.sp_carry.specs.Money.{balance}

-- a block with what it carries
pub record Entry : Type 0 where
  pub key : ℕ
  pub parents : List ℕ
  pub body : List Payment

abbrev pub body_or_none : Option Entry → List Payment
body_or_none None = []
body_or_none (Some e) = e.body

abbrev pub ledger_of : List Entry → Ledger
ledger_of entries = record {
  graph = record { profile = One; blocks = map (λ (e : Entry). record { key = e.key; parents = e.parents; rank = record { salt = 0; id = e.key } }) entries };
  txs = λ z. body_or_none (find (λ (e : Entry). e.key == z) entries);
}

abbrev pub block : ℕ → List ℕ → List Payment → Entry
block key parents body = record { key = key; parents = parents; body = body }

abbrev pub grant : ℕ → ℕ → ℕ → Payment
grant id amount lock = record { id = id; inputs = []; outputs = record { amount = amount; lock = lock } ∷ [] }

-- a payment of output 0 of a transaction, by a word that opens a lock, to another lock
abbrev pub pay : ℕ → ℕ → ℕ → ℕ → ℕ → Payment
pay id source opens amount lock = record {
  id = id;
  inputs = record { from = record { tx = source; index = 0 }; opens = opens } ∷ [];
  outputs = record { amount = amount; lock = lock } ∷ [];
}

abbrev pub g : Payment
g = grant 11 100 1

-- g's output, by alice to bob
abbrev pub p : Payment
p = pay 12 11 1 100 2

-- g's output, by alice to carol
abbrev pub q : Payment
q = pay 13 11 1 100 3

-- p's output, by bob to dave
abbrev pub r : Payment
r = pay 14 12 2 100 4

abbrev pub genesis : Entry
genesis = block 0 [] (g ∷ [])

abbrev pub first_pays : Entry
first_pays = block 1 (0 ∷ []) (p ∷ [])

abbrev pub second_pays : Entry
second_pays = block 2 (0 ∷ []) (q ∷ [])

-- p and q in two blocks on genesis, which tie
abbrev pub two_spend : List Entry
two_spend = genesis ∷ first_pays ∷ second_pays ∷ []

-- the same, and a block on the first of them
abbrev pub third_on_first : List Entry
third_on_first = genesis ∷ first_pays ∷ second_pays ∷ block 3 (1 ∷ []) [] ∷ []

-- the same, where the third block spends on
abbrev pub third_spends : List Entry
third_spends = genesis ∷ first_pays ∷ second_pays ∷ block 3 (1 ∷ []) (r ∷ []) ∷ []

-- the same, and two blocks on the second
abbrev pub two_on_second : List Entry
two_on_second =
    genesis ∷ first_pays ∷ second_pays ∷ block 3 (1 ∷ []) (r ∷ []) ∷ block 4 (2 ∷ []) [] ∷ block 5 (2 ∷ []) [] ∷ []

-- q on the block of p
abbrev pub spent_above : List Entry
spent_above = genesis ∷ first_pays ∷ block 2 (1 ∷ []) (q ∷ []) ∷ []

-- p in two blocks
abbrev pub twice_carried : List Entry
twice_carried = genesis ∷ first_pays ∷ block 2 (0 ∷ []) (p ∷ []) ∷ []

-- g's output by another word than alice's
abbrev pub wrong_word : List Entry
wrong_word = genesis ∷ first_pays ∷ block 2 (0 ∷ []) (pay 15 11 5 100 5 ∷ []) ∷ []

-- g's output, of which 101 are paid
abbrev pub too_dear : List Entry
too_dear = genesis ∷ first_pays ∷ block 2 (0 ∷ []) (pay 15 11 1 101 5 ∷ []) ∷ []

-- p and q, which tie, and q once more on both
abbrev pub again_above_both : List Entry
again_above_both = genesis ∷ first_pays ∷ second_pays ∷ block 3 (1 ∷ 2 ∷ []) (q ∷ []) ∷ []

-- r beside its source in one block
abbrev pub beside_its_source : List Entry
beside_its_source = genesis ∷ block 1 (0 ∷ []) (p ∷ r ∷ []) ∷ []

-- the same, and r once more above
abbrev pub above_its_source : List Entry
above_its_source = genesis ∷ block 1 (0 ∷ []) (p ∷ r ∷ []) ∷ block 2 (1 ∷ []) (r ∷ []) ∷ []

-- p, and r in its anticone
abbrev pub source_in_anticone : List Entry
source_in_anticone = genesis ∷ first_pays ∷ block 2 (0 ∷ []) (r ∷ []) ∷ []

-- what all complete blocks say of an id
abbrev pub state_in : List Entry → ℕ → TxState
state_in entries id = state (ledger_of entries) (complete (ledger_of entries).graph) id

abbrev pub balance_in : List Entry → ℕ → ℕ
balance_in entries lock = balance (ledger_of entries) (complete (ledger_of entries).graph) lock
