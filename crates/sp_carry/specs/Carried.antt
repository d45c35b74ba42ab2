-- The transactions and carriers of the first blocks of a graph, by number.
use Rattle.std.specs.Prelude.{◌≡◌, ℕ, suc, max, nat_lt, take, ◌+◌, ◌*◌, ◌≢◌, ◌<◌, ◌≤◌, ◌==◌, All, AllPairs, List, [], ◌∷◌, ◌++◌, length, map, filter, position, nat_eq, Option, Some, None, slice_index_or, cond, Contains, flat_map, find, unwrap_or}
use Rattle.sp_model.specs.Graph.{AreDistinct, has}
use Rattle.sp_dag.specs.Numbered.{Numbered, graph_of}
use Rattle.sp_tx.specs.Parts.{Transaction, of_parts}
use Rattle.sp_tx.specs.Spending.{id_of}
use Rattle.sp_carry.specs.declared.carrier.Carrier.{Carrier}
use Rattle.sp_carry.specs.Payment.{Payment, payment_of}
use Rattle.sp_carry.specs.Ledger.{Ledger, is_sound}

-- The number of blocks; their transactions, the first one of each id; and their carriers. Both are in the order of
-- the blocks, and then of the places in them
pub record Carried : Type 0 where
  pub blocks : ℕ
  pub txs : List Transaction
  pub rows : List Carrier

abbrev pub nothing : Carried
nothing = record { blocks = 0; txs = []; rows = [] }

-- the number of the transaction of an id
abbrev pub number_of : Carried → ℕ → Option ℕ
number_of k id = position (nat_eq id) (map id_of k.txs)

-- the transaction of a number
abbrev pub tx_at : Carried → ℕ → Transaction
tx_at k tx = slice_index_or k.txs tx (of_parts [] [])

-- what a block carries
abbrev pub payments_in : Carried → ℕ → List Payment
payments_in k z = map (λ (r : Carrier). payment_of (tx_at k r.tx)) (filter (λ (r : Carrier). r.block == z) k.rows)

-- the ledger of the blocks, where the graph of these is known
abbrev pub ledger_of : Numbered → Carried → Ledger
ledger_of table k = record { graph = graph_of table; txs = payments_in k }

-- with one more transaction
abbrev pub with_tx : Carried → Transaction → Carried
with_tx k t = record { blocks = k.blocks; txs = k.txs ++ t ∷ []; rows = k.rows }

-- with one more carrier
abbrev pub with_row : Carried → Carrier → Carried
with_row k r = record { blocks = k.blocks; txs = k.txs; rows = k.rows ++ r ∷ [] }

-- the carrier, in the next block, of a transaction that has this number
abbrev pub next_carrier : Numbered → Carried → ℕ → Transaction → Carrier
next_carrier table k tx t =
    record { block = k.blocks; tx = tx; sound = is_sound (ledger_of table k) k.blocks (payment_of t) }

-- with one more carrier in the next block, where its transaction has that number, or is a new one
abbrev pub carried_by : Numbered → Carried → Transaction → Option ℕ → Carried
carried_by table k t None = with_row (with_tx k t) (next_carrier table k (length k.txs) t)
carried_by table k t (Some tx) = with_row k (next_carrier table k tx (tx_at k tx))

-- with one more carrier in the next block. A transaction whose id is there counts as the one that is there
abbrev pub with_carrier : Numbered → Carried → Transaction → Carried
with_carrier table k t = carried_by table k t (number_of k (id_of t))

abbrev pub with_carriers : Numbered → Carried → List Transaction → Carried
with_carriers table k [] = k
with_carriers table k (t ∷ ts) = with_carriers table (with_carrier table k t) ts

abbrev pub closed : Carried → Carried
closed k = record { blocks = k.blocks + 1; txs = k.txs; rows = k.rows }

-- with the next block, which has these transactions
abbrev pub with_block : Numbered → Carried → List Transaction → Carried
with_block table k ts = closed (with_carriers table k ts)

-- the numbers, from `first` on, of the carriers of a transaction, ascending
abbrev pub carriers_from : ℕ → ℕ → List Carrier → List ℕ
carriers_from first tx [] = []
carriers_from first tx (r ∷ rs) = cond (r.tx == tx) (first ∷ carriers_from (suc first) tx rs) (carriers_from (suc first) tx rs)

-- the numbers of the carriers of a transaction
abbrev pub carriers_in : List Carrier → ℕ → List ℕ
carriers_in rows tx = carriers_from 0 tx rows

-- how many transactions some have, where so many were there before and new ones are numbered in turn
abbrev pub used_from : ℕ → List Carrier → ℕ
used_from n [] = n
used_from n (r ∷ rs) = used_from (max n (suc r.tx)) rs

-- how many transactions these carriers have
abbrev pub used : List Carrier → ℕ
used rows = used_from 0 rows

-- the carriers of the first n blocks
abbrev pub rows_of_first : ℕ → List Carrier → List Carrier
rows_of_first n rows = filter (λ (r : Carrier). nat_lt r.block n) rows

-- the first n blocks, with their carriers, and the transactions that these have
abbrev pub cut_to : Carried → ℕ → Carried
cut_to k n = record { blocks = n; txs = take (used (rows_of_first n k.rows)) k.txs; rows = rows_of_first n k.rows }

-- each carrier has a transaction, each transaction a carrier, and no id stands twice
pub record AreLinked (k : Carried) : Type 0 where
  pub ids : AreDistinct (map id_of k.txs)
  pub txs : All (λ (r : Carrier). r.tx < length k.txs) k.rows
  pub used : (tx : ℕ) → tx < length k.txs → carriers_in k.rows tx ≢ []

-- what always holds of the first blocks: carriers and transactions are linked, a carrier stands in one of the blocks,
-- carriers ascend by block, and the blocks have at most 256 each
pub record IsCarried (k : Carried) : Type 0 where
  pub linked : AreLinked k
  pub blocks : All (λ (r : Carrier). r.block < k.blocks) k.rows
  pub order : AllPairs (λ (r s : Carrier). r.block ≤ s.block) k.rows
  pub few : length k.rows ≤ 256 * k.blocks
  pub few_txs : length k.txs ≤ length k.rows
  pub small : k.blocks ≤ 512

-- each carrier is marked sound just where the definition says so, over the graph of these blocks
abbrev pub AreSound : Numbered → Carried → Type 0
AreSound table k = All (λ (r : Carrier). r.sound ≡ is_sound (ledger_of table k) r.block (payment_of (tx_at k r.tx))) k.rows

-- no two transactions of the blocks that have one id are different payments
abbrev pub ArePlain : List (List Transaction) → Type 0
ArePlain blocks =
    (t u : Transaction) → Contains (flat_map (λ b. b) blocks) t → Contains (flat_map (λ b. b) blocks) u → id_of t ≡ id_of u
    → payment_of t ≡ payment_of u

-- the first of these transactions that has the id of this one; itself where none has it
abbrev pub first_like : List Transaction → Transaction → Transaction
first_like ts t = unwrap_or (find (λ (u : Transaction). id_of u == id_of t) ts) t

-- The blocks with these transactions were added. An id is there where one of them has it, and each block carries its
-- transactions in their order, each one as the first that has its id
pub record Carries (blocks : List (List Transaction)) (k : Carried) : Type 0 where
  pub count : k.blocks ≡ length blocks
  pub ids : (id : ℕ) → has (map id_of k.txs) id ≡ has (map id_of (flat_map (λ b. b) blocks)) id
  pub found : (id : ℕ) → find (λ (t : Transaction). id_of t == id) k.txs ≡ find (λ (t : Transaction). id_of t == id) (flat_map (λ b. b) blocks)
  pub there : (n : ℕ) → n < length k.txs → Contains (flat_map (λ b. b) blocks) (tx_at k n)
  pub theirs : (z : ℕ) → z < length blocks
      → payments_in k z ≡ map (λ (t : Transaction). payment_of (first_like (flat_map (λ b. b) blocks) t)) (slice_index_or blocks z [])
