-- What contracts see of the accepted carriers, and when that is right.
use Rattle.std.specs.Prelude.{ℕ, ◌<◌, ◌≤◌, ◌≡◌, ◌&&◌, nat_lt, Bool, List, length}
use Rattle.std.specs.List.{range_with_len}
use Rattle.sp_dag.specs.Numbered.{Numbered}
use Rattle.sp_carry.specs.Ledger.{accepts, is_accepted}
use Rattle.sp_carry.specs.Carried.{Carried, ledger_of}
use Rattle.sp_carry.specs.Flags.{is_set}
use Rattle.sp_accept.specs.Rows.{payment_at, row_at}

-- how many blocks the acceptance is of, and by number which carriers and which transactions are accepted
pub record Acceptance : Type 0 where
  pub blocks : ℕ
  pub carriers : List Bool
  pub txs : List Bool

-- the first so many blocks
abbrev pub first_blocks : ℕ → List ℕ
first_blocks n = range_with_len 0 n

-- a carrier is accepted where its block is one of the first so many, and the definition, with these blocks as the
-- set, accepts it
abbrev pub is_accepted_carrier : Numbered → Carried → ℕ → ℕ → Bool
is_accepted_carrier table k n c =
    nat_lt (row_at k.rows c).block n
    && accepts (ledger_of table k) (first_blocks n) (row_at k.rows c).block (payment_at k (row_at k.rows c).tx)

-- a transaction is accepted where some carrier of it in these blocks is
abbrev pub is_accepted_tx : Numbered → Carried → ℕ → ℕ → Bool
is_accepted_tx table k n tx = is_accepted (ledger_of table k) (first_blocks n) (payment_at k tx).id

-- The number is at most that of the blocks added, and the flags are those of the definition, where the table has the
-- parents of each block.
pub record IsRight (table : Numbered) (k : Carried) (a : Acceptance) : Type 0 where
  pub few : a.blocks ≤ k.blocks
  pub carriers : (c : ℕ) → c < length k.rows → is_set a.carriers c ≡ is_accepted_carrier table k a.blocks c
  pub no_more : length a.carriers ≤ length k.rows
  pub txs : (tx : ℕ) → tx < length k.txs → is_set a.txs tx ≡ is_accepted_tx table k a.blocks tx
  pub no_more_txs : length a.txs ≤ length k.txs
