-- Carriers that are added one by one, of which the last ones can be taken back.
use Rattle.std.specs.Prelude.{ℕ, suc, max, ◌+◌, ◌*◌, ◌<◌, ◌≤◌, ◌^◌, All, List, [], ◌∷◌, length, take}
use Rattle.sp_dag.specs.Numbered.{Numbered}
use Rattle.sp_carry.specs.declared.carrier.Carrier.{Carrier}
use Rattle.sp_carry.specs.Carried.{Carried, rows_of_first, used, AreLinked}

-- there is a next block, and room for so many more carriers in it
pub record HasRoom (table : Numbered) (more : ℕ) (k : Carried) : Type 0 where
  pub linked : AreLinked k
  pub rows : All (λ (r : Carrier). r.block < length table.parents) k.rows
  pub next : k.blocks < length table.parents
  pub few : length k.txs ≤ length k.rows
  pub room : length k.rows + more < 2 ^ 32

-- the first n carriers, with the transactions that they have
abbrev pub front : Carried → ℕ → Carried
front k n = record { blocks = k.blocks; txs = take (used (take n k.rows)) k.txs; rows = take n k.rows }

-- each carrier has a transaction that an earlier one has, or the next new one; n transactions were there before
abbrev pub AreInTurn : ℕ → List Carrier → Type 0
AreInTurn n [] = Unit {0}
AreInTurn n (r ∷ rs) = (r.tx ≤ n) × AreInTurn (max n (suc r.tx)) rs

-- the carriers of the blocks were added block by block, 256 at most of each
pub record IsBlockwise (k : Carried) : Type 0 where
  pub turn : AreInTurn 0 k.rows
  pub few : (n : ℕ) → length (rows_of_first n k.rows) ≤ 256 * n
