-- The numbers of the transactions that a transaction spends, where all of them have lower numbers than its own.
use Rattle.std.specs.Prelude.{ℕ, ◌≡◌, ◌<◌, ◌≤◌, Bool, true, false, List, [], length, map, Option, Some, None, position, nat_eq, nat_lt, cond, slice_index_or, unwrap_or}
use Rattle.std.specs.List.{list_all}
use Rattle.sp_tx.specs.declared.parts.Input.{Input}
use Rattle.sp_tx.specs.Parts.{Transaction, of_parts}
use Rattle.sp_tx.specs.Spending.{id_of}
use Rattle.sp_carry.specs.RivalBlocks.{row_of}

-- the number, where it is lower than this one
abbrev pub earlier : ℕ → Option ℕ → Option ℕ
earlier tx None = None
earlier tx (Some n) = cond (nat_lt n tx) (Some n) None

-- the number of the transaction that an input of this one names, where it is a lower one
abbrev pub source_in : List Transaction → ℕ → Input → Option ℕ
source_in txs tx input = earlier tx (position (nat_eq input.from.tx) (map id_of txs))

-- whether there is such a number
abbrev pub is_there : Option ℕ → Bool
is_there None = false
is_there (Some n) = true

-- whether an input names a transaction of a lower number
abbrev pub has_source_in : List Transaction → ℕ → Input → Bool
has_source_in txs tx input = is_there (source_in txs tx input)

-- the number of that one, and 0 where there is none
abbrev pub source_or_none : List Transaction → ℕ → Input → ℕ
source_or_none txs tx input = unwrap_or (source_in txs tx input) 0

-- those of these inputs in their order, where each of them has one, and else none
abbrev pub sources_among : List Transaction → ℕ → List Input → List ℕ
sources_among txs tx inputs = cond (list_all (has_source_in txs tx) inputs) (map (source_or_none txs tx) inputs) []

-- those of a transaction's inputs
abbrev pub sources_in : List Transaction → ℕ → List ℕ
sources_in txs tx = sources_among txs tx (slice_index_or txs tx (of_parts [] [])).inputs

-- each transaction has a list of the numbers of what it spends
pub record HasSources (txs : List Transaction) (lists : List (List ℕ)) : Type 0 where
  pub long : length lists ≡ length txs
  pub each : (tx : ℕ) → tx < length txs → row_of lists tx ≡ sources_in txs tx

-- lists of the first transactions, with those of more behind them, up to a number
pub record AreSourced (txs : List Transaction) (old new : List (List ℕ)) (count : ℕ) : Type 0 where
  pub long : length new ≡ count
  pub before : (tx : ℕ) → tx < length old → row_of new tx ≡ row_of old tx
  pub behind : (tx : ℕ) → length old ≤ tx → tx < count → row_of new tx ≡ sources_in txs tx
