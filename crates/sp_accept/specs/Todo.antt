-- Which carriers are to be decided on again, by their blocks, and flags that turn.
use Rattle.std.specs.Prelude.{ℕ, ◌≡◌, ◌<◌, ◌&&◌, ◌≤◌, ◌-◌, ◌++◌, All, not, nat_le, nat_lt, Bool, false, List, [], ◌∷◌, length, replicate, slice_get, slice_set, Some, IsFalse, IsTrue}
use Rattle.std.specs.List.{list_any}
use Rattle.sp_model.specs.Graph.{has}
use Rattle.sp_dag.specs.Numbered.{Numbered}
use Rattle.sp_carry.specs.declared.carrier.Carrier.{Carrier}
use Rattle.sp_tx.specs.declared.parts.Input.{Input}
use Rattle.sp_carry.specs.Carried.{Carried}
use Rattle.sp_carry.specs.Lookups.{spenders_in}
use Rattle.sp_carry.specs.Flags.{is_set}
use Rattle.sp_accept.specs.Pass.{inputs_at, is_next}
use Rattle.sp_accept.specs.Rows.{row_at}
use Rattle.sp_accept.specs.Standing.{is_before, is_below}

-- the block of carrier d is one of some, and not below block b
abbrev pub is_due : List Carrier → List ℕ → ℕ → ℕ → Bool
is_due rows todo b d = has todo (row_at rows d).block && nat_le b (row_at rows d).block

-- each flag says what those before it give, but for some carriers
abbrev pub AreSettledBut : Numbered → Carried → List Bool → (ℕ → Bool) → Type 0
AreSettledBut table k flags but = (d : ℕ) → d < length k.rows → but d ≡ false → is_set flags d ≡ is_next table k flags d

-- more than one transaction spends what the input does
abbrev pub is_shared : Carried → Input → Bool
is_shared k input = nat_lt 1 (length (spenders_in k.txs input.from))

-- another transaction spends what one of the inputs of this one does
abbrev pub is_contested : Carried → ℕ → Bool
is_contested k tx = list_any (is_shared k) (inputs_at k tx)

-- The blocks on whose carriers those may bear that joined the first n: each new block with a sound carrier, each older one that
-- doesn't come before a new one with a sound carrier whose transaction is contested, and both blocks of each of some pairs.
pub record AreDue (table : Numbered) (k : Carried) (n : ℕ) (changed : List (ℕ × ℕ)) (todo : List ℕ) : Type 0 where
  pub news : (c : ℕ) → c < length k.rows → n ≤ (row_at k.rows c).block → IsTrue (row_at k.rows c).sound → IsTrue (has todo (row_at k.rows c).block)
  pub beside : (z c : ℕ) → z < n → c < length k.rows → n ≤ (row_at k.rows c).block → IsTrue (row_at k.rows c).sound
      → IsTrue (is_contested k (row_at k.rows c).tx) → IsFalse (is_below table z (row_at k.rows c).block) → IsFalse (is_before table z (row_at k.rows c).block) → IsTrue (has todo z)
  pub pairs : (i x y : ℕ) → slice_get changed i ≡ Some (x, y) → x < y → y < n → IsTrue (has todo x) × IsTrue (has todo y)

-- ---- flags that turn

-- the flags with more behind them that aren't set, up to a length
abbrev pub grown : List Bool → ℕ → List Bool
grown flags long = flags ++ replicate (long - length flags) false

-- the flags with that of carrier c turned
abbrev pub turned_at : List Bool → ℕ → List Bool
turned_at flags c = slice_set flags c (not (is_set flags c))

-- with those of some carriers turned, one after another
abbrev pub all_turned : List Bool → List ℕ → List Bool
all_turned flags [] = flags
all_turned flags (c ∷ cs) = all_turned (turned_at flags c) cs

-- some flags turned, and were noted
pub record AreTurned (flags flags' : List Bool) (noted noted' : List ℕ) : Type 0 where
  pub from : (start : List Bool) → flags ≡ all_turned start noted → flags' ≡ all_turned start noted'
  pub long : length flags' ≡ length flags
  pub within : All (λ c. c < length flags) noted → All (λ c. c < length flags) noted'
