-- What is true of what is known after any lines.
use Rattle.std.specs.Prelude.{◌≡◌, ◌≤◌, ℕ, true, List, [], ◌∷◌, length, IfSome, Option}
use Rattle.std.specs.BTreeSet.{BTreeSet, contains}
use Rattle.std.specs.List.{list_any}
use Rattle.std.specs.Ordering.{nat_cmp}
use Rattle.sp_ids.specs.Digest.{sha256_number}
use Rattle.sp_block.specs.Format.{of_parts, Parts}
use Rattle.sp_block.specs.Spelling.{IsSpellable}
use Rattle.sp_play.specs.Known.{Entry, genesis_text, grants_of, is_of_id}
use Rattle.sp_play.specs.declared.thing.Thing.{Thing}
use Rattle.sp_play.specs.declared.thing.Thing.TheVariants.{Genesis, Made, Tx}

-- the parts of the genesis block
abbrev pub genesis_parts : List Entry → Parts
genesis_parts entries = of_parts 0 0 [] (grants_of entries)

-- a made block is no longer than a block may be
abbrev pub IsShort : Thing → Type 0
IsShort Genesis = Unit {0}
IsShort (Made bytes) = length bytes ≤ 65536
IsShort (Tx named) = Unit {0}

abbrev pub AreShort : List Entry → Type 0
AreShort [] = Unit {0}
AreShort (entry ∷ entries) = IsShort entry.1 × AreShort entries

pub record IsKept (bits : ℕ) (entries : List Entry) : Type 0 where
  pub work : bits ≤ 64
  pub few : length entries ≤ 4096
  pub genesis : IsSpellable true (genesis_parts entries)
  pub short : AreShort entries

-- the set has the ids of the transactions that were made, and no others
abbrev pub HasTxIds : BTreeSet ℕ → List Entry → Type 0
HasTxIds ids entries = (id : ℕ) → contains nat_cmp ids id ≡ list_any (λ (entry : Entry). is_of_id id entry.1) entries

-- The same; an id of the genesis block that is kept beside them is the right one, and so is the set of the ids of
-- transactions.
pub record AreKept (bits : ℕ) (entries : List Entry) (genesis : Option ℕ) (txs : BTreeSet ℕ) : Type 0 where
  pub all : IsKept bits entries
  pub id : IfSome genesis (λ id. id ≡ sha256_number (genesis_text (grants_of entries)))
  pub ids : HasTxIds txs entries
