-- The format of a block, a line for each field: its width, and its rules in the order in which they are
-- judged.
use Rattle.std.specs.Prelude.{ℕ, Bool, true, not, ◌==◌, ◌&&◌, nat_le, nat_lt, List, [], ◌∷◌, ◌++◌, length, map, Option, Some, None, if◌then◌else◌}
use Rattle.std.specs.Int.{w16, w64, from_le_bytes}
use Rattle.std.specs.List.{flat_map, list_any}
use Rattle.sp_form.specs.Form.{Form, whole, ◌>>=◌, rows, Rule, rule, map_fault}
use Rattle.sp_form.specs.Values.{byte, rules_form, value_form}
use Rattle.sp_ids.specs.Key.{number_of}
use Rattle.sp_ids.specs.Outpoints.{same_outpoint}
use Rattle.sp_ids.specs.declared.outpoint.Outpoint.{Outpoint}
use Rattle.sp_tx.specs.Format.{tx_form}
use Rattle.sp_tx.specs.Parts.{Transaction}
use Rattle.sp_tx.specs.Spending.{id_of}
use Rattle.sp_block.specs.declared.fault.BlockFault.{BlockFault}
use Rattle.sp_block.specs.declared.fault.BlockFault.TheVariants.{Short, Version, ParentCount, ParentOrder, TxCount, Tx, Grant, SameTx, SameOutpoint}

-- a block without its bytes, its id and where it lies in memory
pub record Parts : Type 0 where
  pub salt : ℕ
  pub nonce : ℕ
  pub parents : List ℕ
  pub txs : List Transaction

abbrev pub of_parts : ℕ → ℕ → List ℕ → List Transaction → Parts
of_parts salt nonce parents txs = record { salt = salt; nonce = nonce; parents = parents; txs = txs }

abbrev pub version_form : Form BlockFault ℕ
version_form = value_form 1 Short byte (λ version. rule (version == 1) Version ∷ [])

-- the salt and the nonce are any eight bytes
abbrev pub word_form : Form BlockFault ℕ
word_form = value_form 8 Short (from_le_bytes w64) (λ word. [])

-- none in genesis, 1 to 64 in others
abbrev pub parents_fit : Bool → ℕ → Bool
parents_fit genesis count = if genesis then count == 0 else (nat_le 1 count && nat_le count 64)

abbrev pub parent_count_form : Bool → Form BlockFault ℕ
parent_count_form genesis = value_form 1 Short byte (λ count. rule (parents_fit genesis count) ParentCount ∷ [])

-- strictly above the one before, where there is one
abbrev pub is_above : Option ℕ → ℕ → Bool
is_above None id = true
is_above (Some before) id = nat_lt before id

abbrev pub parent_form : Option ℕ → Form BlockFault ℕ
parent_form before = value_form 32 Short number_of (λ id. rule (is_above before id) ParentOrder ∷ [])

-- what the rule of the next parent looks back at
abbrev pub last_parent : Option ℕ → ℕ → Option ℕ
last_parent before id = Some id

abbrev pub parents_form : ℕ → Form BlockFault (List ℕ)
parents_form count = rows parent_form last_parent count None

abbrev pub tx_count_form : Form BlockFault ℕ
tx_count_form = value_form 2 Short (from_le_bytes w16) (λ count. rule (nat_le count 256) TxCount ∷ [])

-- no inputs in genesis, at least one in others
abbrev pub fits_kind : Bool → Transaction → Bool
fits_kind genesis t = if genesis then length t.inputs == 0 else nat_le 1 (length t.inputs)

-- its id is one of theirs
abbrev pub has_known_id : List Transaction → Transaction → Bool
has_known_id earlier t = list_any (λ id. id_of t == id) (map id_of earlier)

abbrev pub outpoints : Transaction → List Outpoint
outpoints t = map (λ input. input.from) t.inputs

-- one of its outpoints is one of theirs
abbrev pub shares_outpoint : List Transaction → Transaction → Bool
shares_outpoint earlier t = list_any (λ outpoint. list_any (same_outpoint outpoint) (flat_map outpoints earlier)) (outpoints t)

-- what is judged behind a transaction, given those before it
abbrev pub carried_rules : Bool → List Transaction → Transaction → List (Rule BlockFault)
carried_rules genesis earlier t =
    rule (fits_kind genesis t) Grant
    ∷ rule (not (has_known_id earlier t)) SameTx
    ∷ rule (not (shares_outpoint earlier t)) SameOutpoint
    ∷ []

unfoldable pub carried_form : Bool → List Transaction → Form BlockFault Transaction
carried_form genesis earlier = do
  t ← map_fault Tx tx_form
  rules_form Short (carried_rules genesis earlier t) (whole t)

-- what the rules of the next transaction look back at
abbrev pub with_tx : List Transaction → Transaction → List Transaction
with_tx earlier t = earlier ++ t ∷ []

abbrev pub txs_form : Bool → ℕ → Form BlockFault (List Transaction)
txs_form genesis count = rows (carried_form genesis) with_tx count []

unfoldable pub block_form : Bool → Form BlockFault Parts
block_form genesis = do
  version ← version_form
  salt ← word_form
  nonce ← word_form
  parent_count ← parent_count_form genesis
  parents ← parents_form parent_count
  tx_count ← tx_count_form
  txs ← txs_form genesis tx_count
  whole (of_parts salt nonce parents txs)
