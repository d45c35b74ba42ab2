-- What a list of bytes spells as a block, its first fault, and the one spelling of a block's parts.
use Rattle.std.specs.Prelude.{◌≡◌, ℕ, ◌<◌, ◌≤◌, ◌^◌, Bool, true, false, List, [], ◌∷◌, ◌++◌, length, Option, None}
use Rattle.std.specs.List.{flat_map}
use Rattle.std.specs.Int.{w16, w64, to_le_bytes}
use Rattle.sp_form.specs.Form.{HasFault, Spells}
use Rattle.sp_form.specs.Turns.{InTurn}
use Rattle.sp_ids.specs.Key.{bytes_of}
use Rattle.sp_tx.specs.Parts.{Transaction}
use Rattle.sp_tx.specs.Spelling.{IsTx, spelling}
use Rattle.sp_block.specs.declared.fault.BlockFault.{BlockFault}
use Rattle.sp_block.specs.declared.fault.BlockFault.TheVariants.{TooLong, Trailing}
use Rattle.sp_block.specs.Format.{block_form, fits_kind, has_known_id, is_above, last_parent, Parts, parents_fit, shares_outpoint, with_tx}

pub record SpellsBlock (list : List ℕ) (genesis : Bool) (parts : Parts) : Type 0 where
  pub short : length list ≤ 65536
  pub spells : Spells (block_form genesis) list parts

-- The length is judged before all fields, and what follows behind them all.
pub data HasBlockFault (list : List ℕ) (genesis : Bool) : BlockFault → Type 0 where
  long : 65536 < length list → HasBlockFault list genesis TooLong
  inside : (fault : BlockFault) → length list ≤ 65536 → HasFault (block_form genesis) list fault → HasBlockFault list genesis fault
  behind : (text rest : List ℕ) (parts : Parts) → length list ≤ 65536 → Spells (block_form genesis) text parts → list ≡ text ++ rest → 0 < length rest → HasBlockFault list genesis Trailing

-- What a parent meets, given the one before it.
pub record IsParent (before : Option ℕ) (parent : ℕ) : Type 0 where
  pub id : parent < 2 ^ 256
  pub order : is_above before parent ≡ true

-- What a transaction meets, given the block's earlier ones.
pub record IsCarried (genesis : Bool) (earlier : List Transaction) (t : Transaction) : Type 0 where
  pub tx : IsTx t
  pub kind : fits_kind genesis t ≡ true
  pub new_id : has_known_id earlier t ≡ false
  pub new_outpoints : shares_outpoint earlier t ≡ false

-- the bytes of a block, counts as whole numbers
abbrev pub block_text : Parts → List ℕ
block_text p =
    1 ∷ (to_le_bytes w64 p.salt ++ (to_le_bytes w64 p.nonce ++ (length p.parents ∷ (flat_map bytes_of p.parents ++ (to_le_bytes w16 (length p.txs) ++ flat_map spelling p.txs)))))

-- The rules that a block's parts meet.
pub record MeetsRules (genesis : Bool) (p : Parts) : Type 0 where
  pub salt : p.salt < 2 ^ 64
  pub nonce : p.nonce < 2 ^ 64
  pub parent_count : parents_fit genesis (length p.parents) ≡ true
  pub parents : InTurn IsParent last_parent None p.parents
  pub few_txs : length p.txs ≤ 256
  pub txs : InTurn (IsCarried genesis) with_tx [] p.txs

-- they are short enough for a block, too
pub record IsSpellable (genesis : Bool) (p : Parts) : Type 0 where
  pub rules : MeetsRules genesis p
  pub short : length (block_text p) ≤ 65536
