-- What contracts see of the engine, which is `Ledger`, and what public contracts say of it: `IsLedger`, `is_growth`, `Stays`, `GrewByOne` and
-- `AreNumbered`. Behind these stands what the engine keeps: an invariant, which no public contract cites.
use Rattle.std.specs.Prelude.{ℕ, ◌≡◌, ◌≤◌, ◌<◌, ◌+◌, true, false, Bool, List, [], ◌++◌, map, length, slice_get, slice_index_or, Some, take, replicate}
use Rattle.std.specs.List.{list_all, range_with_len}
use Rattle.std.specs.Option.{option_map}
use Rattle.sp_block.specs.Block.{ReadBlock}
use Rattle.sp_model.specs.declared.profile.Profile.{Profile}
use Rattle.sp_model.specs.Graph.{has, parents_of, rank_of}
use Rattle.sp_pool.specs.Kept.{AreKept, graph_of, ids_of, present}
use Rattle.sp_dag.specs.Numbered.{IsNumbered, number_of, Numbered}
use Rattle.sp_tx.specs.Parts.{Transaction}
use Rattle.sp_tx.specs.Spending.{id_of}
use Rattle.sp_carry.specs.Carried.{AreSound, Carried, Carries, IsCarried}
use Rattle.sp_accept.specs.Acceptance.{Acceptance, IsRight}
use Rattle.sp_money.specs.Held.{Held, IsOf}
use Rattle.sp_money.specs.Locks.{each_once}
use Rattle.sp_engine.specs.Presence.{order_of}
use Rattle.sp_engine.specs.Votes.{AreFew, AreVoted, Grew, IsAsBefore, Tallied}
use Rattle.sp_engine.specs.declared.answer.Answer.{Answer}
use Rattle.sp_engine.specs.declared.answer.Answer.TheVariants as answer
use Rattle.sp_engine.specs.Transactions.{tx_ids_in, txs_of}
use Rattle.sp_carry.specs.Carried as carried
use Rattle.sp_carry.specs.Flags.{is_set}
use Rattle.sp_dag.specs.Numbered as numbered

-- the profile, the bits of work, the kept blocks, and the present blocks by number with their votes
pub record Ledger : Type 0 where
  pub profile : Profile
  pub bits : ℕ
  pub kept : List ReadBlock
  pub numbered : Numbered
  pub votes : Tallied

-- an engine of this profile, these bits and kept blocks
pub record IsLedger (profile : Profile) (bits : ℕ) (kept : List ReadBlock) (engine : Ledger) : Type 0 where
  pub profile_is : engine.profile ≡ profile
  pub bits_are : engine.bits ≡ bits
  pub kept_are : engine.kept ≡ kept

-- whether blocks became present
abbrev pub is_growth : Answer → Bool
is_growth (answer.Kept id present) = true
is_growth (answer.Held id) = false
is_growth (answer.Known id) = false
is_growth (answer.Refused refusal) = false
is_growth answer.Full = false

-- where nothing became present, the blocks that are numbered stay, and all their votes, rows and views
abbrev pub Stays : Ledger → Ledger → Type 0
Stays old new = (new.numbered ≡ old.numbered) × (new.votes ≡ old.votes)

-- where memory was refused, all stays but how many rows can be taken
pub record IsRefused (old new : Ledger) : Type 0 where
  pub profile : new.profile ≡ old.profile
  pub bits : new.bits ≡ old.bits
  pub kept : new.kept ≡ old.kept
  pub numbered : new.numbered ≡ old.numbered
  pub votes : IsAsBefore old.votes new.votes

-- Where one block became present, it has the next number, and the votes grew by it.
abbrev pub GrewByOne : Ledger → Ledger → Type 0
GrewByOne old new = (length new.numbered.parents ≡ length old.numbered.parents + 1) × Grew new.numbered (length old.numbered.parents) old.votes new.votes

-- the numbered blocks are kept ones, genesis among them, with the salt and the parents of each, which are numbered too
pub record AreNumbered (kept : List ReadBlock) (blocks : Numbered) : Type 0 where
  pub there : (id : ℕ) → has blocks.ids id ≡ true → has (ids_of kept) id ≡ true
  pub closed : (id : ℕ) → has blocks.ids id ≡ true → list_all (has blocks.ids) (parents_of (graph_of kept) id) ≡ true
  pub others : (id : ℕ) → has (ids_of kept) id ≡ true → has blocks.ids id ≡ false → 0 < length (parents_of (graph_of kept) id)
  pub parents : (n id : ℕ) → slice_get blocks.ids n ≡ Some id → slice_index_or blocks.parents n [] ≡ map (number_of blocks.ids) (parents_of (graph_of kept) id)
  pub salts : (n id : ℕ) → slice_get blocks.ids n ≡ Some id → slice_index_or blocks.salts n 0 ≡ (rank_of (graph_of kept) id).salt

-- all numbers of blocks
abbrev pub numbers : Numbered → List ℕ
numbers blocks = range_with_len 0 (length blocks.parents)

-- the numbered blocks are the present ones in their order, and the votes are those of all of them
pub record IsEngine (bits : ℕ) (kept : List ReadBlock) (genesis : ℕ) (blocks : Numbered) (votes : Tallied) : Type 0 where
  pub small : bits ≤ 64
  pub all_kept : AreKept kept
  pub first : option_map (λ (block : ReadBlock). block.id) (slice_get kept 0) ≡ Some genesis
  pub in_order : IsNumbered blocks
  pub numbered : AreNumbered kept blocks
  pub order : blocks.ids ≡ order_of kept
  pub same : (id : ℕ) → has blocks.ids id ≡ has (present kept) id
  pub voted : AreVoted blocks votes
  pub few : AreFew votes

-- the carriers are those of the numbered blocks, in their order, and are marked sound where they are so in their graph
pub record AreCarried (kept : List ReadBlock) (blocks : Numbered) (k : Carried) : Type 0 where
  pub carried : IsCarried k
  pub theirs : Carries (map (txs_of kept) blocks.ids) k
  pub ids : map id_of k.txs ≡ each_once (tx_ids_in kept blocks.ids)
  pub sound : AreSound blocks k

-- the carriers are those of the numbered blocks, and the accepted ones are those of the definition, all blocks being the set
pub record IsAccepting (kept : List ReadBlock) (blocks : Numbered) (k : Carried) (a : Acceptance) : Type 0 where
  pub carriers : AreCarried kept blocks k
  pub right : IsRight blocks k a
  pub all : a.blocks ≡ k.blocks

-- the first of some numbered blocks
abbrev pub first_numbered : Numbered → ℕ → Numbered
first_numbered blocks n = numbered.cut_to blocks n

-- the carriers of the first blocks
abbrev pub first_carried : Carried → ℕ → Carried
first_carried k n = carried.cut_to k n

-- the purse is prepared for the transactions of the carriers, and has the flags of the accepted ones
pub record IsPaying (k : Carried) (a : Acceptance) (p : Held) : Type 0 where
  pub of : IsOf k.txs p
  pub same : (tx : ℕ) → tx < length k.txs → slice_index_or p.accepted tx false ≡ is_set a.txs tx

-- it was so for the first of the transactions, and none of the others has a flag yet
pub record WasPaying (k : Carried) (a : Acceptance) (p : Held) : Type 0 where
  pub few : length p.accepted ≤ length k.txs
  pub of : IsOf (take (length p.accepted) k.txs) p
  pub same : (tx : ℕ) → tx < length p.accepted → slice_index_or p.accepted tx false ≡ is_set a.txs tx
  pub none : (tx : ℕ) → length p.accepted ≤ tx → is_set a.txs tx ≡ false

-- some transactions, and more behind them
abbrev pub GoesOn : List Transaction → List Transaction → Type 0
GoesOn front whole = (more : List Transaction) × (whole ≡ front ++ more)

-- a purse that was prepared for some transactions may be so for more behind them, of which none has its flag
pub record IsWider (txs : List Transaction) (old new : Held) : Type 0 where
  pub list : List Transaction
  pub front : GoesOn txs list
  pub of : IsOf list new
  pub more : ℕ
  pub flags : new.accepted ≡ old.accepted ++ replicate more false
