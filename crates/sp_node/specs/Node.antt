-- What contracts see of a node, and why a message isn't answered.
use Rattle.std.specs.Prelude.{ℕ, ◌≡◌, Bool, false, true, List, Option, None, Result, Ok, Err}
use Rattle.sp_io.specs.Causes.{Rose}
use Rattle.sp_block.specs.Block.{ReadBlock}
use Rattle.sp_engine.specs.Engine.{IsRefused, Ledger}
use Rattle.sp_journal.specs.Writer.{Writer}
use Rattle.sp_node.specs.Terms.{Terms}
use Rattle.sp_node.specs.declared.fault.NodeFault.{NodeFault}
use Rattle.sp_node.specs.declared.fault.NodeFault.TheVariants.{WriteFault, DiskFault, Memory}

-- the profile and the bits of work, the kept blocks, whether the sink or the disk failed, the journal, where there is one, and what
-- the engine keeps of the blocks
pub record State : Type 0 where
  pub terms : Terms
  pub kept : List ReadBlock
  pub stopped : Bool
  pub journal : Option Writer
  pub engine : Ledger

-- a node of these blocks that has no journal and isn't stopped
pub record IsPlainNode (terms : Terms) (kept : List ReadBlock) (node : State) : Type 0 where
  pub terms_are : node.terms ≡ terms
  pub kept_are : node.kept ≡ kept
  pub live : node.stopped ≡ false
  pub alone : node.journal ≡ None

-- all is as it was, and all that the engine keeps too, but how many of its rows can be taken
pub record IsAsItWas (old new : State) : Type 0 where
  pub terms : new.terms ≡ old.terms
  pub kept : new.kept ≡ old.kept
  pub stopped : new.stopped ≡ old.stopped
  pub journal : new.journal ≡ old.journal
  pub engine : IsRefused old.engine new.engine

-- the sink's count of faults rose, or that of the disk, or memory was refused
abbrev pub HasNodeCause : ℕ → ℕ → ℕ → ℕ → NodeFault → Type 0
HasNodeCause before now disk_before disk_now WriteFault = Rose before now
HasNodeCause before now disk_before disk_now DiskFault = Rose disk_before disk_now
HasNodeCause before now disk_before disk_now Memory = Unit {0}

-- whether a message leaves the node stopped: the sink or the disk failed
abbrev pub stops : {X : Type 0} → Result X NodeFault → Bool
stops (Ok x) = false
stops (Err WriteFault) = true
stops (Err DiskFault) = true
stops (Err Memory) = false
