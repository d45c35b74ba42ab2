-- Sets of what earlier transactions have, as tests on the lists that they stand for. Contracts of private functions
-- alone cite them.
use Rattle.std.specs.Prelude.{◌≡◌, ℕ, ◌==◌, Bool, List, map, Option, Some, None, Result, Ok, Err}
use Rattle.std.specs.BTreeSet.{BTreeSet, contains}
use Rattle.std.specs.List.{flat_map, list_any}
use Rattle.std.specs.Ordering.{nat_cmp}
use Rattle.sp_ids.specs.declared.outpoint.Outpoint.{Outpoint}
use Rattle.sp_ids.specs.Outpoints.{outpoint_cmp, same_outpoint}
use Rattle.sp_tx.specs.Parts.{Transaction}
use Rattle.sp_tx.specs.Spending.{id_of}
use Rattle.sp_block.specs.declared.fault.BlockFault.{BlockFault}
use Rattle.sp_block.specs.declared.seen.Seen.{Seen}
use Rattle.sp_block.specs.Format.{outpoints}

-- the set has the ids of the list, and no others
abbrev pub HasIds : BTreeSet ℕ → List ℕ → Type 0
HasIds set ids = (id : ℕ) → contains nat_cmp set id ≡ list_any (λ other. id == other) ids

-- the set has the outpoints of the list, and no others
abbrev pub HasOutpoints : BTreeSet Outpoint → List Outpoint → Type 0
HasOutpoints set spent = (outpoint : Outpoint) → contains outpoint_cmp set outpoint ≡ list_any (same_outpoint outpoint) spent

pub record Saw (seen : Seen) (earlier : List Transaction) : Type 0 where
  pub ids : HasIds seen.ids (map id_of earlier)
  pub outpoints : HasOutpoints seen.outpoints (flat_map outpoints earlier)

-- one of these outpoints is one of those
abbrev pub is_any_spent : List Outpoint → List Outpoint → Bool
is_any_spent spent these = list_any (λ outpoint. list_any (same_outpoint outpoint) spent) these

-- the fault that was found, if one was
abbrev pub fault_in : Result (Unit {0}) BlockFault → Option BlockFault
fault_in (Ok u) = None
fault_in (Err fault) = Some fault
