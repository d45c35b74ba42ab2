-- Which transactions of a block graph are sound, and which are accepted.
use Rattle.std.specs.Prelude.{ℕ, zero, suc, Bool, true, false, ◌==◌, ◌&&◌, ◌||◌, not, nat_le, List, [], ◌∷◌, length, filter, flat_map, negsuc, ◌≡◌, Contains, IsTrue, IsFalse}
use Rattle.std.specs.List.{list_any, list_all}
use Rattle.std.specs.Ordering.{int_eq}
use Rattle.sp_model.specs.Graph.{Graph, parents_of, past, anticone, has}
use Rattle.sp_model.specs.Votes.{virt}
use Rattle.sp_carry.specs.declared.state.TxState.{TxState}
use Rattle.sp_carry.specs.declared.state.TxState.TheVariants.{Accepted, Rejected, Absent}
use Rattle.sp_carry.specs.Payment.{Payment, Spent, conflicts, finds, spent_amount, paid_amount, names_once}

-- a graph, and the transactions of each block in their order. A carrier is a block with a transaction in it
pub record Ledger : Type 0 where
  pub graph : Graph
  pub txs : ℕ → List Payment

abbrev pub is_empty : List ℕ → Bool
is_empty [] = true
is_empty (p ∷ ps) = false

-- genesis is the one block without parents
abbrev pub is_genesis : Ledger → ℕ → Bool
is_genesis ledger z = is_empty (parents_of ledger.graph z)

-- what the blocks of the set carry
abbrev pub carried : Ledger → List ℕ → List Payment
carried ledger set = flat_map ledger.txs set

-- each input names an output of these payments and opens its lock, and all are worth at least what the outputs are
abbrev pub is_covered : List Payment → Payment → Bool
is_covered below t = list_all (finds below) t.inputs && nat_le (paid_amount t) (spent_amount below t)

-- block z's carrier of t is sound: z is genesis, or the blocks in the past of z carry what t spends
abbrev pub is_sound : Ledger → ℕ → Payment → Bool
is_sound ledger z t = is_genesis ledger z || is_covered (carried ledger (past ledger.graph z)) t

-- whether a block of the set has a carrier that passes
abbrev pub some_carrier : Ledger → List ℕ → (ℕ → Payment → Bool) → Bool
some_carrier ledger set test = list_any (λ w. list_any (test w) (ledger.txs w)) set

-- block w's carrier of u is sound and conflicts with t
abbrev pub is_rival : Ledger → Payment → ℕ → Payment → Bool
is_rival ledger t w u = conflicts t u && is_sound ledger w u

-- the transaction of each input has an accepted carrier in the past of z, where it is known what is accepted there
abbrev pub has_sources : Ledger → (ℕ → Payment → Bool) → ℕ → Payment → Bool
has_sources ledger is_accepted_below z t =
    list_all (λ (i : Spent). some_carrier ledger (past ledger.graph z) (λ w u. (u.id == i.from.tx) && is_accepted_below w u)) t.inputs

-- z comes before each block of its anticone that has a sound rival of t; where the votes tie it doesn't
abbrev pub is_first : Ledger → List ℕ → ℕ → Payment → Bool
is_first ledger set z t =
    not (some_carrier ledger (anticone ledger.graph set z) (λ w u. is_rival ledger t w u && not (int_eq (virt ledger.graph set z w) (negsuc 0))))

-- no sound rival of t in the past of z is accepted
abbrev pub is_alone : Ledger → (ℕ → Payment → Bool) → ℕ → Payment → Bool
is_alone ledger is_accepted_below z t =
    not (some_carrier ledger (past ledger.graph z) (λ w u. is_rival ledger t w u && is_accepted_below w u))

-- the four conditions on block z's carrier of t, where it is known what is accepted in the past of z
abbrev pub accepts_by : Ledger → List ℕ → (ℕ → Payment → Bool) → ℕ → Payment → Bool
accepts_by ledger set is_accepted_below z t =
    is_sound ledger z t && (has_sources ledger is_accepted_below z t && (is_first ledger set z t && is_alone ledger is_accepted_below z t))

-- the same, where the recursion goes no deeper than so many steps
unfoldable pub accepts_within : ℕ → Ledger → List ℕ → ℕ → Payment → Bool
accepts_within zero ledger set z t = false
accepts_within (suc steps) ledger set z t = accepts_by ledger set (λ w u. accepts_within steps ledger set w u) z t

-- whether block z's carrier of t is accepted; each step goes from a block to its past
unfoldable pub accepts : Ledger → List ℕ → ℕ → Payment → Bool
accepts ledger set z t = accepts_within (length ledger.graph.blocks) ledger set z t

-- the transactions of the accepted carriers, once for each carrier
abbrev pub accepted_carriers : Ledger → List ℕ → List Payment
accepted_carriers ledger set = flat_map (λ z. filter (λ t. accepts ledger set z t) (ledger.txs z)) set

-- whether some carrier of the id is accepted
abbrev pub is_accepted : Ledger → List ℕ → ℕ → Bool
is_accepted ledger set id = list_any (λ (t : Payment). t.id == id) (accepted_carriers ledger set)

-- whether a block of the set carries the id
abbrev pub is_carried : Ledger → List ℕ → ℕ → Bool
is_carried ledger set id = list_any (λ (t : Payment). t.id == id) (carried ledger set)

-- the state by whether a block carries it, and whether it is accepted
abbrev pub state_by : Bool → Bool → TxState
state_by false _ = Absent
state_by true true = Accepted
state_by true false = Rejected

-- the state of a transaction's id
abbrev pub state : Ledger → List ℕ → ℕ → TxState
state ledger set id = state_by (is_carried ledger set id) (is_accepted ledger set id)

-- no two transactions of one block of the set conflict
abbrev pub HasNoTwins : Ledger → List ℕ → Type 0
HasNoTwins ledger set =
    (z : ℕ) (t u : Payment) → IsTrue (has set z) → Contains (ledger.txs z) t → Contains (ledger.txs z) u → IsFalse (conflicts t u)

-- no two different transactions of the set's blocks have one id
abbrev pub IsPlain : Ledger → List ℕ → Type 0
IsPlain ledger set =
    (t u : Payment) → Contains (carried ledger set) t → Contains (carried ledger set) u → t.id ≡ u.id → t ≡ u

-- no transaction of the set's blocks has one outpoint twice
abbrev pub NamesOnce : Ledger → List ℕ → Type 0
NamesOnce ledger set = (t : Payment) → Contains (carried ledger set) t → IsTrue (names_once t.inputs)

-- the one block of the set that has no parents
pub record IsOneGenesis (ledger : Ledger) (set : List ℕ) (genesis : ℕ) : Type 0 where
  pub there : IsTrue (has set genesis)
  pub only : (z : ℕ) → IsTrue (has set z) → IsTrue (is_genesis ledger z) → z ≡ genesis
