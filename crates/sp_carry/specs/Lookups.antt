-- The numbers of the transactions that spend an outpoint, and the map that keeps them.
use Rattle.std.specs.Prelude.{ℕ, suc, ◌≡◌, Bool, false, List, [], ◌∷◌, ◌++◌, length, Option, Some, None, cond, take, ◌<◌, slice_index_or, All}
use Rattle.std.specs.List.{list_any}
use Rattle.std.specs.BTreeMap.{BTreeMap, get}
use Rattle.sp_ids.specs.declared.outpoint.Outpoint.{Outpoint}
use Rattle.sp_tx.specs.declared.parts.Input.{Input}
use Rattle.sp_ids.specs.Outpoints.{outpoint_cmp}
use Rattle.sp_tx.specs.Parts.{Transaction}
use Rattle.sp_carry.specs.Payment.{is_same_outpoint}

-- whether one of the inputs spends the outpoint
abbrev pub is_spent_by : Outpoint → List Input → Bool
is_spent_by from inputs = list_any (λ (i : Input). is_same_outpoint from i.from) inputs

-- the numbers, from `first` on, of the transactions that spend the outpoint, ascending
abbrev pub spenders_from : ℕ → Outpoint → List Transaction → List ℕ
spenders_from first from [] = []
spenders_from first from (t ∷ ts) = cond (is_spent_by from t.inputs) (first ∷ spenders_from (suc first) from ts) (spenders_from (suc first) from ts)

-- the numbers of the transactions that spend the outpoint
abbrev pub spenders_in : List Transaction → Outpoint → List ℕ
spenders_in txs from = spenders_from 0 from txs

abbrev pub list_or_none : Option (List ℕ) → List ℕ
list_or_none None = []
list_or_none (Some list) = list

-- lists of numbers by outpoint
abbrev pub Lists : Type 0
Lists = BTreeMap Outpoint (List ℕ)

-- what a map keeps under an outpoint
abbrev pub kept_at : BTreeMap Outpoint (List ℕ) → Outpoint → List ℕ
kept_at lists from = list_or_none (get outpoint_cmp lists from)

-- the map with the number behind those of each outpoint of the inputs
abbrev pub IsNoted : BTreeMap Outpoint (List ℕ) → BTreeMap Outpoint (List ℕ) → List Input → ℕ → Type 0
IsNoted old new inputs number =
    (from : Outpoint) → kept_at new from ≡ kept_at old from ++ cond (is_spent_by from inputs) (number ∷ []) []

-- no two of the inputs spend one outpoint
abbrev pub AreApart : List Input → Type 0
AreApart inputs =
    (i : ℕ) (input : Input) → i < length inputs → input ≡ slice_index_or inputs i input → is_spent_by input.from (take i inputs) ≡ false

-- the list is the first one, or that with the number behind it
abbrev pub IsPartly : ℕ → List ℕ → List ℕ → Type 0
IsPartly number first list = (noted : Bool) × (list ≡ first ++ cond noted (number ∷ []) [])

-- `first` says what stood under each outpoint, all numbers below this one, before it was noted under some of them
pub record WasBefore (first : Outpoint → List ℕ) (lists : BTreeMap Outpoint (List ℕ)) (number : ℕ) : Type 0 where
  pub below : (from : Outpoint) → All (λ m. m < number) (first from)
  pub partly : (from : Outpoint) → IsPartly number (first from) (kept_at lists from)

-- a number that was noted under some outpoints is taken back under those of the inputs
abbrev pub IsForgotten : (Outpoint → List ℕ) → BTreeMap Outpoint (List ℕ) → BTreeMap Outpoint (List ℕ) → List Input → ℕ → Type 0
IsForgotten first old new inputs number =
    WasBefore first old number → (from : Outpoint) → kept_at new from ≡ cond (is_spent_by from inputs) (first from) (kept_at old from)
