-- Where an output stands in the list of outputs, and what inputs change there.
use Rattle.std.specs.Prelude.{ℕ, zero, suc, ◌≡◌, ◌+◌, ◌-◌, ◌<◌, ◌^◌, Bool, true, false, cond, List, [], ◌∷◌, ◌++◌, length, slice_index, slice_index_or}
use Rattle.std.specs.List.{list_any}
use Rattle.sp_ids.specs.declared.outpoint.Outpoint.{Outpoint}
use Rattle.sp_tx.specs.declared.parts.Input.{Input}
use Rattle.sp_carry.specs.Payment.{is_same_outpoint}
use Rattle.sp_carry.specs.Money.{Coin}

-- whether the outpoint names the output
abbrev pub is_name : Outpoint → Coin → Bool
is_name from coin = is_same_outpoint from coin.name

-- the outpoint names the output at a place, and no other one
pub record StandsAt (coins : List Coin) (from : Outpoint) (place : ℕ) : Type 0 where
  pub front : List Coin
  pub coin : Coin
  pub back : List Coin
  pub split : coins ≡ front ++ coin ∷ back
  pub long : length front ≡ place
  pub here : is_name from coin ≡ true
  pub before : list_any (is_name from) front ≡ false
  pub behind : list_any (is_name from) back ≡ false

-- so many flags from a place on are set to a value
abbrev pub marked : List Bool → ℕ → ℕ → Bool → List Bool
marked [] start count now = []
marked (b ∷ bs) (suc start) count now = b ∷ marked bs start count now
marked (b ∷ bs) zero zero now = b ∷ bs
marked (b ∷ bs) zero (suc count) now = now ∷ marked bs zero count now

-- one spender more, or one less
abbrev pub shifted : Bool → ℕ → ℕ
shifted true n = n + 1
shifted false n = n - 1

-- there is room for one spender more, or there is one to go
abbrev pub CanShift : Bool → ℕ → Type 0
CanShift true n = n < 2 ^ 31
CanShift false n = 0 < n

-- whether one of the inputs names the output
abbrev pub is_named : List Input → Coin → Bool
is_named inputs coin = list_any (λ (i : Input). is_name i.from coin) inputs

-- the counts of spenders, where each output that an input names has one more or one less
abbrev pub counted : Bool → List Input → List Coin → List ℕ → List ℕ
counted now inputs [] ns = []
counted now inputs (c ∷ cs) [] = []
counted now inputs (c ∷ cs) (n ∷ ns) = cond (is_named inputs c) (shifted now n) n ∷ counted now inputs cs ns

-- that can be
abbrev pub CanCount : Bool → List Input → List Coin → List ℕ → Type 0
CanCount now inputs coins ns =
    (k : ℕ) (d : Coin) → k < length coins → is_named inputs (slice_index_or coins k d) ≡ true → CanShift now (slice_index ns k)
