-- Which transactions' acceptance differs.
use Rattle.std.specs.Prelude.{ℕ, Bool, true, false, not, List, map, filter}
use Rattle.std.specs.List.{range_with_len}
use Rattle.sp_carry.specs.Flags.{is_set}
use Rattle.sp_carry.specs.declared.carrier.Flip.{Flip}

abbrev pub differ : Bool → Bool → Bool
differ true b = not b
differ false b = b

-- of the transactions below a number, each with its new flag, those whose old one differs, ascending
abbrev pub flips_of : List Bool → List Bool → ℕ → List Flip
flips_of old new count =
    filter (λ (flip : Flip). differ (is_set old flip.tx) flip.now)
    (map (λ tx. record { tx = tx; now = is_set new tx }) (range_with_len 0 count))

-- of these transactions, each with its new flag, those whose old one differs, in their order
abbrev pub flips_among : List Bool → (ℕ → Bool) → List ℕ → List Flip
flips_among old new txs = filter (λ (flip : Flip). differ (is_set old flip.tx) flip.now) (map (λ tx. record { tx = tx; now = new tx }) txs)
