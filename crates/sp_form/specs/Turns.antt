-- Values one after another, each of which meets its rule given those before it.
use Rattle.std.specs.Prelude.{List, [], ◌∷◌}

-- each value meets its rule, given what was carried to it from those before
abbrev pub InTurn : {A S : Type 0} → (S → A → Type 0) → (S → A → S) → S → List A → Type 0
InTurn rule carried seen [] = Unit {0}
InTurn rule carried seen (x ∷ xs) = rule seen x × InTurn rule carried (carried seen x) xs
