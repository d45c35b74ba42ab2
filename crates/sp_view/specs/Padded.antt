-- Saved entries, of which only those up to the last one are kept.
use Rattle.std.specs.Prelude.{ℕ, zero, suc, List, [], ◌∷◌, Option, None}

-- so many entries: the first ones are these, and behind them none is saved
abbrev pub padded : ℕ → List (Option (ℕ × ℕ)) → List (Option (ℕ × ℕ))
padded zero entries = []
padded (suc count) [] = None ∷ padded count []
padded (suc count) (entry ∷ entries) = entry ∷ padded count entries
