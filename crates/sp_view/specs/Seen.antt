-- Which blocks have voters above them.
use Rattle.std.specs.Prelude.{ℕ, Bool, true, ◌≡◌}
use Rattle.sp_model.specs.Graph.{Graph, in_past}

-- a block is in the past of one that passes a test
abbrev pub HasAbove : Graph → (ℕ → Bool) → ℕ → Type 0
HasAbove g test z = (b : ℕ) × (test b ≡ true) × (in_past g z b ≡ true)
