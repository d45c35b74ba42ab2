-- Numbers that are drawn from a seed, and the parents that they choose.
use Rattle.std.specs.Prelude.{ℕ, zero, suc, ◌+◌, ◌-◌, ◌*◌, ◌/◌, ◌%◌, ◌^◌, ◌==◌, min, max, if◌then◌else◌, List, [], ◌∷◌}

-- a draw changes the state
abbrev pub next_state : ℕ → ℕ
next_state state = (state * 6364136223846793005 + 1442695040888963407) % 2 ^ 64

-- the state after so many draws
unfoldable pub state_after : ℕ → ℕ → ℕ
state_after state zero = state
state_after state (suc count) = next_state (state_after state count)

-- a draw gives the upper 32 bits of its state; the draws from a state are counted from 1
abbrev pub draw : ℕ → ℕ → ℕ
draw state count = state_after state count / 2 ^ 32

-- the candidates of block i are the blocks from the greater of 0 and i - width up to i - 1
abbrev pub first_candidate : ℕ → ℕ → ℕ
first_candidate i width = i - width

abbrev pub candidate_count : ℕ → ℕ → ℕ
candidate_count i width = i - first_candidate i width

-- the candidate that a drawn number chooses
abbrev pub candidate : ℕ → ℕ → ℕ → ℕ
candidate i width number = first_candidate i width + number % candidate_count i width

-- two numbers in ascending order, once where they are equal
abbrev pub once_ascending : ℕ → ℕ → List ℕ
once_ascending a b = if a == b then a ∷ [] else min a b ∷ max a b ∷ []

-- one candidate is the one parent; of more, two numbers are drawn
unfoldable pub parents_of : ℕ → ℕ → ℕ → List ℕ
parents_of i width state =
    if candidate_count i width == 1 then first_candidate i width ∷ []
    else once_ascending (candidate i width (draw state 1)) (candidate i width (draw state 2))

unfoldable pub draw_count : ℕ → ℕ → ℕ
draw_count i width = if candidate_count i width == 1 then 0 else 2

-- the state behind block i
unfoldable pub state_behind : ℕ → ℕ → ℕ → ℕ
state_behind seed width zero = seed
state_behind seed width (suc i) = state_after (state_behind seed width i) (draw_count (suc i) width)
