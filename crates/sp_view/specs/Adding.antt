-- What a block that is added does to the set of a view, and to the rows of its pool.
use Rattle.std.specs.Prelude.{ℕ, ◌≡◌, ◌<◌, ◌≤◌, ◌+◌, ◌*◌, ◌==◌, ◌||◌, List, length, Option}
use Rattle.sp_bits.specs.Places.{places_where}
use Rattle.sp_model.specs.Graph.{anticone, has}
use Rattle.sp_dag.specs.Numbered.{Numbered, graph_of, pairs_of}
use Rattle.sp_rows.specs.Pool.{Pool}
use Rattle.sp_view.specs.Moving.{changed_rows}
use Rattle.sp_view.specs.Stored.{count_of, live, row_of}
use Rattle.sp_view.specs.Views.{held}

-- a set with one member more
abbrev pub with_member : List ℕ → ℕ → List ℕ
with_member set b = places_where (λ p. has set p || (p == b))

-- each row is counted as before, but for what these entries hold of it
abbrev pub AreCountedStill : Pool → Pool → List (Option (ℕ × ℕ)) → List (Option (ℕ × ℕ)) → Type 0
AreCountedStill before after entries entries' = (r : ℕ) → count_of after r + held entries r ≡ count_of before r + held entries' r

-- each row that is held beyond these entries keeps its places
abbrev pub OthersStay : Pool → Pool → List (Option (ℕ × ℕ)) → Type 0
OthersStay before after entries = (r : ℕ) → held entries r < count_of before r → row_of after r ≡ row_of before r

-- at most two rows for each unrelated member, and one for each row that changes, are live in addition
abbrev pub AreFewLive : Numbered → ℕ → List ℕ → List ℕ → Pool → Pool → Type 0
AreFewLive table b set more before after =
    live after ≤ live before + (2 * length (anticone (graph_of table) set b) + changed_rows (graph_of table) set more (pairs_of table))
