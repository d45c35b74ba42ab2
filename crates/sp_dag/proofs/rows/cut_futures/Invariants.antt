use Rattle.std.proofs.Common.{◌≡◌, ◌<◌, ◌≤◌, ℕ, [], get_or}
use Rattle.std.specs.Prelude.{vec_len}
use Rattle.sp_bits.specs.Places.{members_below}
use Rattle.sp_dag.proofs.rows.cut_futures.Given as goal

abbrev pub invariant-futures : goal.invariant-futures
invariant-futures l =
    (vec_len l.futures ≡ vec_len l.initial.futures)
    × ((a : ℕ) → a < l.earlier → get_or l.futures.items a [] ≡ members_below (get_or l.initial.futures.items a []) l.count)
    × ((a : ℕ) → l.earlier ≤ a → get_or l.futures.items a [] ≡ get_or l.initial.futures.items a [])
