use Rattle.std.proofs.Common.{◌≡◌, ◌<◌, ◌≤◌, ℕ, [], get_or}
use Rattle.std.specs.Prelude.{vec_len}
use Rattle.sp_bits.specs.Places.{members_below, IsRow}
use Rattle.sp_frozen.proofs.cuts.cut_rows.Given as goal

abbrev pub invariant-rows : goal.invariant-rows
invariant-rows l =
    (vec_len l.rows ≡ vec_len l.initial.rows)
    × ((a : ℕ) → a < l.i → get_or l.rows.items a [] ≡ members_below (get_or l.initial.rows.items a []) l.count)
    × ((a : ℕ) → a < l.i → IsRow (get_or l.rows.items a []))
    × ((a : ℕ) → l.i ≤ a → get_or l.rows.items a [] ≡ get_or l.initial.rows.items a [])
