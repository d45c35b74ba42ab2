-- What a chunk ends as, once a `&mut` to one of its rows has ended.
use Rattle.std.specs.Prelude.{ℕ, List}
use Rattle.std.specs.Borrow.{Fml, MutBor, Array, Lends, u64}
use Rattle.sp_rows.specs.Rows.{with_row_of}
use Rattle.sp_rows.specs.contracts.chunk.Chunk.{the_row}

abbrev pub lends_row : MutBor (List ℕ) → ℕ → MutBor (List ℕ) → Fml
lends_row chunk row r = Lends the_row (Array u64 0) chunk r (with_row_of chunk.now row)
