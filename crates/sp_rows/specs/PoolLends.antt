-- What a pool ends as, once a `&mut` to the words of one of its rows has ended.
use Rattle.std.specs.Prelude.{ℕ, List}
use Rattle.std.specs.Borrow.{Fml, MutBor, Array, Lends, u64}
use Rattle.sp_rows.specs.Pool.{Pool, overwritten}
use Rattle.sp_rows.specs.contracts.pool.RowPool.{the_row}

abbrev pub lends_words : MutBor Pool → ℕ → MutBor (List ℕ) → Fml
lends_words pool id r = Lends the_row (Array u64 0) pool r (overwritten pool.now id)
