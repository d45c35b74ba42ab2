-- What the chunks end as, once a `&mut` to one of their rows has ended.
use Rattle.std.specs.Prelude.{ℕ, List}
use Rattle.std.specs.Borrow.{Fml, MutBor, Array, Lends, u64}
use Rattle.sp_rows.specs.Kept.{with_words_at}
use Rattle.sp_rows.specs.contracts.chunks.Chunks.{the_row}

abbrev pub lends_words : MutBor (List (List ℕ)) → ℕ → MutBor (List ℕ) → Fml
lends_words chunks id r = Lends the_row (Array u64 0) chunks r (with_words_at chunks.now id)
