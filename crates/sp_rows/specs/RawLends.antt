-- What the owner of a chunk's words ends as, once a `&mut` to eight of them has ended.
use Rattle.std.specs.Prelude.{ℕ, ◌+◌, List, ◌++◌, take, drop}
use Rattle.std.specs.List.{refill}
use Rattle.std.specs.Borrow.{Fml, MutBor, Array, Lends, u64}
use Rattle.sp_rows.specs.declared.raw.Owned.{Owned}
use Rattle.sp_rows.specs.contracts.raw.Owned.{the_row}

-- the words with eight others in the place of those from an index on
abbrev pub spliced : List ℕ → ℕ → List ℕ → List ℕ
spliced words from own = take from words ++ (refill 8 (take 8 (drop from words)) own ++ drop (from + 8) words)

abbrev pub lends_eight : MutBor Owned → ℕ → MutBor (List ℕ) → Fml
lends_eight owned from r = Lends the_row (Array u64 0) owned r (λ own. record { mark = owned.now.mark; at = owned.now.at; words = spliced owned.now.words from own })
