-- What a view asks of a pool of counted rows: how often a row is held, and which places it has.
use Rattle.std.specs.Prelude.{ℕ, List, length}
use Rattle.sp_bits.specs.Places.{places_where}
use Rattle.sp_bits.specs.Words.{bit_in}
use Rattle.sp_rows.specs.Pool.{Pool, words_of}
use Rattle.sp_rows.specs.Pool as counted

-- how often a row is held, 0 where it isn't live
abbrev pub count_of : Pool → ℕ → ℕ
count_of pool row = counted.count_of pool.rows row

-- the places of a live row
unfoldable pub row_of : Pool → ℕ → List ℕ
row_of pool row = places_where (bit_in (words_of pool.rows row))

-- how many rows are live
abbrev pub live : Pool → ℕ
live pool = length pool.rows

-- how many more can be taken
abbrev pub spare : Pool → ℕ
spare pool = pool.spare
