-- What a table of blocks keeps beside their parents: an invariant, which no public contract cites.
use Rattle.std.specs.Prelude.{ℕ, ◌≡◌, ◌<◌, ◌≤◌, ◌+◌, ◌*◌, true, List, [], length, Option, None, slice_index_or}
use Rattle.sp_model.specs.Graph.{in_past}
use Rattle.sp_bits.specs.Places.{places_where}
use Rattle.sp_dag.specs.Closed.{closed}
use Rattle.sp_dag.specs.Numbered.{pairs_below, AreInOrder}
use Rattle.sp_dag.specs.Shapes.{shape_of, pairs_in}
use Rattle.sp_dag.specs.Indexed.{AreIndexed, index_at}

-- the rows of the pasts and futures, the unrelated pairs and their indices are those of the graph
pub record AreRight (table pasts futures : List (List ℕ)) (pairs : List (ℕ × ℕ)) (indices : List (List (Option ℕ))) : Type 0 where
  pub small : length table ≤ 512
  pub few : 2 * length pairs + length table ≤ length table * length table
  pub order : AreInOrder table
  pub pasts_long : length pasts ≡ length table
  pub futures_long : length futures ≡ length table
  pub indices_long : length indices ≡ length table
  pub pasts_right : (z : ℕ) → z < length table → slice_index_or pasts z [] ≡ places_where (λ a. in_past (shape_of table) a z)
  pub futures_right : (z : ℕ) → z < length table → slice_index_or futures z [] ≡ places_where (λ w. in_past (shape_of table) z w)
  pub pairs_right : pairs ≡ pairs_in table
  pub indexed : AreIndexed pairs indices
  pub unlisted : (x y : ℕ) → x < y → y < length table → index_at indices x y ≡ None → in_past (shape_of table) x y ≡ true

-- how many pairs there were before each block came, which is where its pairs begin
pub record AreStarts (table : List (List ℕ)) (starts : List ℕ) : Type 0 where
  pub long : length starts ≡ length table
  pub right : (y : ℕ) → y < length table → slice_index_or starts y 0 ≡ length (pairs_below (shape_of table) y)

-- the rows of the blocks with their futures
pub record AreClosed (table rows : List (List ℕ)) : Type 0 where
  pub long : length rows ≡ length table
  pub right : (z : ℕ) → z < length table → slice_index_or rows z [] ≡ closed (shape_of table) z
