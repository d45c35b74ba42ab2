-- Views: a set of blocks, and two rows of a pool for each unrelated pair inside it.
use Rattle.std.specs.Prelude.{ℕ, true, false, ◌≡◌, ◌⊎◌, ◌≤◌, ◌<◌, ◌+◌, ◌==◌, ◌&&◌, List, [], ◌∷◌, length, Option, Some, None, if◌then◌else◌, slice_get, slice_index_or, IfSome}
use Rattle.sp_model.specs.Graph.{Graph, has}
use Rattle.sp_model.specs.Loose.{plus, minus}
use Rattle.sp_dag.specs.Numbered.{Numbered, graph_of, pairs_of, AreInOrder}
use Rattle.sp_rows.specs.Pool.{Pool}
use Rattle.sp_view.specs.Stored.{count_of, row_of}
use Rattle.sp_view.specs.Settled.{IsAsked, AreSides}

-- a set of blocks, and by the number of each pair its two rows, of +1 and of -1
pub record Viewed : Type 0 where
  pub members : List ℕ
  pub entries : List (Option (ℕ × ℕ))

-- the rows of a pair
abbrev pub entry_at : List (Option (ℕ × ℕ)) → ℕ → Option (ℕ × ℕ)
entry_at entries i = slice_index_or entries i None

-- how often an entry holds a row
abbrev pub holds : Option (ℕ × ℕ) → ℕ → ℕ
holds None row = 0
holds (Some entry) row = (if row == entry.0 then 1 else 0) + (if row == entry.1 then 1 else 0)

-- how often a view holds a row
abbrev pub held : List (Option (ℕ × ℕ)) → ℕ → ℕ
held [] row = 0
held (entry ∷ entries) row = holds entry row + held entries row

-- an entry of a pair: none where one of the two isn't in the set, and else the rows of its loose voters
abbrev pub IsEntry : Graph → List ℕ → ℕ → ℕ → Pool → Option (ℕ × ℕ) → Type 0
IsEntry g set x y pool None = (has set x && has set y) ≡ false
IsEntry g set x y pool (Some entry) = ((has set x && has set y) ≡ true) × AreSides g set x y (row_of pool entry.0) (row_of pool entry.1)

-- the view of a set of blocks of a graph, whose rows are in a pool
pub record IsView (table : Numbered) (view : Viewed) (pool : Pool) : Type 0 where
  pub order : AreInOrder table.parents
  pub asked : IsAsked (graph_of table) view.members
  pub below : (z : ℕ) → has view.members z ≡ true → z < length table.parents
  pub few : length view.entries ≤ length (pairs_of table)
  pub entry : (i x y : ℕ) → slice_get (pairs_of table) i ≡ Some (x, y) → IsEntry (graph_of table) view.members x y pool (entry_at view.entries i)
  pub live : (row : ℕ) → held view.entries row ≤ count_of pool row
  pub once : (row : ℕ) → held view.entries row ≤ 1

-- where a pair was inside both sets, and the rows of one side are the same in both, the row keeps its id
abbrev pub KeepIds : Graph → List ℕ → List ℕ → ℕ → ℕ → Option (ℕ × ℕ) → Option (ℕ × ℕ) → Type 0
KeepIds g set more x y None after = Unit {0}
KeepIds g set more x y (Some before) None = ⊥
KeepIds g set more x y (Some before) (Some after) = (plus g set x y ≡ plus g more x y → after.0 ≡ before.0) × (minus g set x y ≡ minus g more x y → after.1 ≡ before.1)

-- each entry is one of the set
abbrev pub AreEntries : Numbered → List ℕ → Pool → List (Option (ℕ × ℕ)) → Type 0
AreEntries table set pool entries =
    (i x y : ℕ) → slice_get (pairs_of table) i ≡ Some (x, y) → IsEntry (graph_of table) set x y pool (entry_at entries i)

-- each row of an old entry whose places are the same in both sets has its id in the new entry
abbrev pub AreKeptIds : Numbered → List ℕ → List ℕ → List (Option (ℕ × ℕ)) → List (Option (ℕ × ℕ)) → Type 0
AreKeptIds table set more entries entries' =
    (i x y : ℕ) → slice_get (pairs_of table) i ≡ Some (x, y) → KeepIds (graph_of table) set more x y (entry_at entries i) (entry_at entries' i)

-- each pair that has rows is one whose frozen rows are there
abbrev pub AreListed : List (Option (ℕ × ℕ)) → ℕ → Type 0
AreListed entries n = (i : ℕ) → IfSome (entry_at entries i) (λ _. i < n)

-- the view with most members of those within the target, the first of equals
pub record IsBest (views : List Viewed) (target : List ℕ) (i : ℕ) (view : Viewed) : Type 0 where
  pub at : slice_get views i ≡ Some view
  pub within : (z : ℕ) → has view.members z ≡ true → has target z ≡ true
  pub most : (j : ℕ) (other : Viewed) → slice_get views j ≡ Some other → ((z : ℕ) → has other.members z ≡ true → has target z ≡ true) → length other.members ≤ length view.members
  pub first : (j : ℕ) (other : Viewed) → j < i → slice_get views j ≡ Some other → ((z : ℕ) → has other.members z ≡ true → has target z ≡ true) → length other.members < length view.members

-- how many rows of an entry have another id than before
abbrev pub moved_of : Option (ℕ × ℕ) → Option (ℕ × ℕ) → ℕ
moved_of before None = 0
moved_of None (Some after) = 2
moved_of (Some before) (Some after) = (if after.0 == before.0 then 0 else 1) + (if after.1 == before.1 then 0 else 1)

-- what a view starts from: the best one, or no blocks where none is within the target
abbrev pub IsStart : List Viewed → List ℕ → Viewed → Type 0
IsStart views target view =
    ((i : ℕ) × IsBest views target i view)
    ⊎ ((view ≡ record { members = []; entries = [] }) × ((j : ℕ) (other : Viewed) → slice_get views j ≡ Some other → ¬ ((z : ℕ) → has other.members z ≡ true → has target z ≡ true)))

-- two rows that weren't live before, and that are held once each
abbrev pub IsFresh : Pool → Pool → ℕ × ℕ → Type 0
IsFresh before after entry =
    (count_of before entry.0 ≡ 0) × (count_of before entry.1 ≡ 0) × (count_of after entry.0 ≡ 1) × (count_of after entry.1 ≡ 1)

-- the rows of each new entry are
abbrev pub AreFresh : List (Option (ℕ × ℕ)) → List (Option (ℕ × ℕ)) → Pool → Pool → Type 0
AreFresh entries entries' before after = (i : ℕ) → entry_at entries i ≡ None → IfSome (entry_at entries' i) (IsFresh before after)

-- What an entry holds of a row, where one stood there before: a live row only as often as that one held it, and another row once at most.
abbrev pub IsOnce : ℕ → ℕ → ℕ → Type 0
IsOnce count before after = (0 < count → after ≤ before) × (count ≡ 0 → after ≤ 1)
