-- The votes of the first blocks of a graph, as the engine keeps them: views of the tips' pasts and of all blocks, whose rows they share.
use Rattle.std.specs.Prelude.{ℕ, true, false, ◌≡◌, ◌⊎◌, ◌≤◌, ◌<◌, ◌+◌, ◌-◌, ◌*◌, ◌&&◌, nat_le, Bool, not, List, [], ◌∷◌, ◌++◌, length, map, filter, take, slice_get, slice_index_or, ℤ, Option, Some, None}
use Rattle.std.specs.List.{list_all, list_any, range_with_len}
use Rattle.sp_bits.specs.Places.{places_where}
use Rattle.sp_model.specs.Graph.{Graph, has, past}
use Rattle.sp_model.specs.Loose.{in_bar, plus, minus}
use Rattle.sp_dag.specs.Numbered.{Numbered, graph_of, pairs_of}
use Rattle.sp_frozen.specs.Voters.{AreRows, FrozenRows, HoldsFrozen}
use Rattle.sp_rows.specs.Pool.{Pool}
use Rattle.sp_rows.specs.Pool as pooled
use Rattle.sp_view.specs.Saved.{IsSaving, patched}
use Rattle.sp_view.specs.Settled.{IsAsked}
use Rattle.sp_view.specs.Stored.{count_of, live, row_of}
use Rattle.sp_view.specs.Summed.{AreSums}
use Rattle.sp_view.specs.Views.{AreKeptIds, IsBest, Viewed, entry_at, held, IsView}

-- the frozen votes, the pool of rows, the views over it: those of tips, ascending, and behind them that of all blocks;
-- the number from which on the tips have views; and the sums of all blocks' votes, by the numbers of the pairs
pub record Tallied : Type 0 where
  pub frozen : FrozenRows
  pub rows : Pool
  pub views : List Viewed
  pub since : ℕ
  pub sums : List ℤ

-- how often some views hold a row
abbrev pub held_by : List Viewed → ℕ → ℕ
held_by [] row = 0
held_by (view ∷ views) row = held view.entries row + held_by views row

-- each of some is a view over the pool, of blocks below a number
abbrev pub AreViews : Numbered → Pool → ℕ → List Viewed → Type 0
AreViews table pool n [] = Unit {0}
AreViews table pool n (view ∷ views) = IsView table view pool × ((z : ℕ) → has view.members z ≡ true → z < n) × AreViews table pool n views

-- a block and its past, as a row
abbrev pub bar_row : Numbered → ℕ → List ℕ
bar_row table n = places_where (λ z. in_bar (graph_of table) z n)

-- whether no block of a table of parents has this one as a parent
abbrev pub is_tip : List (List ℕ) → ℕ → Bool
is_tip table n = not (list_any (λ parents. has parents n) table)

-- the tips from a number on, ascending
abbrev pub tips_from : List (List ℕ) → ℕ → List ℕ
tips_from table n = filter (is_tip table) (range_with_len n (length table - n))

-- views of the first n blocks: for each tip from a number on, ascending, that of the tip and its past, and behind them that of all these
-- blocks; the newest block, which is a tip, has one
pub record AreOfTips (table : Numbered) (n since : ℕ) (views : List Viewed) : Type 0 where
  pub tips : List Viewed
  pub all : Viewed
  pub is : views ≡ tips ++ all ∷ []
  pub within : since ≤ n - 1
  pub each : map (λ (view : Viewed). view.members) tips ≡ map (bar_row table) (tips_from (take n table.parents) since)
  pub members : all.members ≡ range_with_len 0 n

-- how many entries some views have
abbrev pub entries_of : List Viewed → ℕ
entries_of [] = 0
entries_of (view ∷ views) = length view.entries + entries_of views

-- how many bytes the live rows of a pool and the entries of some views take
abbrev pub bytes_of : Pool → List Viewed → ℕ
bytes_of pool views = 64 * live pool + 12 * entries_of views

-- the most bytes that they may take while there are views of other tips than the newest one
abbrev pub most_bytes : ℕ
most_bytes = 134217728

-- there are views of other tips than the newest one only where all together take no more
abbrev pub AreFew : Tallied → Type 0
AreFew v = 2 < length v.views → bytes_of v.rows v.views ≤ most_bytes

-- some views took more while another one stood beside them: in a pool where each row is counted as often as they hold it
pub record WereMany (views : List Viewed) (other : Viewed) : Type 0 where
  pub pool : Pool
  pub rows : pooled.AreRows 0 pool.rows
  pub counts : (row : ℕ) → count_of pool row ≡ held_by (other ∷ views) row
  pub more : most_bytes < bytes_of pool (other ∷ views)

-- Saved entries are held beside views: no row is held but by these and those, each as often as it is counted. The saved
-- ones are no more than there are pairs, and hold no row twice.
pub record AreShared (table : Numbered) (pool : Pool) (views : List Viewed) (saved : List (Option (ℕ × ℕ))) : Type 0 where
  pub few : length saved ≤ length (pairs_of table)
  pub once : (row : ℕ) → held saved row ≤ 1
  pub counts : (row : ℕ) → count_of pool row ≡ held saved row + held_by views row

-- the votes of the first blocks of a table, where some entries are saved beside
pub record HoldsVotes (table : Numbered) (v : Tallied) (saved : List (Option (ℕ × ℕ))) : Type 0 where
  pub frozen : HoldsFrozen table v.frozen
  pub views : AreViews table v.rows v.frozen.blocks v.views
  pub shared : AreShared table v.rows v.views saved
  pub tips : AreOfTips table v.frozen.blocks v.since v.views

-- those of all its blocks
pub record AreVotedBeside (table : Numbered) (v : Tallied) (saved : List (Option (ℕ × ℕ))) : Type 0 where
  pub holds : HoldsVotes table v saved
  pub every : v.frozen.blocks ≡ length table.parents
  pub sums : AreSums table (range_with_len 0 (length table.parents)) v.sums

-- the votes of all blocks of a table: no row is held but by the views, each as often as it is counted
abbrev pub AreVoted : Numbered → Tallied → Type 0
AreVoted table v = AreVotedBeside table v []

-- the votes of all blocks of a table, of which the last view is, whatever views stand before it
pub record AreWhole (table : Numbered) (v : Tallied) : Type 0 where
  pub frozen : HoldsFrozen table v.frozen
  pub views : AreViews table v.rows v.frozen.blocks v.views
  pub every : v.frozen.blocks ≡ length table.parents
  pub front : List Viewed
  pub all : Viewed
  pub is : v.views ≡ front ++ all ∷ []
  pub members : all.members ≡ range_with_len 0 (length table.parents)
  pub sums : AreSums table (range_with_len 0 (length table.parents)) v.sums

-- the view of all blocks, which is the last one
abbrev pub IsOfAll : Tallied → Viewed → Type 0
IsOfAll v view = (i : ℕ) × (slice_get v.views i ≡ Some view) × (i + 1 ≡ length v.views)

-- the view of a tip and its past
abbrev pub IsOfTip : Numbered → Tallied → ℕ → Viewed → Type 0
IsOfTip table v n view = (i : ℕ) × (slice_get v.views i ≡ Some view) × (i + 1 < length v.views) × (view.members ≡ bar_row table n)

-- where a pair had rows, and those of one side are the same in a set, in a larger one and in a third one, the row keeps its id
abbrev pub KeepIdsBy : Graph → List ℕ → List ℕ → List ℕ → ℕ → ℕ → Option (ℕ × ℕ) → Option (ℕ × ℕ) → Type 0
KeepIdsBy g set mid more x y None after = Unit {0}
KeepIdsBy g set mid more x y (Some before) None = ⊥
KeepIdsBy g set mid more x y (Some before) (Some after) =
    (plus g set x y ≡ plus g mid x y → plus g mid x y ≡ plus g more x y → after.0 ≡ before.0)
    × (minus g set x y ≡ minus g mid x y → minus g mid x y ≡ minus g more x y → after.1 ≡ before.1)

-- so it is for each pair of a table
abbrev pub AreKeptIdsBy : Numbered → List ℕ → List ℕ → List ℕ → List (Option (ℕ × ℕ)) → List (Option (ℕ × ℕ)) → Type 0
AreKeptIdsBy table set mid more entries entries' =
    (i x y : ℕ) → slice_get (pairs_of table) i ≡ Some (x, y) → KeepIdsBy (graph_of table) set mid more x y (entry_at entries i) (entry_at entries' i)

-- What the votes become where block b, the last one of a table, joins them. In the view of all blocks each row whose content stays keeps
-- its id. So it is in the new tip's view, beside the view that it was derived from, which is that one within b's past that has most
-- members. The views of the other tips stay, but for b's parents, as long as there are not too many: where one was let go, the last that
-- was so is an old view beside which the new ones were.
pub record Grew (table : Numbered) (b : ℕ) (old new : Tallied) : Type 0 where
  pub all : (view view' : Viewed) → IsOfAll old view → IsOfAll new view' → AreKeptIds table view.members view'.members view.entries view'.entries
  pub tip : (i : ℕ) (base view : Viewed) → IsBest old.views (past (graph_of table) b) i base → IsOfTip table new b view
      → AreKeptIdsBy table base.members (past (graph_of table) b) view.members base.entries view.entries
  pub since : old.since ≤ new.since
  pub others : (n : ℕ) (view : Viewed) → n < b → new.since ≤ n → IsOfTip table old n view → has (slice_index_or table.parents b []) n ≡ false → IsOfTip table new n view
  pub many : old.since < new.since → (n : ℕ) × (other : Viewed) × (n + 1 ≡ new.since) × IsOfTip table old n other × WereMany new.views other

-- ---- while the blocks of an arrival join

-- the view of no blocks
abbrev pub empty_view : Viewed
empty_view = record { members = []; entries = [] }

-- the live rows are the same ones, each counted as often and with the same places; how many more can be taken may differ
pub record AreSameRows (old new : Pool) : Type 0 where
  pub live : live new ≡ live old
  pub counts : (r : ℕ) → count_of new r ≡ count_of old r
  pub places : (r : ℕ) → 0 < count_of old r → row_of new r ≡ row_of old r

-- nothing changed but how many rows can be taken
pub record IsAsBefore (old new : Tallied) : Type 0 where
  pub frozen : new.frozen ≡ old.frozen
  pub views : new.views ≡ old.views
  pub since : new.since ≡ old.since
  pub rows : AreSameRows old.rows new.rows
  pub sums : new.sums ≡ old.sums

-- what stays of the rows of the view that a block's own was derived from keeps its id
abbrev pub IsDerived : Numbered → ℕ → List Viewed → Viewed → Type 0
IsDerived table b views tip =
    (i : ℕ) (base : Viewed) → IsBest views (past (graph_of table) b) i base
    → AreKeptIdsBy table base.members (past (graph_of table) b) tip.members base.entries tip.entries

-- block n alone has joined some views, and what stays of the rows of the view of all blocks keeps its id
pub record JoinedAlone (table : Numbered) (n : ℕ) (old : List Viewed) (was tip all : Viewed) : Type 0 where
  pub kept : AreKeptIds table was.members all.members was.entries all.entries
  pub derived : IsDerived table n old tip

-- The number from which on the tips among the blocks of an arrival have views, the first of which is block n: that number, or one behind it
-- where some views of these were let go, and then no tip below has one once the arrival is kept.
abbrev pub IsFrom : ℕ → Tallied → Tallied → ℕ → Type 0
IsFrom n old v from = ((from ≡ n) × (v.since ≡ old.since)) ⊎ ((n < from) × (v.since ≡ from) × (from < v.frozen.blocks))

-- Blocks from number n on have joined the votes of the first n blocks. The views of the old tips stand first, all of them,
-- then those of blocks that joined, and last that of all blocks; by the entries that are saved of it it can be put back to what
-- it was. The rows that the old views hold have their places. The sums are those of the view of all blocks, and those from
-- before that of what it was.
pub record AreJoining (table : Numbered) (n : ℕ) (old v : Tallied) (saved : List (Option (ℕ × ℕ))) : Type 0 where
  pub frozen : HoldsFrozen table v.frozen
  pub before : HoldsFrozen table old.frozen
  pub rows : AreRows old.frozen
  pub count : old.frozen.blocks ≡ n
  pub counted : (r : ℕ) → count_of old.rows r ≡ held_by old.views r
  pub sound : pooled.AreRows 0 old.rows.rows
  pub tips : AreOfTips table n old.since old.views
  pub later : n ≤ v.frozen.blocks
  pub views : AreViews table v.rows v.frozen.blocks v.views
  pub shared : AreShared table v.rows v.views saved
  pub olds : List Viewed
  pub few : length olds ≤ n
  pub was : Viewed
  pub old_is : old.views ≡ olds ++ was ∷ []
  pub firsts : was.members ≡ range_with_len 0 n
  pub asked : IsAsked (graph_of table) was.members
  pub once : (r : ℕ) → held was.entries r ≤ 1
  pub joined : List Viewed
  pub all : Viewed
  pub is : v.views ≡ olds ++ (joined ++ all ∷ [])
  pub saving : IsSaving saved all.entries
  pub patched_is : patched saved all.entries ≡ was.entries
  pub places : (r : ℕ) → 0 < held_by old.views r → row_of v.rows r ≡ row_of old.rows r
  pub sums : AreSums table all.members v.sums
  pub sums_before : AreSums table was.members old.sums

-- so they stand where each block that joined has its view, from a number on and but for those that another one covers, and that of all
-- blocks has them all
pub record HaveJoined (table : Numbered) (n : ℕ) (old v : Tallied) (saved : List (Option (ℕ × ℕ))) : Type 0 where
  pub joining : AreJoining table n old v saved
  pub every : v.frozen.blocks ≡ length table.parents
  pub from : ℕ
  pub from_is : IsFrom n old v from
  pub each : map (λ (view : Viewed). view.members) joining.joined ≡ map (bar_row table) (tips_from table.parents from)
  pub members : joining.all.members ≡ range_with_len 0 (length table.parents)
  pub none : v.frozen.blocks ≡ n → joining.all ≡ joining.was
  pub one : v.frozen.blocks ≡ n + 1 → (tip : Viewed) × (joining.joined ≡ tip ∷ []) × (v.since ≡ old.since) × JoinedAlone table n old.views joining.was tip joining.all

-- the same, of all blocks of a table but the last one, whose votes come next
pub record HaveJoinedBut (table : Numbered) (n : ℕ) (old v : Tallied) (saved : List (Option (ℕ × ℕ))) : Type 0 where
  pub joining : AreJoining table n old v saved
  pub last : v.frozen.blocks + 1 ≡ length table.parents
  pub from : ℕ
  pub from_is : IsFrom n old v from
  pub each : map (λ (view : Viewed). view.members) joining.joined ≡ map (bar_row table) (tips_from (take v.frozen.blocks table.parents) from)
  pub members : joining.all.members ≡ range_with_len 0 v.frozen.blocks
  pub none : v.frozen.blocks ≡ n → joining.all ≡ joining.was

-- ---- while a block joins

-- whether the highest of some blocks is a tip
abbrev pub is_top_tip : Numbered → List ℕ → Bool
is_top_tip table members = list_any (λ z. is_tip table.parents z && list_all (λ k. nat_le k z) members) members

-- whether a view is of a tip, or of all blocks, of which the last one is a tip
abbrev pub is_uncovered : Numbered → Viewed → Bool
is_uncovered table view = is_top_tip table view.members

-- the last one of some views is that of all blocks below a number
pub record IsLast (n : ℕ) (views : List Viewed) : Type 0 where
  pub front : List Viewed
  pub all : Viewed
  pub is : views ≡ front ++ all ∷ []
  pub members : all.members ≡ range_with_len 0 n

-- the last one of some views took block b, and another view stands before it; of what that one was enough is saved
pub record IsPut (table : Numbered) (b : ℕ) (old : List Viewed) (tip : Viewed) (new : List Viewed) (saved saved' : List (Option (ℕ × ℕ))) : Type 0 where
  pub front : List Viewed
  pub all : Viewed
  pub more : Viewed
  pub old_is : old ≡ front ++ all ∷ []
  pub new_is : new ≡ front ++ tip ∷ more ∷ []
  pub members : more.members ≡ range_with_len 0 (b + 1)
  pub kept : AreKeptIds table all.members more.members all.entries more.entries
  pub saving : IsSaving saved' more.entries
  pub patched_is : patched saved' more.entries ≡ patched saved all.entries

-- ---- while views are let go

-- the number from which on the tips behind a place have views, and what a caller knows of it, once some may have been let go
abbrev pub IsLater : ℕ → ℕ → ℕ → ℕ → ℕ → Type 0
IsLater blocks from from' since since' = ((from' ≡ from) × (since' ≡ since)) ⊎ ((from < from') × (since' ≡ from') × (from' < blocks))

-- the rows of a pool and some views took too much while another view stood beside them
pub record WereBeside (rows : Pool) (views : List Viewed) (other : Viewed) : Type 0 where
  pub pool : Pool
  pub sound : pooled.AreRows 0 pool.rows
  pub counts : (row : ℕ) → count_of pool row ≡ count_of rows row + held other.entries row
  pub more : most_bytes < bytes_of pool (other ∷ views)

-- Of the views behind a front, which are of the tips from a number on and of all blocks, those are left of the tips from a later one on,
-- as they were. Where one was let go, the others that are left and the last one that was took too much.
pub record AreLeft (table : Numbered) (front tips : List Viewed) (all : Viewed) (from since : ℕ) (rows : Pool) (views : List Viewed) (since' : ℕ) : Type 0 where
  pub left : List Viewed
  pub is : views ≡ front ++ (left ++ all ∷ [])
  pub from' : ℕ
  pub each : map (λ (view : Viewed). view.members) left ≡ map (bar_row table) (tips_from table.parents from')
  pub later : IsLater (length table.parents) from from' since since'
  pub there : (i : ℕ) (view : Viewed) → slice_get left i ≡ Some view → (j : ℕ) × (slice_get tips j ≡ Some view)
  pub stay : (i t : ℕ) (view : Viewed) → slice_get tips i ≡ Some view → view.members ≡ bar_row table t → t < length table.parents → from' ≤ t → (j : ℕ) × (slice_get left j ≡ Some view)
  pub many : from < from' → (t i : ℕ) × (other : Viewed) × (t + 1 ≡ from') × (slice_get tips i ≡ Some other) × (other.members ≡ bar_row table t) × WereBeside rows views other
