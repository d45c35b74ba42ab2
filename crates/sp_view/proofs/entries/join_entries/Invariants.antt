use Rattle.std.proofs.Common.{◌≡◌, ◌<◌, ◌≤◌, ◌+◌, ◌-◌, ◌*◌, ℕ, length, take}
use Rattle.std.specs.Prelude.{vec_len}
use Rattle.sp_dag.specs.Numbered.{graph_of, pairs_of}
use Rattle.sp_view.specs.Idle.{IsPlace}
use Rattle.sp_view.specs.Stored.{count_of, row_of, spare, live}
use Rattle.sp_view.specs.Moving.{moved_rows}
use Rattle.sp_view.specs.Saved.{patched, AreCountedWith}
use Rattle.sp_view.specs.Views.{entry_at, held, AreFresh, AreKeptIds}
use Rattle.sp_view.proofs.Held.{AreEntriesTo}
use Rattle.sp_view.proofs.KeptSums.{AreSumsTo}
use Rattle.sp_view.proofs.entries.join_entries.Given as goal

abbrev pub invariant-pairs : goal.invariant-pairs
invariant-pairs l = record {
  at : IsPlace l.join.set.dag.now l.join.b l.place.pair l.place.second l.place.end l.place.above l.place.free;
  long : vec_len l.entries ≡ vec_len l.fn.entries;
  unturned : (j : ℕ) → l.place.pair ≤ j → entry_at l.entries.items j ≡ entry_at l.fn.entries.items j;
  entry : AreEntriesTo l.join.set.dag.now l.join.before.now l.join.set.members.now l.place.pair l.pool l.entries.items;
  kept : AreKeptIds l.join.set.dag.now l.join.before.now l.join.set.members.now l.fn.entries.items l.entries.items;
  counts : AreCountedWith l.fn.pool l.pool l.fn.entries.items l.fn.saved l.entries.items l.saved;
  others : (r : ℕ) → held l.fn.entries.items r < count_of l.fn.pool r → row_of l.pool r ≡ row_of l.fn.pool r;
  alive : (r : ℕ) → 0 < count_of l.fn.pool r → 0 < count_of l.pool r;
  once : (r : ℕ) → held l.entries.items r ≤ 1;
  fresh : AreFresh l.fn.entries.items l.entries.items l.fn.pool l.pool;
  as_long : length l.sums ≡ length l.fn.sums;
  sums : AreSumsTo l.join.set.dag.now l.join.before.now l.join.set.members.now l.place.pair l.sums;
  live : live l.pool ≤ live l.fn.pool + moved_rows (graph_of l.join.set.dag.now) l.join.before.now l.join.set.members.now (take l.place.pair (pairs_of l.join.set.dag.now));
  patched_is : patched l.saved l.entries.items ≡ patched l.fn.saved l.fn.entries.items;
  saved_rows : (r : ℕ) → 0 < held (patched l.fn.saved l.fn.entries.items) r → row_of l.pool r ≡ row_of l.fn.pool r;
  more : (r : ℕ) → held l.fn.saved r ≤ held l.saved r;
  few : (r : ℕ) → count_of l.pool r ≤ count_of l.fn.pool r + 4 * l.place.pair;
  room : spare l.fn.pool ≤ spare l.pool + moved_rows (graph_of l.join.set.dag.now) l.join.before.now l.join.set.members.now (take l.place.pair (pairs_of l.join.set.dag.now));
}

abbrev pub decreases-pairs : goal.decreases-pairs
decreases-pairs l = l.end - l.place.pair
