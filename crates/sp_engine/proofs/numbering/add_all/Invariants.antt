use Rattle.std.proofs.Common.{◌≡◌, ◌≤◌, ◌+◌, ◌++◌, ℕ, length, take, drop}
use Rattle.sp_pool.specs.Kept.{Releases}
use Rattle.sp_accept.specs.Acceptance.{Acceptance, IsRight}
use Rattle.sp_accept.specs.Changes.{carriers_below}
use Rattle.sp_engine.specs.Engine.{AreCarried, AreNumbered, first_carried, first_numbered, GoesOn}
use Rattle.sp_engine.specs.Votes.{HaveJoined, Tallied}
use Rattle.sp_engine.proofs.numbering.add_all.Given as goal

abbrev pub invariant-loop-id : goal.invariant-loop-id
invariant-loop-id l = record {
  numbered : AreNumbered l.pool l.dag;
  profile : l.dag.profile ≡ l.fn.dag.profile;
  joined : (n : ℕ) (old : Tallied) → HaveJoined l.fn.dag n old l.fn.votes l.fn.saved → l.tips + 1 ≡ length old.views → HaveJoined l.dag n old l.votes l.saved;
  front : (n : ℕ) → n ≤ length l.fn.dag.parents → first_numbered l.dag n ≡ first_numbered l.fn.dag n;
  wider : length l.fn.dag.parents ≤ length l.dag.parents;
  first : (n : ℕ) → n ≤ l.fn.carriers.blocks → first_carried l.carriers n ≡ first_carried l.fn.carriers n;
  carried : AreCarried l.pool l.dag l.carriers;
  ids : l.dag.ids ≡ l.fn.dag.ids ++ take l.id-index l.ids;
  order : Releases l.pool l.dag.ids (drop l.id-index l.ids);
  more : GoesOn l.fn.carriers.txs l.carriers.txs;
  right : (a : Acceptance) → IsRight l.fn.dag l.fn.carriers a → IsRight l.dag l.carriers a;
  longer : l.fn.carriers.blocks ≤ l.carriers.blocks;
  below : (n : ℕ) → n ≤ l.fn.carriers.blocks → carriers_below l.carriers.rows n ≡ carriers_below l.fn.carriers.rows n;
}
