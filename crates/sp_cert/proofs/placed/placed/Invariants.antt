use Rattle.std.proofs.Common.{◌≡◌, ◌<◌, ℕ, map, take, true}
use Rattle.sp_block.specs.Block.{ReadBlock}
use Rattle.sp_pool.specs.Kept.{ids_of}
use Rattle.sp_cert.specs.Refusals.{is_placed, table_of}
use Rattle.sp_cert.proofs.placed.placed.Given as goal

abbrev pub invariant-places : goal.invariant-places
invariant-places l = record {
  own : l.dag.profile ≡ l.fn.profile;
  ids : l.dag.ids ≡ take l.place (ids_of l.blocks);
  salts : l.dag.salts ≡ take l.place (map (λ (b : ReadBlock). b.salt) l.blocks);
  parents : l.dag.parents ≡ take l.place (table_of l.blocks);
  placed : (k : ℕ) → k < l.place → is_placed l.blocks k ≡ true;
}
