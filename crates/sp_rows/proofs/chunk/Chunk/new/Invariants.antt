use Rattle.std.proofs.Common.{◌≡◌, replicate}
use Rattle.sp_rows.proofs.chunk.Chunk.new.Given as goal

abbrev pub invariant-words : goal.invariant-words
invariant-words l = (l.owned.at ≡ l.start.ptr) × (l.owned.words ≡ replicate l.index 0)
