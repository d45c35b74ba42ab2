use Rattle.std.proofs.Common.{◌≡◌, ℕ, replicate, ap, ◌∙◌, arith}
use Rattle.sp_rows.proofs.chunk.Chunk.new.Goals as goal

pub returns : goal.returns
returns c = let all : c.words.index ≡ 2048 = omega arith in c.words.invariant.1 ∙ ap (λ (n : ℕ). replicate {A = ℕ} n 0) all
