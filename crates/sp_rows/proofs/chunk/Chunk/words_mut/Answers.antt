use Rattle.std.proofs.Common.{length, ap, ◌∙◌, arith, refl, List, ℕ}
use Rattle.sp_rows.specs.Rows.{row_of, with_row_of}
use Rattle.sp_rows.proofs.Runs.{length-row_of}
use Rattle.sp_rows.proofs.chunk.Chunk.words_mut.Goals as goal

pub returns : goal.returns
returns c =
    let row = c.args.row in (
      (refl, λ own. ap (λ (l : List ℕ). with_row_of l row own) c.self.view_is),
      record {
        writes_back = tt;
        value = c.eight_mut.ensures.value ∙ ap (λ (l : List ℕ). row_of l row) c.self.view_is;
        eight = ap length c.eight_mut.ensures.value ∙ length-row_of c.self.inside.owned.words row (omega (arith, c.self.invariant.1, c.requires));
      },
    )
