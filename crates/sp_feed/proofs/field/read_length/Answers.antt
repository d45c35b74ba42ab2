use Rattle.std.proofs.Common.{◌∷◌, [], ap, sym, ◌∙◌}
use Rattle.std.proofs.lemmas.Result.{err_from_is_err_and}
use Rattle.std.specs.Int.{w32, from_le_bytes}
use Rattle.sp_form.specs.Form.{rule}
use Rattle.sp_feed.specs.Format.{broken}
use Rattle.sp_feed.specs.Kinds.{allows}
use Rattle.sp_feed.proofs.Reading.{met, reads_faulty, reads_field, reads_short, unmet}
use Rattle.sp_feed.proofs.field.read_length.Goals as goal

pub returns-in_err-fill-clause-reads : goal.returns-in_err-fill-clause-reads
returns-in_err-fill-clause-reads g c =
    let p = err_from_is_err_and c.from_residual.result c.from_residual.ensures.1 in
    rw (p.1, p.2) (reads_short 4 (λ bytes. rule (allows c.args.kind (from_le_bytes w32 bytes)) broken ∷ []) (from_le_bytes w32) (λ n. n) c.in_err-fill.ensures.fills c.fill.auto.out)

pub returns-then-allows-clause-reads : goal.returns-then-allows-clause-reads
returns-then-allows-clause-reads g c = reads_field 4 (λ bytes. rule (allows c.args.kind (from_le_bytes w32 bytes)) broken ∷ []) (from_le_bytes w32) (λ n. n) c.from_le_bytes-length.result c.in_ok-fill.ensures.fills c.fill.auto.out (met (allows c.args.kind (from_le_bytes w32 c.fill.new.out)) (ap (allows c.args.kind) (sym c.from_le_bytes-length.ensures) ∙ sym c.allows.ensures.value ∙ c.if-allows.true)) (sym c.from_le_bytes-length.ensures)

pub returns-else-allows-clause-reads : goal.returns-else-allows-clause-reads
returns-else-allows-clause-reads g c = reads_faulty 4 (λ bytes. rule (allows c.args.kind (from_le_bytes w32 bytes)) broken ∷ []) (from_le_bytes w32) (λ n. n) broken c.in_ok-fill.ensures.fills c.fill.auto.out (unmet (allows c.args.kind (from_le_bytes w32 c.fill.new.out)) (ap (allows c.args.kind) (sym c.from_le_bytes-length.ensures) ∙ sym c.allows.ensures.value ∙ c.if-allows.false))
