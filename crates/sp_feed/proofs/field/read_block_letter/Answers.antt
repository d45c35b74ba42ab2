use Rattle.std.proofs.Common.{◌∷◌, [], eqb, refl}
use Rattle.std.proofs.lemmas.Result.{err_from_is_err_and}
use Rattle.std.proofs.lemmas.Bool.{eq-eqb, ne_eqb}
use Rattle.sp_form.specs.Form.{rule}
use Rattle.sp_form.specs.Values.{byte}
use Rattle.sp_feed.specs.Format.{broken}
use Rattle.sp_feed.proofs.Reading.{met, reads_faulty, reads_field, reads_short, unmet}
use Rattle.sp_feed.proofs.field.read_block_letter.Goals as goal

pub returns-in_err-fill-clause-reads : goal.returns-in_err-fill-clause-reads
returns-in_err-fill-clause-reads g c =
    let p = err_from_is_err_and c.from_residual.result c.from_residual.ensures.1 in
    rw (p.1, p.2) (reads_short 1 (λ bytes. rule (eqb (byte bytes) 66) broken ∷ []) byte (λ letter. letter) c.in_err-fill.ensures.fills c.fill.auto.out)

pub returns-then-bytes-eq66-clause-reads : goal.returns-then-bytes-eq66-clause-reads
returns-then-bytes-eq66-clause-reads g c = reads_field 1 (λ bytes. rule (eqb (byte bytes) 66) broken ∷ []) byte (λ letter. letter) (byte c.fill.new.out) c.in_ok-fill.ensures.fills c.fill.auto.out (met (eqb (byte c.fill.new.out) 66) (eq-eqb (byte c.fill.new.out) 66 c.if-bytes-eq66.true)) refl

pub returns-else-bytes-eq66-clause-reads : goal.returns-else-bytes-eq66-clause-reads
returns-else-bytes-eq66-clause-reads g c = reads_faulty 1 (λ bytes. rule (eqb (byte bytes) 66) broken ∷ []) byte (λ letter. letter) broken c.in_ok-fill.ensures.fills c.fill.auto.out (unmet (eqb (byte c.fill.new.out) 66) (ne_eqb (byte c.fill.new.out) 66 c.if-bytes-eq66.false))
