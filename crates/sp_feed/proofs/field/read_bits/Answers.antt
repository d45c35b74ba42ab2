use Rattle.std.proofs.Common.{◌∷◌, [], leb, refl}
use Rattle.std.proofs.lemmas.Result.{err_from_is_err_and}
use Rattle.std.proofs.lemmas.Bool.{le-leb, lt-leb}
use Rattle.sp_form.specs.Form.{rule}
use Rattle.sp_form.specs.Values.{byte}
use Rattle.sp_feed.specs.Format.{broken}
use Rattle.sp_feed.proofs.Reading.{met, reads_faulty, reads_field, reads_short, unmet}
use Rattle.sp_feed.proofs.field.read_bits.Goals as goal

pub returns-in_err-fill-clause-reads : goal.returns-in_err-fill-clause-reads
returns-in_err-fill-clause-reads g c =
    let p = err_from_is_err_and c.from_residual.result c.from_residual.ensures.1 in
    rw (p.1, p.2) (reads_short 1 (λ bytes. rule (leb (byte bytes) 64) broken ∷ []) byte (λ bits. bits) c.in_err-fill.ensures.fills c.fill.auto.out)

pub returns-then-bytes-le64-clause-reads : goal.returns-then-bytes-le64-clause-reads
returns-then-bytes-le64-clause-reads g c = reads_field 1 (λ bytes. rule (leb (byte bytes) 64) broken ∷ []) byte (λ bits. bits) (byte c.fill.new.out) c.in_ok-fill.ensures.fills c.fill.auto.out (met (leb (byte c.fill.new.out) 64) (le-leb (byte c.fill.new.out) 64 c.if-bytes-le64.true)) refl

pub returns-else-bytes-le64-clause-reads : goal.returns-else-bytes-le64-clause-reads
returns-else-bytes-le64-clause-reads g c = reads_faulty 1 (λ bytes. rule (leb (byte bytes) 64) broken ∷ []) byte (λ bits. bits) broken c.in_ok-fill.ensures.fills c.fill.auto.out (unmet (leb (byte c.fill.new.out) 64) (lt-leb (byte c.fill.new.out) 64 c.if-bytes-le64.false))
