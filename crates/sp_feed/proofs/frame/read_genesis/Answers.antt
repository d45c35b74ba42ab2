use Rattle.std.proofs.Common.{◌≡◌, List, [], ◌∷◌, ℕ, length, refl, sym, ap, subst, true, false}
use Rattle.std.proofs.lemmas.Result.{err_from_is_err_and}
use Rattle.sp_form.specs.Form.{rule}
use Rattle.sp_form.specs.Reading.{IsCause}
use Rattle.sp_block.specs.Block.{parts_of, ReadBlock}
use Rattle.sp_block.specs.Spelling.{HasBlockFault}
use Rattle.sp_block.specs.Judged.{is_block}
use Rattle.sp_block.proofs.Judged.{faulty_block, spelled_block}
use Rattle.sp_feed.specs.Format.{back_form, broken, head_of}
use Rattle.sp_feed.proofs.Joining.{head_err, head_memory, head_ok, reads_last, reads_stop}
use Rattle.sp_feed.proofs.Judged.{reads_judged}
use Rattle.sp_feed.proofs.Reading.{met, reads_faulty, reads_field, reads_short, unmet}
use Rattle.sp_feed.proofs.frame.read_genesis.Goals as goal

pub returns-in_err-fill-clause-reads : goal.returns-in_err-fill-clause-reads
unfolding back_form
returns-in_err-fill-clause-reads g c =
    let p = err_from_is_err_and c.from_residual.result c.from_residual.ensures.1 in
    rw (p.1, p.2) (head_err (reads_stop _ (reads_short (length c.args.payload.now) (λ bytes. rule (is_block true bytes) broken ∷ []) (λ bytes. bytes) (λ (out : List ℕ). out) c.in_err-fill.ensures.fills c.fill.auto.out)))

pub returns-in-Ok-clause-reads : goal.returns-in-Ok-clause-reads
unfolding back_form
returns-in-Ok-clause-reads g c =
    let out = c.fill.new.out in
    let bits = c.args.bits in
    let is : is_block true out ≡ true = spelled_block true out (parts_of c.in-Ok.genesis) c.in-Ok.ensures.found in
    let same : out ≡ c.in-Ok.genesis.bytes = sym (ap (λ (b : ReadBlock). b.bytes) c.in-Ok.ensures.block) in
    head_ok (reads_last (head_of c.args.profile bits) _ (reads_field (length c.args.payload.now) (λ bytes. rule (is_block true bytes) broken ∷ []) (λ bytes. bytes) (λ (out : List ℕ). out) out c.in_ok-fill.ensures.fills c.fill.auto.out (met (is_block true out) is) refl) (ap (head_of c.args.profile bits) same))

pub returns-in-Err-Fault-clause-reads : goal.returns-in-Err-Fault-clause-reads
unfolding back_form
returns-in-Err-Fault-clause-reads g c =
    let out = c.fill.new.out in
    let fault : HasBlockFault out true c.in-Err-Fault.field-0-0 = subst (IsCause (HasBlockFault out true)) c.in-Err-Fault.field-0-is c.in-Err-Fault.ensures.fault in
    let is : is_block true out ≡ false = faulty_block true out c.in-Err-Fault.field-0-0 fault in
    head_err (reads_stop _ (reads_faulty (length c.args.payload.now) (λ bytes. rule (is_block true bytes) broken ∷ []) (λ bytes. bytes) (λ (out : List ℕ). out) broken c.in_ok-fill.ensures.fills c.fill.auto.out (unmet (is_block true out) is)))

pub returns-in-Err-Memory-clause-reads : goal.returns-in-Err-Memory-clause-reads
unfolding back_form
returns-in-Err-Memory-clause-reads g c =
    head_memory (reads_judged (length c.args.payload.now) (is_block true) (head_of c.args.profile c.args.bits) c.in_ok-fill.ensures.fills c.fill.auto.out).1
