use Rattle.std.proofs.lemmas.Result.{err_from_is_err_and}
use Rattle.sp_tx.specs.declared.fault.TxFault.TheVariants.{PreimageLength, Short}
use Rattle.sp_form.specs.Values.{bytes_form, count_form}
use Rattle.sp_tx.specs.Format.{preimage_form}
use Rattle.sp_form.proofs.Steps.{goes_on, stops_later}
use Rattle.sp_tx.proofs.reader.TxReader.preimage.Goals as goal

pub returns-in_err-bytes : goal.returns-in_err-bytes
unfolding preimage_form
returns-in_err-bytes c =
    let p = err_from_is_err_and c.from_residual-in_err-bytes.result c.from_residual-in_err-bytes.ensures.1 in
    rw (p.1, p.2) (stops_later (count_form Short 1 64 PreimageLength) (λ n. bytes_form n Short) c.args.self.now c.in_ok-size.size c.count.new.self c.in_err-bytes.field-0.0 c.in_ok-size.ensures c.in_err-bytes.ensures.read)

pub returns : goal.returns
unfolding preimage_form
returns c = rw (c.of.ensures, c.in_ok-from_slice.ensures.items) (goes_on (count_form Short 1 64 PreimageLength) (λ n. bytes_form n Short) c.args.self.now c.in_ok-size.size c.count.new.self _ c.in_ok-size.ensures c.in_ok-bytes.ensures.read)
