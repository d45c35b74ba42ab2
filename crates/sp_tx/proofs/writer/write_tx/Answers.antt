use Rattle.sp_form.proofs.Texts.{is_spelled}
use Rattle.sp_tx.specs.Format.{tx_form}
use Rattle.sp_tx.specs.Spelling.{IsTx, spelling}
use Rattle.sp_tx.proofs.Spelled.{tx_spelled}
use Rattle.sp_tx.proofs.writer.write_tx.Goals as goal

pub returns-in_err-reserve-clause-spells : goal.returns-in_err-reserve-clause-spells
returns-in_err-reserve-clause-spells c = is_spelled tx_form spelling IsTx tx_spelled c.args.tx.now c.written_len.ensures.valid

pub returns-clause-spells : goal.returns-clause-spells
returns-clause-spells c = is_spelled tx_form spelling IsTx tx_spelled c.args.tx.now c.written_len.ensures.valid
