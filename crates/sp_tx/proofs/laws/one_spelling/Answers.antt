use Rattle.sp_form.proofs.Texts.{is_spelled, only_text}
use Rattle.sp_tx.specs.Format.{tx_form}
use Rattle.sp_tx.specs.Spelling.{IsTx, spelling}
use Rattle.sp_tx.proofs.Lengths.{spelling_short}
use Rattle.sp_tx.proofs.Spelled.{tx_spelled}
use Rattle.sp_tx.proofs.laws.one_spelling.Goals as goal

pub returns-clause-is_spelled : goal.returns-clause-is_spelled
returns-clause-is_spelled c = is_spelled tx_form spelling IsTx tx_spelled

pub returns-clause-only : goal.returns-clause-only
returns-clause-only c = only_text tx_form spelling IsTx tx_spelled

pub returns-clause-short : goal.returns-clause-short
returns-clause-short c = spelling_short
