use Rattle.sp_journal.proofs.RecordLaws.{journal_is_written}
use Rattle.sp_journal.proofs.laws.journals_are_written.Goals as goal

pub returns : goal.returns
returns c = journal_is_written
