use Rattle.sp_watch.proofs.Told.{all_held, all_written, one_more}
use Rattle.sp_watch.proofs.laws.lines_are_of_arrivals.Goals as goal

pub returns-clause-arrival : goal.returns-clause-arrival
returns-clause-arrival c = one_more

pub returns-clause-lines : goal.returns-clause-lines
returns-clause-lines c = all_written

pub returns-clause-held : goal.returns-clause-held
returns-clause-held c = all_held
