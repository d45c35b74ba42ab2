use Rattle.sp_block.proofs.Ascent.{sort_is_ascending}
use Rattle.sp_block.proofs.draft.sorted.Goals as goal

pub returns-clause-items : goal.returns-clause-items
returns-clause-items c = sort_is_ascending c.args.ids.now c.sort_unstable.new.self.items (rw (← c.in_ok-sorted.ensures.items) c.sort_unstable.ensures.permutation) c.sort_unstable.ensures.sorted
