use Rattle.sp_disk.proofs.Moves.{more_by, syncs}
use Rattle.sp_disk.proofs.mem_disk.MemDiskDisk.sync.Goals as goal

pub returns-clause-syncs : goal.returns-clause-syncs
returns-clause-syncs c = syncs c.args.self.now c.note_synced.new.self (more_by _ _ _ _ _ c.is_planned.ensures.counted c.note_synced.ensures)
