use Rattle.std.proofs.Common.{append_assoc}
use Rattle.sp_block.proofs.draft.put_head.Goals as goal

pub returns : goal.returns
returns c =
    rw (c.in_ok-extend_from_slice-2.ensures.items, c.to_le_bytes-2.ensures, c.in_ok-extend_from_slice.ensures.items, c.to_le_bytes.ensures, c.in_ok-push.ensures.items) (simp append_assoc)
