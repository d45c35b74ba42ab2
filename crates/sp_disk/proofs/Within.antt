-- The images of the moments within a call: those before a write are images behind it, and those behind a sync
-- were images before it.
use Rattle.std.proofs.Common.{ℕ, Bool, true, false, List, [], length, sym, subst, ◌∙◌, arith}
use Rattle.sp_form.specs.Bytes.{IsBytes}
use Rattle.sp_disk.specs.Images.{Among}
use Rattle.sp_disk.specs.Pending.{IsImage, state}
use Rattle.sp_disk.specs.History.{after, Keeping, range_of, state_of, Sync, Write}
use Rattle.sp_disk.specs.Sound.{is_long, IsLong, reach-push, read_image, starts_long}
use Rattle.sp_disk.proofs.Outcomes.{free_parts}
use Rattle.sp_disk.proofs.Recorded.{agree_written, synced_only}

module _ (k : Keeping) where
  long : IsLong (state_of k)
  long = is_long (state k.start k.start []) k.events (starts_long k.start)

  pub grows : (at : ℕ) (bytes : List ℕ) (done : Bool) → Among (IsImage (after (state_of k) (Write at bytes done))) (IsImage (state_of k))
  grows at bytes true image left =
      let s = state_of k in
      record {
        bytes = left.bytes;
        no_shorter = left.no_shorter;
        no_longer = omega (arith, left.no_longer, reach-push (length s.synced) s.pending (range_of at bytes));
        same = λ place inside free.
            let parts = free_parts s.pending (range_of at bytes) place free in
            left.same place inside parts.0 ∙ sym (agree_written at (length s.synced) bytes s.reads long.low place inside parts.1);
      }
  grows at bytes false image left =
      let s = state_of k in
      record {
        bytes = left.bytes;
        no_shorter = left.no_shorter;
        no_longer = omega (arith, left.no_longer, reach-push (length s.synced) s.pending (range_of at bytes));
        same = λ place inside free. left.same place inside (free_parts s.pending (range_of at bytes) place free).0;
      }

  pub shrinks : Among (IsImage (state_of k)) (IsImage (after (state_of k) Sync))
  shrinks image left =
      let s = state_of k in
      let same = synced_only s.reads image left in
      subst (IsImage s) (sym same) (read_image s long (subst IsBytes same left.bytes))
