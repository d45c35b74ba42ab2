-- What each call of a disk in memory does to it, as the trait says it.
use Rattle.std.proofs.Common.{◌≡◌, ℕ, ◌≤◌, true, false, List, [], ◌∷◌, ◌++◌, length, take, Option, Some, Ok, Err, refl, sym, ap, subst, ◌∙◌, arith, length-append}
use Rattle.sp_form.specs.Bytes.{IsBytes}
use Rattle.sp_io.specs.declared.failed.Failed.{Failed}
use Rattle.sp_disk.specs.Images.{Among, EachComesBy, EachIs, PartlyWritten, written}
use Rattle.sp_disk.specs.Moments.{Elapses, Moment, Reads, Syncs, Writes}
use Rattle.sp_disk.specs.Pending.{IsImage, State, state}
use Rattle.sp_disk.specs.History.{after, Event, Keeping, moment_of, state_after, state_of, Sync, told, WasLeft, WasLeftAt, Write}
use Rattle.sp_disk.specs.Sound.{is_long, read_image, starts_long, told_bytes, told_only, written_bytes}
use Rattle.sp_disk.proofs.Recorded.{agree_same, agree_written, one_more, state-push, still_among, still_was, synced_only, was_at, was_or_is, write_follows}
use Rattle.sp_disk.proofs.Partly.{unchanged}

-- one event more was recorded
pub record IsMore (k k' : Keeping) (event : Event) : Type 0 where
  pub start : k'.start ≡ k.start
  pub events : k'.events ≡ k.events ++ event ∷ []

module _ (k k' : Keeping) (event : Event) (more : IsMore k k' event) where
  pub state_is : state_of k' ≡ after (state_of k) event
  state_is = (λ i. state_after (more.start i) (more.events i)) ∙ state-push k.start k.events event

  pub elapses : Elapses (moment_of k) (moment_of k')
  elapses = subst (λ (m : Moment). Elapses (moment_of k) m) (λ i. record {
    reads = told (state_after (sym more.start i) (sym more.events i)).reads;
    images = IsImage (state_after (sym more.start i) (sym more.events i));
    clock = length (sym more.events i);
    at = WasLeftAt (sym more.start i) (sym more.events i);
    since = WasLeft (sym more.start i) (sym more.events i);
    faults = k'.faults;
  }) (record {
    later = omega (arith, length-append k.events (event ∷ []));
    since = λ t le image left. was_or_is k.start k.events event t image left;
    keeps = λ t le image left. still_was k.start k.events event t image left;
    ebbs = record {
      later = omega (arith, length-append k.events (event ∷ []));
      past = λ t le. was_at k.start k.events event t le;
      falls = λ t u past le until image left. one_more k.start k.events event t u past le image left;
    };
  })

  -- where the call takes no image away
  pub within : Among (IsImage (state_of k)) (IsImage (state_of k')) → (t : ℕ) → length k.events ≤ t → t ≤ length k'.events → Among (IsImage (state_of k)) (WasLeftAt k'.start k'.events t)
  within fewer t from until image left =
      still_among k.start k.events event (λ i l. fewer i (subst (λ (s : State). IsImage s i) (state-push k.start k.events event ∙ sym state_is) l)) t from image
      (subst (λ (es : List Event). IsImage (state_after k.start (take t es)) image) more.events (subst (λ (start : List ℕ). IsImage (state_after start (take t k'.events)) image) more.start left))

-- a sync that succeeded
pub syncs : (k k' : Keeping) → IsMore k k' Sync → Syncs {T = Unit {0}} {E = Failed} (moment_of k) (moment_of k') (Ok tt)
syncs k k' more =
    let s = state_of k in
    let is : state_of k' ≡ state s.reads s.reads [] = state_is k k' Sync more in
    let one : (image : List ℕ) → IsImage (state_of k') image → image ≡ s.reads = λ image left. synced_only s.reads image (subst (λ (t : State). IsImage t image) is left) in
    let fewer : Among (IsImage s) (IsImage (state_of k')) = λ image left.
    let same = one image left in
    let bytes : IsBytes s.reads = subst IsBytes same left.bytes in
    subst (IsImage s) (sym same) (read_image s (is_long (state k.start k.start []) k.events (starts_long k.start)) bytes) in
    record {
      ok = told_only s.reads (λ bytes. EachIs bytes (IsImage (state_of k'))) (λ bytes. one);
      looks = record {
        reads = ap (λ (t : State). told t.reads) is;
        crash = fewer;
        within = within k k' Sync more fewer;
        time = elapses k k' Sync more;
      };
    }

module _ (k k' : Keeping) (at : ℕ) (bytes : List ℕ) (are_bytes : IsBytes (state_of k).reads) (done_bytes : IsBytes bytes) where
  reads_known : told (state_of k).reads ≡ Some (state_of k).reads
  reads_known = told_bytes (state_of k).reads are_bytes

  -- a write that was done
  pub writes_done : IsMore k k' (Write at bytes true) → Writes {T = Unit {0}} {E = Failed} at bytes (moment_of k) (moment_of k') (Ok tt)
  writes_done more =
      let s = state_of k in
      let now = written s.reads at bytes in
      let is = state_is k k' (Write at bytes true) more in
      let long = is_long (state k.start k.start []) k.events (starts_long k.start) in
      let new_bytes : IsBytes now = written_bytes s.reads at bytes are_bytes done_bytes in
      let reads : told (state_of k').reads ≡ Some now = ap (λ (t : State). told t.reads) is ∙ told_bytes now new_bytes in
      record {
        ok = subst (λ (o : Option (List ℕ)). Reads (λ before after. after ≡ written before at bytes) o (told (state_of k').reads)) (sym reads_known) (now, reads, refl);
        err = tt;
        crash = subst (λ (t : State). EachComesBy (PartlyWritten at (length bytes)) (IsImage s) (IsImage t)) (sym is) (write_follows s at bytes now are_bytes (agree_written at (length s.synced) bytes s.reads long.low));
        time = elapses k k' (Write at bytes true) more;
      }

  -- one that wasn't
  pub writes_undone : IsMore k k' (Write at bytes false) → Writes {T = Unit {0}} {E = Failed} at bytes (moment_of k) (moment_of k') (Err record {})
  writes_undone more =
      let s = state_of k in
      let is = state_is k k' (Write at bytes false) more in
      let reads : told (state_of k').reads ≡ Some s.reads = ap (λ (t : State). told t.reads) is ∙ reads_known in
      record {
        ok = tt;
        err = subst (λ (o : Option (List ℕ)). Reads (PartlyWritten at (length bytes)) o (told (state_of k').reads)) (sym reads_known) (s.reads, reads, unchanged at (length bytes) s.reads);
        crash = subst (λ (t : State). EachComesBy (PartlyWritten at (length bytes)) (IsImage s) (IsImage t)) (sym is) (write_follows s at bytes s.reads are_bytes (agree_same at (length bytes) (length s.synced) s.reads));
        time = elapses k k' (Write at bytes false) more;
      }

-- a call that was counted and then recorded
pub more_by : (k mid k' : Keeping) (event : Event) (calls : ℕ) → mid ≡ record k { calls = calls } → k' ≡ record mid { events = mid.events ++ event ∷ [] } → IsMore k k' event
more_by k mid k' event calls counted noted = record {
  start = ap (λ (x : Keeping). x.start) noted ∙ ap (λ (x : Keeping). x.start) counted;
  events = ap (λ (x : Keeping). x.events) noted ∙ ap (λ (x : Keeping). x.events ++ event ∷ []) counted;
}

-- and one that was refused after that
pub more_but : (k mid k' : Keeping) (event : Event) (faults : ℕ) → IsMore k mid event → k' ≡ record mid { faults = faults } → IsMore k k' event
more_but k mid k' event faults more refused = record {
  start = ap (λ (x : Keeping). x.start) refused ∙ more.start;
  events = ap (λ (x : Keeping). x.events) refused ∙ more.events;
}

-- counting a call leaves what is read
pub reads_same : (k mid : Keeping) (calls : ℕ) → mid ≡ record k { calls = calls } → (state_of mid).reads ≡ (state_of k).reads
reads_same k mid calls counted = ap (λ (x : Keeping). (state_of x).reads) counted
