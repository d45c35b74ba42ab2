-- Each outcome of a crash that a disk in memory makes is one of its images.
use Rattle.std.proofs.Common.{◌≡◌, ◌⊎◌, ℕ, ◌+◌, ◌<◌, ◌≤◌, true, false, List, [], ◌∷◌, ◌++◌, length, get_or, refl, sym, subst, ◌∙◌, arith}
use Rattle.std.specs.Prelude.{fold, max, replicate}
use Rattle.std.proofs.lemmas.List.{length-replicate}
use Rattle.sp_form.specs.Bytes.{IsBytes}
use Rattle.sp_disk.specs.Pending.{filled, IsApart, IsFree, IsImage, picked, reach, State, state}
use Rattle.sp_disk.specs.History.{after, Event, Keeping, Nothing, range_of, state_of, Sync, Write}
use Rattle.sp_disk.specs.Sound.{is_long, length-written, read_image, starts_long}
use Rattle.sp_disk.specs.declared.pick.Pick.{Pick}
use Rattle.sp_disk.specs.declared.pick.Pick.TheVariants.{Fill, New, Old}
use Rattle.sp_disk.specs.declared.pick.Range.{Range}
use Rattle.sp_disk.proofs.Recorded.{agree_written, least_reach}

-- ---- the bytes at the last sync

pub free_parts : (ranges : List Range) (range : Range) (place : ℕ) → IsFree (ranges ++ range ∷ []) place → IsFree ranges place × IsApart range place
free_parts [] range place free = (tt, free.0)
free_parts (r ∷ ranges) range place free = let rest = free_parts ranges range place free.1 in ((free.0, rest.0), rest.1)

-- outside the pending ranges they are those that a read gives
record IsOld (s : State) : Type 0 where
  low : length s.synced ≤ length s.reads
  same : (place : ℕ) → place < length s.synced → IsFree s.pending place → get_or s.synced place 0 ≡ get_or s.reads place 0

old_after : (s : State) (event : Event) → IsOld s → IsOld (after s event)
old_after s Nothing old = old
old_after s (Write at bytes true) old = record {
  low = omega (arith, old.low, (length-written s.reads at bytes).0);
  same = λ place inside free.
      let parts = free_parts s.pending (range_of at bytes) place free in
      old.same place inside parts.0 ∙ sym (agree_written at (length s.synced) bytes s.reads old.low place inside parts.1);
}
old_after s (Write at bytes false) old = record {
  low = old.low;
  same = λ place inside free. old.same place inside (free_parts s.pending (range_of at bytes) place free).0;
}
old_after s Sync old = record { low = omega arith; same = λ place inside free. refl }

is_old : (s : State) (events : List Event) → IsOld s → IsOld (fold after s events)
is_old s [] old = old
is_old s (event ∷ events) old = is_old (after s event) events (old_after s event old)

starts_old : (start : List ℕ) → IsOld (state start start [])
starts_old start = record { low = omega arith; same = λ place inside free. refl }

-- ---- filled ranges

fill_reach : (byte bound n : ℕ) (image : List ℕ) (ranges : List Range) → length image ≤ bound → reach n ranges ≤ bound → length (fold (filled byte) image ranges) ≤ bound
fill_reach byte bound n image [] short within = short
fill_reach byte bound n image (r ∷ ranges) short within =
    let m = max n (r.at + r.size) in
    let long = length-written image r.at (replicate r.size byte) in
    fill_reach byte bound m (filled byte image r) ranges (omega (arith, short, within, least_reach m ranges, long.1, length-replicate r.size byte)) within

fill_long : (byte limit : ℕ) (image : List ℕ) (ranges : List Range) → limit ≤ length image → limit ≤ length (fold (filled byte) image ranges)
fill_long byte limit image [] long = long
fill_long byte limit image (r ∷ ranges) long =
    fill_long byte limit (filled byte image r) ranges (omega (arith, long, (length-written image r.at (replicate r.size byte)).0))

fill_same : (byte limit : ℕ) (image : List ℕ) (ranges : List Range) → limit ≤ length image → (place : ℕ) → place < limit → IsFree ranges place → get_or (fold (filled byte) image ranges) place 0 ≡ get_or image place 0
fill_same byte limit image [] long place inside free = refl
fill_same byte limit image (r ∷ ranges) long place inside free =
    let apart : (place < r.at) ⊎ (r.at + length (replicate r.size byte) ≤ place) = subst (λ n. (place < r.at) ⊎ (r.at + n ≤ place)) (sym (length-replicate r.size byte)) free.0 in
    fill_same byte limit (filled byte image r) ranges (omega (arith, long, (length-written image r.at (replicate r.size byte)).0)) place inside free.1
    ∙ agree_written r.at limit (replicate r.size byte) image long place inside apart

-- ---- the three outcomes

pub picked_image : (k : Keeping) (pick : Pick) → IsBytes (picked pick (state_of k)) → IsImage (state_of k) (picked pick (state_of k))
picked_image k Old bytes =
    let s = state_of k in
    record { bytes = bytes; no_shorter = omega arith; no_longer = least_reach (length s.synced) s.pending; same = (is_old (state k.start k.start []) k.events (starts_old k.start)).same }
picked_image k New bytes = read_image (state_of k) (is_long (state k.start k.start []) k.events (starts_long k.start)) bytes
picked_image k (Fill byte) bytes =
    let s = state_of k in
    let long = is_long (state k.start k.start []) k.events (starts_long k.start) in
    record {
      bytes = bytes;
      no_shorter = fill_long byte (length s.synced) s.reads s.pending long.low;
      no_longer = fill_reach byte (reach (length s.synced) s.pending) (length s.synced) s.reads s.pending long.high (omega arith);
      same = λ place inside free. fill_same byte (length s.synced) s.reads s.pending long.low place inside free;
    }

-- the same of a list that is one of them
pub is_picked : (k : Keeping) (pick : Pick) (image : List ℕ) → image ≡ picked pick (state_of k) → IsBytes image → IsImage (state_of k) image
is_picked k pick image is bytes = subst (IsImage (state_of k)) (sym is) (picked_image k pick (subst IsBytes is bytes))
