-- What is true of a disk in memory at each moment, whatever its calls were.
use Rattle.std.proofs.Common.{◌≡◌, ℕ, zero, suc, ◌+◌, ◌≤◌, Bool, true, false, cond, ltb, List, [], ◌∷◌, ◌++◌, length, take, drop, Option, Some, None, refl, sym, ap, subst, arith, length-append, length-drop}
use Rattle.std.specs.Prelude.{IfSome, fold, max}
use Rattle.std.specs.List.{list_all}
use Rattle.std.proofs.lemmas.Bool.{and_from, and_parts, ltb-true, lt-ltb}
use Rattle.std.proofs.lemmas.List.{length-take, take_all}
use Rattle.std.proofs.lemmas.Grind.{fold-append}
use Rattle.sp_form.specs.Bytes.{IsBytes}
use Rattle.sp_disk.specs.Images.{written}
use Rattle.sp_disk.specs.Moments.{IsMoment}
use Rattle.sp_disk.specs.Pending.{IsImage, reach, State, state}
use Rattle.sp_disk.specs.History.{after, Event, Keeping, moment_of, Nothing, range_of, state_after, state_of, Sync, told, Write}
use Rattle.sp_disk.specs.declared.pick.Range.{Range}

pub all_bytes : (list : List ℕ) → list_all (λ byte. ltb byte 256) list ≡ true → IsBytes list
all_bytes [] e place = omega arith
all_bytes (byte ∷ list) e zero = ltb-true byte 256 (and_parts (ltb byte 256) (list_all (λ byte. ltb byte 256) list) e).0
all_bytes (byte ∷ list) e (suc place) = all_bytes list (and_parts (ltb byte 256) (list_all (λ byte. ltb byte 256) list) e).1 place

pub bytes_all : (list : List ℕ) → IsBytes list → list_all (λ byte. ltb byte 256) list ≡ true
bytes_all [] bytes = refl
bytes_all (byte ∷ list) bytes = and_from (ltb byte 256) (list_all (λ byte. ltb byte 256) list) (lt-ltb byte 256 (bytes 0)) (bytes_all list (λ place. bytes (suc place)))

-- bytes are told
pub told_bytes : (list : List ℕ) → IsBytes list → told list ≡ Some list
told_bytes list bytes = ap (λ (b : Bool). cond b (Some list) None) (bytes_all list bytes)

-- what is told is bytes
pub told_only : (list : List ℕ) (P : List ℕ → Type 0) → (IsBytes list → P list) → IfSome (told list) P
told_only list P h = at (list_all (λ byte. ltb byte 256) list) (λ e. h (all_bytes list e))
  where
    at : (b : Bool) → (b ≡ true → P list) → IfSome (cond b (Some list) None) P
    at true h = h refl
    at false h = tt

-- a place of what is told
pub told_place : (at : ℕ) (list : List ℕ) → IsBytes list → IfSome (told list) (λ before. at ≤ length before) → at ≤ length list
told_place at list bytes within =
    let here : IfSome (Some list) (λ before. at ≤ length before) = subst (λ (o : Option (List ℕ)). IfSome o (λ before. at ≤ length before)) (told_bytes list bytes) within in here

pub length-written : (old : List ℕ) (at : ℕ) (bytes : List ℕ) → (length old ≤ length (written old at bytes)) × (length (written old at bytes) ≤ max (length old) (at + length bytes))
length-written old at bytes =
    let one = length-append (take at old) (bytes ++ drop (at + length bytes) old) in
    let two = length-append bytes (drop (at + length bytes) old) in
    let three = length-take at old in
    let four = length-drop (at + length bytes) old in
    (omega (arith, one, two, three, four), omega (arith, one, two, three, four))

pub reach-push : (n : ℕ) (ranges : List Range) (range : Range) → reach n (ranges ++ range ∷ []) ≡ max (reach n ranges) (range.at + range.size)
reach-push n ranges range = fold-append (λ (most : ℕ) (r : Range). max most (r.at + r.size)) n ranges (range ∷ [])

-- what is read is no shorter than at the last sync, and no longer than the writes reach
pub record IsLong (s : State) : Type 0 where
  pub low : length s.synced ≤ length s.reads
  pub high : length s.reads ≤ reach (length s.synced) s.pending

long_after : (s : State) (event : Event) → IsLong s → IsLong (after s event)
long_after s Nothing long = long
long_after s (Write at bytes true) long =
    let n = length-written s.reads at bytes in
    let r = reach-push (length s.synced) s.pending (range_of at bytes) in
    record { low = omega (arith, long.low, n.0); high = omega (arith, long.high, n.1, r) }
long_after s (Write at bytes false) long =
    let r = reach-push (length s.synced) s.pending (range_of at bytes) in
    record { low = long.low; high = omega (arith, long.high, r) }
long_after s Sync long = record { low = omega arith; high = omega arith }

pub is_long : (s : State) (events : List Event) → IsLong s → IsLong (fold after s events)
is_long s [] long = long
is_long s (event ∷ events) long = is_long (after s event) events (long_after s event long)

pub starts_long : (start : List ℕ) → IsLong (state start start [])
starts_long start = record { low = omega arith; high = omega arith }

pub read_image : (s : State) → IsLong s → IsBytes s.reads → IsImage s s.reads
read_image s long bytes = record { bytes = bytes; no_shorter = long.low; no_longer = long.high; same = λ place inside free. refl }

-- what is true of it at each moment
pub keeping_is_moment : (k : Keeping) → IsMoment (moment_of k)
keeping_is_moment k = record {
  bytes = λ image left. left.bytes;
  reads = told_only (state_of k).reads (IsImage (state_of k)) (read_image (state_of k) (is_long (state k.start k.start []) k.events (starts_long k.start)));
  counts = λ t image le left. record { moment = length k.events; from = le; until = omega arith; left = subst (λ (es : List Event). IsImage (state_after k.start es) image) (sym (take_all (length k.events) k.events (omega arith))) left };
  only = λ image left. subst (λ (es : List Event). IsImage (state_after k.start es) image) (take_all left.moment k.events left.from) left.left;
  some = λ t le image left. (left.moment, left.from, left.until, left.left);
  all = λ t u from until image left. record { moment = u; from = from; until = until; left = left };
}

bytes-append : (a b : List ℕ) → IsBytes a → IsBytes b → IsBytes (a ++ b)
bytes-append [] b ha hb place = hb place
bytes-append (x ∷ a) b ha hb zero = ha zero
bytes-append (x ∷ a) b ha hb (suc place) = bytes-append a b (λ p. ha (suc p)) hb place

bytes-take : (n : ℕ) (a : List ℕ) → IsBytes a → IsBytes (take n a)
bytes-take zero a h place = omega arith
bytes-take (suc n) [] h place = omega arith
bytes-take (suc n) (x ∷ a) h zero = h zero
bytes-take (suc n) (x ∷ a) h (suc place) = bytes-take n a (λ p. h (suc p)) place

bytes-drop : (n : ℕ) (a : List ℕ) → IsBytes a → IsBytes (drop n a)
bytes-drop zero a h place = h place
bytes-drop (suc n) [] h place = h place
bytes-drop (suc n) (x ∷ a) h place = bytes-drop n a (λ p. h (suc p)) place

pub written_bytes : (old : List ℕ) (at : ℕ) (bytes : List ℕ) → IsBytes old → IsBytes bytes → IsBytes (written old at bytes)
written_bytes old at bytes a b = bytes-append (take at old) (bytes ++ drop (at + length bytes) old) (bytes-take at old a) (bytes-append bytes (drop (at + length bytes) old) b (bytes-drop (at + length bytes) old a))
