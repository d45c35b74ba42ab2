-- A digest is 32 bytes, so its number and its bytes give one another back.
use Rattle.std.proofs.Common.{get_or, ◌≡◌, ℕ, zero, suc, ◌-◌, ◌/◌, ◌^◌, ◌<◌, List, ◌++◌, length, inl, inr, refl, arith}
use Rattle.std.proofs.lemmas.Bool.{cases_lt}
use Rattle.std.proofs.lemmas.List.{get_or_append_left, get_or-append_right}
use Rattle.std.proofs.lemmas.Nat.{mod_below}
use Rattle.std.specs.Int.{bytes_high_first, byte_at, to_be_bytes, w32}
use Rattle.std.specs.Prelude.{slice_index}
use Rattle.sha2.specs.Sha256.{digest_bytes, sha256}
use Rattle.sha2.proofs.Facts256.{length-sha256}
use Rattle.sp_ids.specs.Digest.{sha256_number}
use Rattle.sp_ids.specs.Digits.{bytes_of_number, number_of-bound}
use Rattle.sp_ids.specs.Key.{AreBytes, bytes_of}

-- a byte at each place
abbrev pub IsBytes : List ℕ → Type 0
IsBytes list = (place : ℕ) → get_or list place 0 < 256

-- bytes behind bytes are bytes
IsBytes-append : (front back : List ℕ) → IsBytes front → IsBytes back → IsBytes (front ++ back)
IsBytes-append front back f b place =
    elim (cases_lt place (length front)) [
      | inl inside ↦ rw (get_or_append_left front back 0 place inside) (f place)
      | inr past ↦ rw (get_or-append_right front back (length front) place 0 refl past) (b (place - length front))
    ]

-- a byte of a number is below 256
byte_at-small : (place n : ℕ) → byte_at place n < 256
byte_at-small zero n = omega arith
byte_at-small (suc place) n = mod_below (n / 256 ^ suc place) 256 (omega arith)

-- so are all of its bytes
IsBytes-bytes_high_first : (count n : ℕ) → IsBytes (bytes_high_first count n)
IsBytes-bytes_high_first zero n place = omega arith
IsBytes-bytes_high_first (suc count) n zero = byte_at-small count n
IsBytes-bytes_high_first (suc count) n (suc place) = IsBytes-bytes_high_first count n place

-- the bytes of some words are bytes
IsBytes-digest_bytes : (words : List ℕ) (count : ℕ) → IsBytes (digest_bytes words count)
unfolding digest_bytes
IsBytes-digest_bytes words zero place = omega arith
IsBytes-digest_bytes words (suc count) place =
    IsBytes-append (digest_bytes words count) (to_be_bytes w32 (slice_index words count)) (IsBytes-digest_bytes words count) (IsBytes-bytes_high_first 4 (slice_index words count)) place

-- a digest has a byte at each place
pub IsBytes-sha256 : (bytes : List ℕ) → IsBytes (sha256 bytes)
unfolding sha256
IsBytes-sha256 bytes = IsBytes-digest_bytes _ 8

-- a digest has the bytes of an id
pub AreBytes-sha256 : (bytes : List ℕ) → AreBytes (sha256 bytes)
AreBytes-sha256 bytes = record { long = length-sha256 bytes; small = λ k _. IsBytes-sha256 bytes k }

-- its number is that of an id
pub sha256_number-bound : (bytes : List ℕ) → sha256_number bytes < 2 ^ 256
unfolding sha256_number
sha256_number-bound bytes = number_of-bound (sha256 bytes) (AreBytes-sha256 bytes)

-- and gives the digest back
pub bytes_of-sha256_number : (bytes : List ℕ) → bytes_of (sha256_number bytes) ≡ sha256 bytes
unfolding sha256_number
bytes_of-sha256_number bytes = bytes_of_number (sha256 bytes) (AreBytes-sha256 bytes)
