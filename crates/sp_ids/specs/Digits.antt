-- Bytes and their number give one another back. This is proof, which stands here since the models of ids cite it.
use Rattle.std.proofs.Common.{◌≡◌, ℕ, zero, suc, ◌+◌, ◌-◌, ◌*◌, ◌/◌, ◌^◌, ◌<◌, ◌≤◌, List, [], ◌∷◌, ◌++◌, length, reverse, get_or, inl, inr, refl, ap, sym, ◌∙◌, arith}
use Rattle.std.proofs.Math.Nat.{pow-suc, mul-le-mul_right, mul_assoc}
use Rattle.std.proofs.lemmas.Bool.{cases_lt}
use Rattle.std.proofs.lemmas.List.{reverse-append, reverse-reverse, length-reverse, get_or-reverse, get_or_past}
use Rattle.std.proofs.lemmas.Nat.{div-mul-add, mod-mul-add}
use Rattle.sp_ids.specs.Key.{number_up, bytes_up, number_of, bytes_of, AreBytes}

-- the bytes of the number of some bytes, the lowest byte first
bytes_up-number_up : (bytes : List ℕ) → ((k : ℕ) → k < length bytes → get_or bytes k 0 < 256) → bytes_up (length bytes) (number_up bytes) ≡ bytes
bytes_up-number_up [] small = refl
bytes_up-number_up (byte ∷ bytes) small =
    let here : byte < 256 = small 0 (omega arith) in
    let rest : bytes_up (length bytes) (number_up bytes) ≡ bytes = bytes_up-number_up bytes (λ k h. small (suc k) (omega arith)) in
    rw (mod-mul-add (number_up bytes) 256 byte here, div-mul-add (number_up bytes) 256 byte here, rest) refl

-- the bytes of the number of 32 bytes
pub bytes_of_number : (bytes : List ℕ) → AreBytes bytes → bytes_of (number_of bytes) ≡ bytes
unfolding number_of bytes_of
bytes_of_number bytes h =
    let small : (k : ℕ) → k < length (reverse bytes) → get_or (reverse bytes) k 0 < 256 =
    λ k le. let inside : k < length bytes = omega (arith, length-reverse bytes) in
    rw (get_or-reverse bytes k 0 inside) (h.small (length bytes - 1 - k) (omega (arith, h.long))) in
    let long : length (reverse bytes) ≡ 32 = length-reverse bytes ∙ h.long in
    let e = rw long at (bytes_up-number_up (reverse bytes) small) in
    ap reverse e ∙ reverse-reverse bytes

-- the number of the bytes of a number, the lowest byte first
number_up-bytes_up : (count n : ℕ) → n < 256 ^ count → number_up (bytes_up count n) ≡ n
number_up-bytes_up zero n h = omega arith
number_up-bytes_up (suc count) n h =
    let high : n / 256 < 256 ^ count = omega (arith, pow-suc 256 count) in
    let e : number_up (bytes_up count (n / 256)) ≡ n / 256 = number_up-bytes_up count (n / 256) high in
    rw e (omega arith)

-- so many bytes are so many
length-bytes_up : (count n : ℕ) → length (bytes_up count n) ≡ count
length-bytes_up zero n = refl
length-bytes_up (suc count) n = ap suc (length-bytes_up count (n / 256))

-- each of them is below 256
bytes_up-small : (count n k : ℕ) → get_or (bytes_up count n) k 0 < 256
bytes_up-small zero n k = omega arith
bytes_up-small (suc count) n zero = omega arith
bytes_up-small (suc count) n (suc k) = bytes_up-small count (n / 256) k

-- the number of the bytes of a number
pub number_of_bytes : (n : ℕ) → n < 2 ^ 256 → number_of (bytes_of n) ≡ n
unfolding number_of bytes_of
number_of_bytes n h = ap number_up (reverse-reverse (bytes_up 32 n)) ∙ number_up-bytes_up 32 n h

-- an id has 32 bytes
pub length-bytes_of : (n : ℕ) → length (bytes_of n) ≡ 32
unfolding bytes_of
length-bytes_of n = length-reverse (bytes_up 32 n) ∙ length-bytes_up 32 n

-- each of them is below 256
pub bytes_of-small : (n k : ℕ) → get_or (bytes_of n) k 0 < 256
unfolding bytes_of
bytes_of-small n k =
    elim (cases_lt k (length (bytes_up 32 n))) [
      | inl inside ↦ rw (get_or-reverse (bytes_up 32 n) k 0 inside) (bytes_up-small 32 n (length (bytes_up 32 n) - 1 - k))
      | inr past ↦ rw (get_or_past (reverse (bytes_up 32 n)) k 0 (omega (arith, length-reverse (bytes_up 32 n)))) (omega arith)
    ]

-- the bytes of a number are the bytes of an id
pub AreBytes-bytes_of : (n : ℕ) → AreBytes (bytes_of n)
AreBytes-bytes_of n = record { long = length-bytes_of n; small = λ k h. bytes_of-small n k }

-- a last byte is the highest
number_up-append : (front : List ℕ) (byte : ℕ) → number_up (front ++ byte ∷ []) ≡ byte * 256 ^ length front + number_up front
number_up-append [] byte = omega arith
number_up-append (low ∷ front) byte =
    let rest = number_up-append front byte in
    let power = pow-suc 256 (length front) in
    let apart : byte * (256 ^ length front * 256) ≡ byte * 256 ^ length front * 256 = sym (mul_assoc byte (256 ^ length front) 256) in
    rw (rest, power, apart) (omega arith)

-- the first byte is the highest
pub number_of-cons : (byte : ℕ) (bytes : List ℕ) → number_of (byte ∷ bytes) ≡ byte * 256 ^ length bytes + number_of bytes
unfolding number_of
number_of-cons byte bytes =
    ap number_up (reverse-append (byte ∷ []) bytes) ∙ number_up-append (reverse bytes) byte
    ∙ ap (λ (n : ℕ). byte * 256 ^ n + number_up (reverse bytes)) (length-reverse bytes)

-- the number of some bytes is below the power for so many
pub number_of-below : (bytes : List ℕ) → ((k : ℕ) → k < length bytes → get_or bytes k 0 < 256) → number_of bytes < 256 ^ length bytes
unfolding number_of
number_of-below [] small = omega arith
number_of-below (byte ∷ bytes) small =
    let here : byte ≤ 255 = omega (arith, small 0 (omega arith)) in
    let rest : number_of bytes < 256 ^ length bytes = number_of-below bytes (λ k h. small (suc k) (omega arith)) in
    let most : byte * 256 ^ length bytes ≤ 255 * 256 ^ length bytes = mul-le-mul_right (256 ^ length bytes) here in
    rw (number_of-cons byte bytes, pow-suc 256 (length bytes)) (omega arith)

-- the number of an id is below 2 ^ 256
pub number_of-bound : (bytes : List ℕ) → AreBytes bytes → number_of bytes < 2 ^ 256
number_of-bound bytes h =
    let below : number_of bytes < 256 ^ length bytes = number_of-below bytes (λ k le. h.small k (omega (arith, h.long))) in
    rw h.long at below
