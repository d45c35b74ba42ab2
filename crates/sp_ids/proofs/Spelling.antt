-- What decoding answers says what a text spells.
use Rattle.std.proofs.Common.{◌≡◌, ℕ, ◌+◌, ◌*◌, ◌%◌, ◌^◌, ◌<◌, Bool, true, false, List, [], ◌∷◌, length, Option, Some, None, unwrap_or, Result, Ok, Err, inl, inr, refl, sym, subst, ap, ◌∙◌, arith}
use mathlib.Core.List.{reverse_aux}
use Rattle.std.specs.Prelude.{fold, not, is_some}
use Rattle.std.specs.List.{position_from}
use Rattle.std.proofs.lemmas.Bool.{cases_eq}
use Rattle.hex.specs.Hex.{decode_pairs, decode_sized, digit_or_error, encode_lower, hex_digit_value, is_hex_digit, ◌>>=◌}
use Rattle.hex.specs.declared.error.FromHexError.{FromHexError}
use Rattle.hex.specs.declared.error.FromHexError.TheVariants as hex
use Rattle.hex.proofs.HexLemmas.{decode_of-even, decode_sized-encode_lower, decode_sized-odd, decode_sized-other, decode_sized-twice}
use Rattle.sp_ids.specs.declared.hex_fault.HexFault.TheVariants.{OddLength, WrongLength, BadDigit}
use Rattle.sp_ids.specs.Hex.{hex_of, number_of_digits, first_bad_digit, number_unless}
use Rattle.sp_ids.specs.Digits.{bytes_of-small, length-bytes_of, number_of_bytes}
use Rattle.sp_ids.specs.Key.{bytes_of, number_up, number_of}

-- ---- the cases of what a text spells

-- an odd length is found first
pub hex_of-odd : (text : List ℕ) → length text % 2 ≡ 1 → hex_of text ≡ Err OddLength
unfolding hex_of
hex_of-odd text odd = grind arith

-- then another than 64
pub hex_of-wrong : (text : List ℕ) → length text % 2 ≡ 0 → (length text ≡ 64 → ⊥) → hex_of text ≡ Err WrongLength
unfolding hex_of
hex_of-wrong text even other = grind arith

-- and then the first bad digit
pub hex_of-long : (text : List ℕ) → length text ≡ 64 → hex_of text ≡ number_unless (first_bad_digit text) (number_of_digits text)
unfolding hex_of
hex_of-long text long = rw long refl

-- ---- pairs of digits

-- one more digit
abbrev with_digit : ℕ → ℕ → ℕ
with_digit number digit = number * 16 + unwrap_or (hex_digit_value digit) 0

-- one more byte
abbrev with_byte : ℕ → ℕ → ℕ
with_byte number byte = number * 256 + byte

-- no digit
abbrev is_bad : ℕ → Bool
is_bad byte = not (is_hex_digit byte)

-- what a row of digits from this place on says of its decoding
abbrev Spells : Result (List ℕ) FromHexError → ℕ → List ℕ → Type 0
Spells (Ok bytes) place text = (position_from is_bad place text ≡ None) × ((number : ℕ) → fold with_digit number text ≡ fold with_byte number bytes)
Spells (Err (hex.InvalidHexCharacter c at)) place text = (position_from is_bad place text ≡ Some at) × (at < place + length text)
Spells (Err hex.OddLength) place text = ⊥
Spells (Err hex.InvalidStringLength) place text = ⊥
Spells (Err hex.OutOfMemory) place text = ⊥

-- the two digits of a byte, and then the other bytes
abbrev with_pair : ℕ → ℕ → ℕ → Option ℕ → Option ℕ → Result (List ℕ) FromHexError → Result (List ℕ) FromHexError
with_pair high low place x y others = (digit_or_error high place x >>= λ h. digit_or_error low (place + 1) y >>= λ l. Ok (h * 16 + l)) >>= λ byte. others >>= λ bytes. Ok (byte ∷ bytes)

-- the first element passes the test
found : (t : ℕ → Bool) (place x : ℕ) (xs : List ℕ) → t x ≡ true → position_from t place (x ∷ xs) ≡ Some place
found t place x xs h = rw h refl

-- it fails
passed : (t : ℕ → Bool) (place x : ℕ) (xs : List ℕ) → t x ≡ false → position_from t place (x ∷ xs) ≡ position_from t (place + 1) xs
passed t place x xs h = rw h refl

-- what has no value is no digit
bad : (c : ℕ) → hex_digit_value c ≡ None → is_bad c ≡ true
bad c e = ap (λ (o : Option ℕ). not (is_some o)) e

-- what has a value is one
good : (c v : ℕ) → hex_digit_value c ≡ Some v → is_bad c ≡ false
good c v e = ap (λ (o : Option ℕ). not (is_some o)) e

-- its value counts
valued : (number c v : ℕ) → hex_digit_value c ≡ Some v → with_digit number c ≡ number * 16 + v
valued number c v e = ap (λ (o : Option ℕ). number * 16 + unwrap_or o 0) e

-- two digits are passed over
both_passed : (place high low h l : ℕ) (rest : List ℕ) → hex_digit_value high ≡ Some h → hex_digit_value low ≡ Some l → position_from is_bad place (high ∷ low ∷ rest) ≡ position_from is_bad (place + 2) rest
both_passed place high low h l rest a b =
    let twice : place + 1 + 1 ≡ place + 2 = omega arith in
    passed is_bad place high (low ∷ rest) (good high h a) ∙ passed is_bad (place + 1) low rest (good low l b) ∙ ap (λ (at : ℕ). position_from is_bad at rest) twice

-- and are worth their byte
both_valued : (number high low h l : ℕ) → hex_digit_value high ≡ Some h → hex_digit_value low ≡ Some l → with_digit (with_digit number high) low ≡ with_byte number (h * 16 + l)
both_valued number high low h l a b =
    let first = valued number high h a in
    let second = valued (with_digit number high) low l b in
    second ∙ ap (λ (n : ℕ). n * 16 + l) first ∙ omega arith

-- what one pair says, before what the others say
one_pair : (high low place : ℕ) (rest : List ℕ) (x y : Option ℕ) (others : Result (List ℕ) FromHexError) → hex_digit_value high ≡ x → hex_digit_value low ≡ y → Spells others (place + 2) rest
    → Spells (with_pair high low place x y others) place (high ∷ low ∷ rest)
one_pair high low place rest None y others a b s = (found is_bad place high (low ∷ rest) (bad high a), omega arith)
one_pair high low place rest (Some h) None others a b s =
    (passed is_bad place high (low ∷ rest) (good high h a) ∙ found is_bad (place + 1) low rest (bad low b), omega arith)
one_pair high low place rest (Some h) (Some l) (Ok bytes) a b s = (
  both_passed place high low h l rest a b ∙ s.0,
  λ number. s.1 (with_digit (with_digit number high) low) ∙ ap (λ (n : ℕ). fold with_byte n bytes) (both_valued number high low h l a b),
)
one_pair high low place rest (Some h) (Some l) (Err (hex.InvalidHexCharacter c at)) a b s = (both_passed place high low h l rest a b ∙ s.0, omega (arith, s.1))
one_pair high low place rest (Some h) (Some l) (Err hex.OddLength) a b s = absurd s
one_pair high low place rest (Some h) (Some l) (Err hex.InvalidStringLength) a b s = absurd s
one_pair high low place rest (Some h) (Some l) (Err hex.OutOfMemory) a b s = absurd s

-- what decoding pairs says
spells : (place : ℕ) (text : List ℕ) → length text % 2 ≡ 0 → Spells (decode_pairs place text) place text
unfolding decode_pairs
spells place [] even = (refl, λ number. refl)
spells place (digit ∷ []) even = absurd (omega arith)
spells place (high ∷ low ∷ rest) even =
    one_pair high low place rest (hex_digit_value high) (hex_digit_value low) (decode_pairs (place + 2) rest) refl refl (spells (place + 2) rest (omega arith))

-- ---- the whole text

-- bytes that follow others, one at a time
folded : (bytes front : List ℕ) → number_up (reverse_aux bytes front) ≡ fold with_byte (number_up front) bytes
folded [] front = refl
folded (byte ∷ bytes) front = folded bytes (byte ∷ front)

-- the number of some bytes, one at a time
number_of-fold : (bytes : List ℕ) → number_of bytes ≡ fold with_byte 0 bytes
unfolding number_of
number_of-fold bytes = folded bytes []

-- what decoding into 32 bytes says of a text
abbrev pub Tells : Result (List ℕ) FromHexError → List ℕ → Type 0
Tells (Ok bytes) text = hex_of text ≡ Ok (number_of bytes)
Tells (Err hex.OddLength) text = hex_of text ≡ Err OddLength
Tells (Err hex.InvalidStringLength) text = hex_of text ≡ Err WrongLength
Tells (Err (hex.InvalidHexCharacter c at)) text = (hex_of text ≡ Err (BadDigit at)) × (at < 256)
Tells (Err hex.OutOfMemory) text = ⊥

-- where the length is right
tells_pairs : (decoded : Result (List ℕ) FromHexError) (text : List ℕ) → length text ≡ 64 → Spells decoded 0 text → Tells decoded text
tells_pairs (Ok bytes) text long s =
    hex_of-long text long ∙ ap (λ (o : Option ℕ). number_unless o (number_of_digits text)) s.0 ∙ ap Ok (s.1 0 ∙ sym (number_of-fold bytes))
tells_pairs (Err (hex.InvalidHexCharacter c at)) text long s =
    (hex_of-long text long ∙ ap (λ (o : Option ℕ). number_unless o (number_of_digits text)) s.0, omega (arith, s.1))
tells_pairs (Err hex.OddLength) text long s = absurd s
tells_pairs (Err hex.InvalidStringLength) text long s = absurd s
tells_pairs (Err hex.OutOfMemory) text long s = absurd s

-- whatever the length is
tells_sized : (text : List ℕ) → Tells (decode_sized text 32) text
tells_sized text =
    elim (cases_eq (length text % 2) 1) [
      | inl odd ↦ rw (decode_sized-odd text 32 odd) (hex_of-odd text odd)
      | inr other ↦
          let even : length text % 2 ≡ 0 = omega arith in
          elim (cases_eq (length text) 64) [
            | inl long ↦
                let pairs = decode_sized-twice text 32 long ∙ decode_of-even text even in
                rw pairs (tells_pairs (decode_pairs 0 text) text long (spells 0 text even))
            | inr short ↦ rw (decode_sized-other text 32 even (λ half. short (omega arith))) (hex_of-wrong text even short)
          ]
    ]

-- what an answer of the decoder says of a text
pub told : {decoded : Result (List ℕ) FromHexError} (text : List ℕ) (answer : Result (List ℕ) FromHexError) → decoded ≡ decode_sized text 32 → decoded ≡ answer → Tells answer text
told text answer gives is = subst (λ (d : Result (List ℕ) FromHexError). Tells d text) (sym gives ∙ is) (tells_sized text)

-- what an error of the decoder says of a text
pub told_err : {decoded : Result (List ℕ) FromHexError} {error : FromHexError} (text : List ℕ) (known : FromHexError) → decoded ≡ decode_sized text 32 → decoded ≡ Err error → error ≡ known → Tells (Err known) text
told_err text known gives is e = told text (Err known) gives (is ∙ ap Err e)

-- ---- what an id writes

-- the digits that an id writes spell it
pub hex_of-encode_lower : (n : ℕ) → n < 2 ^ 256 → hex_of (encode_lower (bytes_of n)) ≡ Ok n
hex_of-encode_lower n h =
    let decoded = decode_sized-encode_lower (bytes_of n) 32 (length-bytes_of n) (bytes_of-small n) in
    told (encode_lower (bytes_of n)) (Ok (bytes_of n)) refl decoded ∙ ap Ok (number_of_bytes n h)
