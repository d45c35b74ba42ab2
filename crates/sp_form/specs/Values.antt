-- The fields that most formats are made of: a value of so many bytes, bytes as they stand, and rules that
-- are judged where they stand, of no byte.
use Rattle.std.specs.Prelude.{ℕ, List, [], ◌∷◌, slice_index, nat_le, ◌&&◌}
use Rattle.sp_form.specs.Form.{Form, whole, field, Rule, rule}

-- a value that stands in so many bytes, and its rules in the order in which they are judged
abbrev pub value_form : {E A : Type 0} → ℕ → E → (List ℕ → A) → (A → List (Rule E)) → Form E A
value_form width short value rules = field width short (λ bytes. rules (value bytes)) (λ bytes. whole (value bytes))

-- bytes as they stand
abbrev pub bytes_form : {E : Type 0} → ℕ → E → Form E (List ℕ)
bytes_form width short = value_form width short (λ bytes. bytes) (λ bytes. [])

-- the number of one byte
abbrev pub byte : List ℕ → ℕ
byte bytes = slice_index bytes 0

-- a number of one byte within these limits
abbrev pub count_form : {E : Type 0} → E → ℕ → ℕ → E → Form E ℕ
count_form short least most fault = value_form 1 short byte (λ n. rule (nat_le least n && nat_le n most) fault ∷ [])

-- Rules that are judged where they stand. They read no byte, so the bytes never end too early for them.
abbrev pub rules_form : {E A : Type 0} → E → List (Rule E) → Form E A → Form E A
rules_form short rules next = field 0 short (λ bytes. rules) (λ bytes. next)
