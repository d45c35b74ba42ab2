-- Reading with places: one format after another, and how much of the bytes it takes.
use Rattle.std.proofs.Common.{◌≡◌, ℕ, ◌+◌, ◌<◌, ◌≤◌, Bool, true, false, cond, ltb, List, ◌++◌, length, take, drop, length-drop, length-append, Option, Some, None, refl, sym, ap, ◌∙◌, arith}
use Rattle.std.proofs.lemmas.Bool.{le-ltb, lt-ltb, ltb-false}
use Rattle.std.proofs.lemmas.List.{take_at, drop_at}
use Rattle.sp_form.specs.Form.{Form, whole, field, bind, ◌>>=◌, Rule, first_broken}
use Rattle.sp_form.specs.Places.{Input, Placed, Got, Short, unless_broken, placed, go_on}

unless_broken-go_on : {E A B : Type 0} (o : Option E) (at : ℕ) (found : Placed A) (next : A → Input → Placed B) → go_on (unless_broken o at found) next ≡ unless_broken o at (go_on found next)
unless_broken-go_on None at found next = refl
unless_broken-go_on (Some fault) at found next = refl

cond-go_on : {A B : Type 0} (b : Bool) (found : Placed A) (next : A → Input → Placed B) → go_on (cond b Short found) next ≡ cond b Short (go_on found next)
cond-go_on true found next = refl
cond-go_on false found next = refl

-- one format after another is read so
pub placed_then : {E A B : Type 0} (form : Form E A) (f : A → Form E B) (input : Input) → placed (form >>= f) input ≡ go_on (placed form input) (λ x rest. placed (f x) rest)
unfolding placed bind
placed_then (whole x) f input = refl
placed_then (field width short rules next) f input =
    let front = take width input.bytes in
    let rest : Input = record { at = input.at + width; bytes = drop width input.bytes } in
    rw (placed_then (next (take width input.bytes)) f (record { at = input.at + width; bytes = drop width input.bytes }))
    (sym (cond-go_on (ltb (length input.bytes) width) (unless_broken (first_broken (rules front)) input.at (placed (next front) rest)) (λ x rest. placed (f x) rest)
    ∙ ap (λ t. cond (ltb (length input.bytes) width) Short t) (unless_broken-go_on (first_broken (rules front)) input.at (placed (next front) rest) (λ x rest. placed (f x) rest))))

-- a whole field is judged by its rules
pub placed_whole : {E A : Type 0} (width : ℕ) (short : E) (rules : List ℕ → List (Rule E)) (next : List ℕ → Form E A) (at : ℕ) (bytes rest : List ℕ) → length bytes ≡ width
    → placed (field width short rules next) (record { at = at; bytes = bytes ++ rest }) ≡ unless_broken (first_broken (rules bytes)) at (placed (next bytes) (record { at = at + width; bytes = rest }))
unfolding placed
placed_whole width short rules next at bytes rest len =
    let long : ltb (length (bytes ++ rest)) width ≡ false = le-ltb _ _ (omega (arith, length-append bytes rest)) in
    rw (long, take_at bytes rest width len, drop_at bytes rest width len) refl

-- a whole field that meets its rules is passed
pub placed_passes : {E A : Type 0} (width : ℕ) (short : E) (rules : List ℕ → List (Rule E)) (next : List ℕ → Form E A) (at : ℕ) (bytes rest : List ℕ) → length bytes ≡ width → first_broken (rules bytes) ≡ None
    → placed (field width short rules next) (record { at = at; bytes = bytes ++ rest }) ≡ placed (next bytes) (record { at = at + width; bytes = rest })
placed_passes width short rules next at bytes rest len met = placed_whole width short rules next at bytes rest len ∙ rw met refl

-- a field of which a part is missing
pub placed_short : {E A : Type 0} (width : ℕ) (short : E) (rules : List ℕ → List (Rule E)) (next : List ℕ → Form E A) (input : Input) → length input.bytes < width → placed (field width short rules next) input ≡ Short
unfolding placed
placed_short width short rules next input few = rw (lt-ltb (length input.bytes) width few) refl

-- what follows a value is no longer than what it was read from
abbrev pub Takes : {E A : Type 0} → ℕ → Form E A → Type 0
Takes {A = A} n form = (input rest : Input) (x : A) → placed form input ≡ Got x rest → length rest.bytes + n ≤ length input.bytes

unbroken : {E A : Type 0} (o : Option E) (at : ℕ) (found : Placed A) (x : A) (rest : Input) → unless_broken o at found ≡ Got x rest → found ≡ Got x rest
unbroken None at found x rest e = e
unbroken (Some fault) at found x rest e = absurd cc

enough : {A : Type 0} (b : Bool) (found : Placed A) (x : A) (rest : Input) → cond b Short found ≡ Got x rest → (b ≡ false) × (found ≡ Got x rest)
enough true found x rest e = absurd cc
enough false found x rest e = (refl, e)

pub takes_none : {E A : Type 0} (form : Form E A) → Takes 0 form
unfolding placed
takes_none (whole y) input rest x e =
    let same : input ≡ rest = cc in
    let long : length input.bytes ≡ length rest.bytes = ap (λ (i : Input). length i.bytes) same in
    omega arith
takes_none (field width short rules next) input rest x e =
    let front = take width input.bytes in
    let t = enough (ltb (length input.bytes) width) (unless_broken (first_broken (rules front)) input.at (placed (next front) (record { at = input.at + width; bytes = drop width input.bytes }))) x rest e in
    let found = unbroken (first_broken (rules front)) input.at (placed (next front) (record { at = input.at + width; bytes = drop width input.bytes })) x rest t.1 in
    let later = takes_none (next front) (record { at = input.at + width; bytes = drop width input.bytes }) rest x found in
    omega (arith, later, length-drop width input.bytes)

-- a format that begins with a field takes that field
pub takes_field : {E A : Type 0} (width : ℕ) (short : E) (rules : List ℕ → List (Rule E)) (next : List ℕ → Form E A) → Takes width (field width short rules next)
unfolding placed
takes_field width short rules next input rest x e =
    let front = take width input.bytes in
    let t = enough (ltb (length input.bytes) width) (unless_broken (first_broken (rules front)) input.at (placed (next front) (record { at = input.at + width; bytes = drop width input.bytes }))) x rest e in
    let found = unbroken (first_broken (rules front)) input.at (placed (next front) (record { at = input.at + width; bytes = drop width input.bytes })) x rest t.1 in
    let later = takes_none (next front) (record { at = input.at + width; bytes = drop width input.bytes }) rest x found in
    let long : width ≤ length input.bytes = ltb-false (length input.bytes) width t.0 in
    omega (arith, later, long, length-drop width input.bytes)
