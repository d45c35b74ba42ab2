-- What a format is: fields one after another, each with its width and its rules. How long a field is, what
-- its rules are and what follows may depend on the fields before it.
use Rattle.std.specs.Prelude.{◌≡◌, ℕ, zero, suc, Bool, List, [], ◌∷◌, ◌++◌, length, map, Option, Some, None, nat_lt, if◌then◌else◌, ◌==◌, ◌&&◌, is_none, take}

-- a test that a field passes, and the fault where it doesn't
pub record Rule (E : Type 0) : Type 0 where
  pub met : Bool
  pub fault : E

abbrev pub rule : {E : Type 0} → Bool → E → Rule E
rule met fault = record { met = met; fault = fault }

-- The format of a value is nothing more, the value being known, or a field: its width in bytes, the fault
-- where the bytes end too early, its rules, and the format of what follows it.
pub data Form (E A : Type 0) : Type 0 where
  whole : A → Form E A
  field : ℕ → E → (List ℕ → List (Rule E)) → (List ℕ → Form E A) → Form E A

-- one format after another
unfoldable pub bind : {E A B : Type 0} → Form E A → (A → Form E B) → Form E B
bind (whole x) f = f x
bind (field width short rules next) f = field width short rules (λ bytes. bind (next bytes) f)

infixl 10 ◌>>=◌
abbrev pub ◌>>=◌ : {E A B : Type 0} → Form E A → (A → Form E B) → Form E B
form >>= f = bind form f

-- So many values of one kind, one after another. What the rules of one look back at, as the value before it
-- or a sum so far, is carried from each to the next.
unfoldable pub rows : {E A S : Type 0} → (S → Form E A) → (S → A → S) → ℕ → S → Form E (List A)
rows item carried zero seen = whole []
rows item carried (suc n) seen = item seen >>= λ first. rows item carried n (carried seen first) >>= λ others. whole (first ∷ others)

abbrev pub map_rule_fault : {E F : Type 0} → (E → F) → Rule E → Rule F
map_rule_fault fault_of r = rule r.met (fault_of r.fault)

-- the same format, each of its faults mapped to another
unfoldable pub map_fault : {E F A : Type 0} → (E → F) → Form E A → Form F A
map_fault fault_of (whole x) = whole x
map_fault fault_of (field width short rules next) =
    field width (fault_of short) (λ bytes. map (map_rule_fault fault_of) (rules bytes)) (λ bytes. map_fault fault_of (next bytes))

-- the fault of the first rule that isn't met
abbrev pub first_broken : {E : Type 0} → List (Rule E) → Option E
first_broken [] = None
first_broken (r ∷ rs) = if r.met then first_broken rs else Some r.fault

-- a row of fields, one after another
abbrev pub joined : List (List ℕ) → List ℕ
joined [] = []
joined (bytes ∷ row) = bytes ++ joined row

-- What is left of a format after a row of whole fields that meet their rules; none where it doesn't begin
-- with such a row.
unfoldable pub after : {E A : Type 0} → Form E A → List (List ℕ) → Option (Form E A)
after form [] = Some form
after (whole x) (bytes ∷ row) = None
after (field width short rules next) (bytes ∷ row) =
    if length bytes == width && is_none (first_broken (rules bytes)) then after (next bytes) row else None

-- The list spells the value: it is a row of whole fields that meet their rules, and nothing is left.
pub record Spells {E A : Type 0} (form : Form E A) (list : List ℕ) (value : A) : Type 0 where
  pub row : List (List ℕ)
  pub parts : list ≡ joined row
  pub left : after form row ≡ Some (whole value)

-- What is wrong with a list at whose front a field is due: it ends too early, or the field breaks a rule.
unfoldable pub fault_at : {E A : Type 0} → Form E A → List ℕ → Option E
fault_at (whole x) list = None
fault_at (field width short rules next) list = if nat_lt (length list) width then Some short else first_broken (rules (take width list))

-- The first fault of a list: a row of whole fields that meet their rules is its front, and the field due
-- behind it has this fault. So no longer row of such fields is a front of it.
pub record HasFault {E A : Type 0} (form : Form E A) (list : List ℕ) (fault : E) : Type 0 where
  pub row : List (List ℕ)
  pub rest : List ℕ
  pub parts : list ≡ joined row ++ rest
  pub due : Form E A
  pub left : after form row ≡ Some due
  pub breaks : fault_at due rest ≡ Some fault

-- some front of the list spells a value
pub record Begins {E A : Type 0} (form : Form E A) (list : List ℕ) : Type 0 where
  pub value : A
  pub text : List ℕ
  pub rest : List ℕ
  pub spells : Spells form text value
  pub parts : list ≡ text ++ rest
