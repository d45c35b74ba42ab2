-- Labels in the order in which they were given: those of blocks, of transactions and of locks.
use Rattle.std.specs.Prelude.{ℕ, ⊤, ◌≡◌, false, ◌≤◌, ◌==◌, ◌++◌, All, List, [], ◌∷◌, Bool, if◌then◌else◌, filter, length, map, not, Option}
use Rattle.std.specs.List.{list_any}
use Rattle.std.specs.Map.{lookup}

-- a name has 1 to 64 bytes
pub record IsNameLength (len : ℕ) : Type 0 where
  pub some : 1 ≤ len
  pub short : len ≤ 64

-- the labels with one more, unless its key has a name; `same` tells whether two keys are equal
abbrev pub with_key : {K X : Type 0} → (K → K → Bool) → List (K × X) → K → X → List (K × X)
with_key same labels key name =
    if list_any (λ label. same key label.0) labels then labels else labels ++ (key, name) ∷ []

-- these keys in the order of naming: those that have names, and behind them the others as they stand
abbrev pub by_naming : {K X : Type 0} → (K → K → Bool) → List (K × X) → List K → List K
by_naming {K} {X} same labels keys =
    filter (λ key. list_any (λ other. same other key) keys) (map (λ (label : K × X). label.0) labels)
    ++ filter (λ key. not (list_any (λ label. same key label.0) labels)) keys

-- an id as a number, and the bytes of its name
abbrev pub Label : Type 0
Label = ℕ × List ℕ

-- the ids that have names, in the order of naming
abbrev pub named : List Label → List ℕ
named labels = map (λ (label : Label). label.0) labels

-- the name of an id, if it has one
abbrev pub name_of : List Label → ℕ → Option (List ℕ)
name_of labels id = lookup (λ other. id == other) labels

-- whether an id is one of these
abbrev pub is_among : List ℕ → ℕ → Bool
is_among ids id = list_any (λ other. other == id) ids

-- these ids in the order of naming: those that have names, and behind them the others as they stand
unfoldable pub in_order : List Label → List ℕ → List ℕ
in_order labels ids = filter (is_among ids) (named labels) ++ filter (λ id. not (is_among (named labels) id)) ids

-- the labels with one more, unless its id has a name
abbrev pub with_label : List Label → ℕ → List ℕ → List Label
with_label labels id name = with_key (λ x y. x == y) labels id name

-- no id has two names
abbrev pub AreNamedOnce : List Label → Type 0
AreNamedOnce [] = ⊤
AreNamedOnce (label ∷ labels) = (list_any (λ other. other.0 == label.0) labels ≡ false) × AreNamedOnce labels

-- each id has one name, of 1 to 64 bytes
pub record AreLabels (labels : List Label) : Type 0 where
  pub once : AreNamedOnce labels
  pub short : All (λ label. IsNameLength (length label.1)) labels

-- the names of blocks, of transactions and of locks, each in the order in which they were given
pub record AllLabels : Type 0 where
  pub blocks : List Label
  pub txs : List Label
  pub locks : List Label

-- no id has a name
abbrev pub no_labels : AllLabels
no_labels = record { blocks = []; txs = []; locks = [] }

-- each block, each transaction and each lock has one name, of 1 to 64 bytes
pub record AreAllLabels (all : AllLabels) : Type 0 where
  pub blocks : AreLabels all.blocks
  pub txs : AreLabels all.txs
  pub locks : AreLabels all.locks
