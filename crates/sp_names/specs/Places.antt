-- A map from keys to their places in a list.
use Rattle.std.specs.Prelude.{◌≡◌, ℕ, List, position}
use Rattle.std.specs.BTreeMap.{BTreeMap, get}
use Rattle.std.specs.Ordering.{is_eq}
use Rattle.std.specs.declared.cmp.Ordering.{Ordering}

-- the map has the place of each key, and no others
abbrev pub HasPlaces : {K X : Type 0} → (K → K → Ordering) → BTreeMap K ℕ → List (K × X) → Type 0
HasPlaces {K = K} cmp places entries = (key : K) → get cmp places key ≡ position (λ entry. is_eq (cmp key entry.0)) entries
