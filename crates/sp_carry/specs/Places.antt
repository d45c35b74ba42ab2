-- Where the numbers of a list stand.
use Rattle.std.specs.Prelude.{ℕ, ◌≡◌, List, position, nat_eq}
use Rattle.std.specs.BTreeMap.{BTreeMap, get}
use Rattle.std.specs.Ordering.{nat_cmp}
use Rattle.sp_model.specs.Graph.{AreDistinct}

-- no number of the list repeats, and the map has the place of each, and no other
pub record HasPlaces (map : BTreeMap ℕ ℕ) (list : List ℕ) : Type 0 where
  pub places : (key : ℕ) → get nat_cmp map key ≡ position (nat_eq key) list
  pub once : AreDistinct list
