-- That what the structs of this crate know of their fields has one proof at most, as the language asks of such facts.
use Rattle.std.specs.Prelude.{ℕ, List, [], ◌∷◌}
use Rattle.std.specs.Coded.{Unit-prop}
use Rattle.std.proofs.Props.{props}
use Rattle.sp_bits.specs.Places.{IsRow}
use Rattle.sp_model.specs.Graph.{AreDistinct}

pub IsRow-prop : (set : List ℕ) → IsProp (IsRow set)
unfolding IsRow
IsRow-prop set = Prim.hlevel props

pub AreDistinct-prop : (keys : List ℕ) → IsProp (AreDistinct keys)
AreDistinct-prop [] = Unit-prop
AreDistinct-prop (k ∷ ks) = Prim.hlevel (props, AreDistinct-prop ks)

pub ruleset facts = (props, IsRow-prop, AreDistinct-prop)
