use Rattle.std.proofs.Common.{◌≡◌, ℕ, List, [], ◌∷◌, ◌++◌, subst}
use Rattle.sp_carry.specs.Places.{HasPlaces}
use Rattle.sp_carry.proofs.Places.{places_pop}
use Rattle.sp_money.proofs.locks.Locks.pop.Goals as goal

pub invariant_of-self : goal.invariant_of-self
invariant_of-self c =
    let items : c.self.inside.list.items ≡ c.pop.new.self.items ++ c.in-Some.lock ∷ [] =
    c.in-Some.ensures.items in
    places_pop c.self.inside.numbers c.remove.new.self c.pop.new.self.items c.in-Some.lock
    (subst (λ (xs : List ℕ). HasPlaces c.self.inside.numbers xs) items c.self.invariant) c.remove.ensures.updates
