use Rattle.std.proofs.Common.{◌≡◌, ℕ, List, [], ◌∷◌, ◌++◌, length, ap, sym, ◌∙◌}
use Rattle.std.specs.Prelude.{None, position, nat_eq}
use Rattle.sp_carry.proofs.Places.{places_push}
use Rattle.sp_money.proofs.locks.Locks.add.Goals as goal

pub invariant_of-self-2 : goal.invariant_of-self-2
invariant_of-self-2 c =
    let items = c.push_reserved.ensures.items ∙ ap (λ (xs : List ℕ). xs ++ c.args.lock ∷ []) c.reserve.ensures.items in
    let absent : position (nat_eq c.args.lock) c.self.inside.list.items ≡ None = ap (position (nat_eq c.args.lock)) c.self.view_is ∙ c.requires.new in
    let size = c.len-number.ensures.value ∙ ap length (sym c.self.view_is) in
    let up = rw size at c.in_ok-insert.ensures.updates in
    rw items (places_push c.self.inside.numbers c.insert.new.self c.self.inside.list.items c.args.lock c.self.invariant absent up)
