use Rattle.std.proofs.Common.{◌≡◌, ℕ, List, [], ◌∷◌, ◌++◌, length, ap, arith, ◌∙◌}
use Rattle.std.specs.Prelude.{None, position, nat_eq}
use Rattle.sp_carry.proofs.Places.{places_push}
use Rattle.sp_carry.proofs.ids.Ids.add.Goals as goal

pub invariant_of-self-2 : goal.invariant_of-self-2
invariant_of-self-2 c =
    let items = c.push_reserved.ensures.items ∙ ap (λ (xs : List ℕ). xs ++ c.args.id ∷ []) c.reserve.ensures.items in
    let absent : position (nat_eq c.args.id) c.self.inside.list.items ≡ None = ap (position (nat_eq c.args.id)) c.self.view_is ∙ c.requires.new in
    let size : c.len-number.result ≡ length c.self.inside.list.items = omega (arith, c.len-number.ensures, c.self.inside.list.ok) in
    let up = rw size at c.in_ok-insert.ensures.updates in
    rw items (places_push c.self.inside.numbers c.insert.new.self c.self.inside.list.items c.args.id c.self.invariant absent up)
