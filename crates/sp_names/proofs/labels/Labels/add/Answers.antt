use Rattle.std.proofs.Common.{◌≡◌, ℕ, [], ◌∷◌, ◌++◌, length, false, None, Option, Some, refl, sym, ap, ◌∙◌}
use Rattle.std.specs.Prelude.{is_some}
use Rattle.std.specs.Ordering.{is_eq}
use Rattle.sp_names.specs.Labels.{with_key}
use Rattle.sp_names.proofs.Keyed.{kept_key, new_key, places_push}
use Rattle.sp_names.proofs.labels.Labels.add.Goals as goal

none_of : (o : Option ℕ) → is_some o ≡ false → o ≡ None
none_of None e = refl
none_of (Some i) e = cc

pub returns-then-contains_key-clause-ok : goal.returns-then-contains_key-clause-ok
returns-then-contains_key-clause-ok g c =
    let there = sym (ap is_some (c.self.invariant c.args.key)) ∙ sym c.contains_key.ensures ∙ c.if-contains_key.true in
    rw c.self.view_is at (kept_key (λ x y. is_eq (g.K.Ord.cmp x y)) c.self.inside.list.items c.args.key c.args.name there)

pub invariant_of-self-2 : goal.invariant_of-self-2
invariant_of-self-2 g c =
    let absent = none_of _ (sym c.contains_key.ensures ∙ c.if-contains_key.false) in
    let items = c.push_reserved.ensures.items ∙ ap (λ xs. xs ++ (c.args.key, c.args.name) ∷ []) c.reserve.ensures.items in
    let size = c.len-place.ensures ∙ ap length (sym c.self.view_is) in
    let up = rw size at c.in_ok-insert.ensures.updates in
    rw items (places_push g.met.K.Ord.total c.self.inside.places c.insert.new.self c.self.inside.list.items c.args.key c.args.name c.self.invariant absent up)

pub returns-clause-ok : goal.returns-clause-ok
returns-clause-ok g c =
    let none = sym (ap is_some (c.self.invariant c.args.key)) ∙ sym c.contains_key.ensures ∙ c.if-contains_key.false in
    let items = c.push_reserved.ensures.items ∙ ap (λ xs. xs ++ (c.args.key, c.args.name) ∷ []) c.reserve.ensures.items in
    let new = new_key (λ x y. is_eq (g.K.Ord.cmp x y)) c.self.inside.list.items c.args.key c.args.name none in
    items ∙ new ∙ ap (λ xs. with_key (λ x y. is_eq (g.K.Ord.cmp x y)) xs c.args.key c.args.name) c.self.view_is
