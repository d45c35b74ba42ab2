use Rattle.std.proofs.Common.{◌∙◌, ℕ, List, Option, ap, arith, length, take}
use Rattle.sp_view.specs.Padded.{padded}
use Rattle.sp_view.specs.Saved.{patched}
use Rattle.sp_view.specs.Views.{held}
use Rattle.sp_view.proofs.Held.{held_take_le}
use Rattle.sp_view.proofs.Padding.{held_is, long_is, patched_padded}
use Rattle.sp_view.proofs.saved.Saved.put_into.Goals as goal

pub put_back_all-requires-clause-long : goal.put_back_all-requires-clause-long
put_back_all-requires-clause-long c =
    omega (
      arith,
      ap length c.deref.ensures.value,
      long_is c.self.inside.count c.self.inside.list.items c.args.self c.self.view_is,
      c.self.invariant.0,
      c.self.inside.list.ok.0,
      c.requires.long,
    )

pub put_back_all-requires-clause-live : goal.put_back_all-requires-clause-live
put_back_all-requires-clause-live c = λ r.
    omega (
      arith,
      ap (λ (l : List (Option (ℕ × ℕ))). held l r) c.deref.ensures.value,
      held_is c.self.inside.count c.self.inside.list.items c.args.self c.self.view_is r (omega (arith, c.self.invariant.0, c.self.inside.list.ok.0)),
      c.requires.live r,
    )

pub give_from-requires-clause-within : goal.give_from-requires-clause-within
give_from-requires-clause-within c =
    omega (
      arith,
      ap length c.deref-2.ensures.value,
      c.put_back_all.new.entries.ok.0,
      c.put_back_all.ensures.long,
      long_is c.self.inside.count c.self.inside.list.items c.args.self c.self.view_is,
      c.requires.long,
    )

pub give_from-requires-clause-live : goal.give_from-requires-clause-live
give_from-requires-clause-live c = λ r.
    omega (
      arith,
      ap (λ (l : List (Option (ℕ × ℕ))). held l r) c.deref-2.ensures.value,
      ap (λ (l : List (Option (ℕ × ℕ))). held l r) c.deref.ensures.value,
      held_is c.self.inside.count c.self.inside.list.items c.args.self c.self.view_is r (omega (arith, c.self.invariant.0, c.self.inside.list.ok.0)),
      c.put_back_all.ensures.counts r,
      c.requires.live r,
    )

pub returns-clause-put : goal.returns-clause-put
returns-clause-put c =
    let was : List (Option (ℕ × ℕ)) = c.args.entries.now.items in
    c.truncate.ensures.items
    ∙ patched_padded c.self.inside.count c.deref.result.now was c.put_back_all.new.entries.items
    (omega (arith, c.put_back_all.new.entries.ok.0, c.put_back_all.ensures.long, long_is c.self.inside.count c.self.inside.list.items c.args.self c.self.view_is, c.requires.long))
    c.put_back_all.ensures.put
    ∙ ap (λ (l : List (Option (ℕ × ℕ))). patched (padded c.self.inside.count l) was) c.deref.ensures.value
    ∙ ap (λ (l : List (Option (ℕ × ℕ))). patched l was) c.self.view_is

pub returns-clause-counts : goal.returns-clause-counts
returns-clause-counts c = λ r.
    omega (
      arith,
      c.give_from.ensures.counts r,
      c.put_back_all.ensures.counts r,
      ap (λ (l : List (Option (ℕ × ℕ))). held l r) c.deref.ensures.value,
      ap (λ (l : List (Option (ℕ × ℕ))). held l r) c.deref-2.ensures.value,
      ap (λ (l : List (Option (ℕ × ℕ))). held (take c.self.inside.count l) r) c.deref-2.ensures.value,
      ap (λ (l : List (Option (ℕ × ℕ))). held l r) c.truncate.ensures.items,
      held_is c.self.inside.count c.self.inside.list.items c.args.self c.self.view_is r (omega (arith, c.self.invariant.0, c.self.inside.list.ok.0)),
    )

pub returns-clause-rows : goal.returns-clause-rows
returns-clause-rows c = λ r some.
    c.give_from.ensures.rows r some
    ∙ c.put_back_all.ensures.rows r (omega (arith, some, c.give_from.ensures.counts r, held_take_le c.deref-2.result.now c.self.inside.count r))
