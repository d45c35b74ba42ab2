use Rattle.std.proofs.Common.{ℕ, List, Option, ap, arith, length, subst}
use Rattle.sp_view.specs.Homes.{AreHome}
use Rattle.sp_view.specs.Views.{held}
use Rattle.sp_view.proofs.Homes.{all_stay, home_padded}
use Rattle.sp_view.proofs.Padding.{held_is, long_is}
use Rattle.sp_view.proofs.saved.Saved.settle_into.Goals as goal

pub give_entries-requires : goal.give_entries-requires
give_entries-requires c = λ r.
    omega (
      arith,
      ap (λ (l : List (Option (ℕ × ℕ))). held l r) c.deref.ensures.value,
      held_is c.self.inside.count c.self.inside.list.items c.args.self c.self.view_is r (omega (arith, c.self.invariant.0, c.self.inside.list.ok.0)),
      c.requires.live r,
    )

pub returns-then-self-len : goal.returns-then-self-len
returns-then-self-len c =
    all_stay c.args.pool.now c.give_entries.new.pool c.args.self c.args.entries.now.items c.requires.live c.requires.once
    (λ r.
    omega (
      arith,
      c.give_entries.ensures.counts r,
      ap (λ (l : List (Option (ℕ × ℕ))). held l r) c.deref.ensures.value,
      held_is c.self.inside.count c.self.inside.list.items c.args.self c.self.view_is r (omega (arith, c.self.invariant.0, c.self.inside.list.ok.0)),
    ))
    c.give_entries.ensures.rows

pub settle_all-requires-clause-long : goal.settle_all-requires-clause-long
settle_all-requires-clause-long c =
    omega (
      arith,
      ap length c.deref-2.ensures.value,
      long_is c.self.inside.count c.self.inside.list.items c.args.self c.self.view_is,
      c.self.invariant.0,
      c.self.inside.list.ok.0,
      c.requires.long,
    )

pub settle_all-requires-clause-live : goal.settle_all-requires-clause-live
settle_all-requires-clause-live c = λ r.
    omega (
      arith,
      ap (λ (l : List (Option (ℕ × ℕ))). held l r) c.deref-2.ensures.value,
      held_is c.self.inside.count c.self.inside.list.items c.args.self c.self.view_is r (omega (arith, c.self.invariant.0, c.self.inside.list.ok.0)),
      c.requires.live r,
    )

pub returns : goal.returns
returns c =
    let was : List (Option (ℕ × ℕ)) = c.args.entries.now.items in
    let now : List (Option (ℕ × ℕ)) = c.settle_all.new.entries.items in
    home_padded c.self.inside.count c.self.inside.list.items c.args.self c.self.view_is (omega (arith, c.self.invariant.0, c.self.inside.list.ok.0)) c.args.pool.now c.settle_all.new.pool was now
    (subst (λ (l : List (Option (ℕ × ℕ))). AreHome c.args.pool.now c.settle_all.new.pool l was now) c.deref-2.ensures.value c.settle_all.ensures)
