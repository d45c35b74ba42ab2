use Rattle.std.proofs.Common.{List, ap, sym, subst, ◌∙◌}
use Rattle.std.specs.List.{list_any}
use Rattle.sp_carry.specs.Money.{Coin}
use Rattle.sp_money.specs.Kept.{held_of}
use Rattle.sp_money.specs.Places.{is_name, StandsAt}
use Rattle.sp_money.proofs.Puts.{as_many, with_counts}
use Rattle.sp_money.proofs.Counts.{can_one, counted_none, counted_one}
use Rattle.sp_money.proofs.store.Store.count_input.Goals as goal

pub count_at-requires-clause-room : goal.count_at-requires-clause-room
count_at-requires-clause-room c =
    can_one c.args.now c.args.input.now (held_of c.args.self.now).coins (held_of c.args.self.now).spenders c.in-Some.place
    (subst (λ (cs : List Coin). StandsAt cs c.args.input.now.from c.in-Some.place) (sym c.requires.coins) c.in-Some.ensures.found) c.requires.room

pub returns-in-Some-clause-held : goal.returns-in-Some-clause-held
returns-in-Some-clause-held c =
    c.count_at.ensures.held
    ∙ ap (with_counts (held_of c.args.self.now))
    (sym (counted_one c.args.now c.args.input.now (held_of c.args.self.now).coins (held_of c.args.self.now).spenders c.in-Some.place
    (as_many c.args.self.now.slots.items c.args.self.now.locks)
    (subst (λ (cs : List Coin). StandsAt cs c.args.input.now.from c.in-Some.place) (sym c.requires.coins) c.in-Some.ensures.found)))

pub returns-in_default-clause-held : goal.returns-in_default-clause-held
returns-in_default-clause-held c =
    ap (with_counts (held_of c.args.self.now))
    (sym (counted_none c.args.now c.args.input.now (held_of c.args.self.now).coins (held_of c.args.self.now).spenders
    (as_many c.args.self.now.slots.items c.args.self.now.locks)
    (ap (list_any (is_name c.args.input.now.from)) c.requires.coins ∙ c.in_default.ensures.none)))
