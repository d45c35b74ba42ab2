use Rattle.std.proofs.Common.{ℕ, List, ◌/◌, ◌+◌, ◌&&◌, nat_lt, set, sym, ap, ◌∙◌, arith}
use Rattle.sp_bits.specs.Places.{members_below}
use Rattle.sp_bits.specs.Words.{bit_in}
use Rattle.sp_bits.proofs.Bits.{IsCleared-front, IsCleared-now, IsCleared-all, front_of}
use Rattle.sp_bits.proofs.Fronts.{members_below-all, members_below-places}
use Rattle.sp_bits.proofs.Sets.{IsRow-view, places_same}
use Rattle.sp_bits.proofs.row.Row.clear_from.Goals as goal

pub returns-then-place-ge512 : goal.returns-then-place-ge512
returns-then-place-ge512 c =
    members_below-all c.args.self.now c.args.place (IsRow-view (bit_in c.self.inside.words) c.args.self.now c.self.view_is) (omega (arith, c.if-place-ge512.true))

pub words-init : goal.words-init
words-init c =
    IsCleared-now c.self.inside.words (set c.self.inside.words (c.args.place / 64) (front_of c.self.inside.words c.args.place)) c.args.place (c.args.place / 64 + 1)
    (IsCleared-front c.self.inside.words c.args.place c.self.invariant (omega arith))

pub returns : goal.returns
returns c =
    let front = set c.self.inside.words (c.args.place / 64) (front_of c.self.inside.words c.args.place) in
    places_same (bit_in c.words.self-inside.words) (λ p. bit_in c.self.inside.words p && nat_lt p c.args.place)
    (IsCleared-all c.self.inside.words front c.words.self-inside.words c.args.place (c.args.place / 64 + 1) c.words.above
    (IsCleared-front c.self.inside.words c.args.place c.self.invariant (omega arith)) c.words.invariant (omega arith))
    ∙ sym (members_below-places (bit_in c.self.inside.words) c.args.place) ∙ ap (λ (s : List ℕ). members_below s c.args.place) c.self.view_is
