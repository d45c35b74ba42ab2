use Rattle.sp_bits.specs.Places.{members_below}
use Rattle.sp_bits.proofs.Counts.{AreTrueBelow-end, greatest_found, none_where_empty}
use Rattle.sp_bits.proofs.row.Row.highest_below.Goals as goal

pub returns-clause-some : goal.returns-clause-some
returns-clause-some c =
    greatest_found c.self.inside.words c.args.place (members_below c.args.self.now c.args.place) c.last_before.result
    (AreTrueBelow-end c.self.inside.words c.args.self.now c.args.place c.requires c.self.view_is) c.last_before.ensures.some

pub returns-clause-none : goal.returns-clause-none
returns-clause-none c =
    none_where_empty c.self.inside.words c.args.place (members_below c.args.self.now c.args.place) c.last_before.result
    (AreTrueBelow-end c.self.inside.words c.args.self.now c.args.place c.requires c.self.view_is) c.last_before.ensures.some
    c.last_before.ensures.none
