use Rattle.sp_bits.proofs.Counts.{AreTrueBelow-all, greatest_found, none_where_empty}
use Rattle.sp_bits.proofs.row.Row.highest.Goals as goal

pub returns-clause-some : goal.returns-clause-some
returns-clause-some c =
    greatest_found c.self.inside.words 512 c.args.self.now c.last_of.result
    (AreTrueBelow-all c.self.inside.words c.args.self.now c.self.view_is) c.last_of.ensures.some

pub returns-clause-none : goal.returns-clause-none
returns-clause-none c =
    none_where_empty c.self.inside.words 512 c.args.self.now c.last_of.result
    (AreTrueBelow-all c.self.inside.words c.args.self.now c.self.view_is) c.last_of.ensures.some c.last_of.ensures.none
