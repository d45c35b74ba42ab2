use Rattle.std.proofs.Common.{◌∙◌, ap, sym, length}
use Rattle.sp_bits.specs.Places.{places_where}
use Rattle.sp_bits.specs.Words.{bit_in}
use Rattle.sp_bits.proofs.Bits.{row-small}
use Rattle.sp_bits.proofs.Sets.{has-view, meet-view}
use Rattle.sp_bits.proofs.row.Row.count_span.Goals as goal

pub count_span-requires : goal.count_span-requires
count_span-requires c = record {
  within = λ p here.
      c.requires.within p (sym (has-view (bit_in c.self.inside.words) c.args.self.now p c.self.view_is (row-small c.self.inside.words p c.self.invariant.long here)) ∙ here);
}

pub returns-clause-plus : goal.returns-clause-plus
unfolding places_where
returns-clause-plus c =
    c.count_span.ensures.plus
    ∙ ap length (meet-view (bit_in c.self.inside.words) (bit_in c.plus.inside.words) c.args.self.now c.args.plus.now c.self.view_is c.plus.view_is)

pub returns-clause-minus : goal.returns-clause-minus
unfolding places_where
returns-clause-minus c =
    c.count_span.ensures.minus
    ∙ ap length (meet-view (bit_in c.self.inside.words) (bit_in c.minus.inside.words) c.args.self.now c.args.minus.now c.self.view_is c.minus.view_is)
