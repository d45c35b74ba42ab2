use Rattle.std.proofs.Common.{List, ℕ, ap, sym, ◌∙◌}
use Rattle.sp_bits.specs.Places.{places_where}
use Rattle.sp_bits.specs.Words.{bit_in, words_of, words_of_places}
use Rattle.sp_bits.proofs.row.Row.same.Goals as goal

pub returns : goal.returns
returns c = (
  λ h. sym c.self.view_is ∙ ap (λ (l : List ℕ). places_where (bit_in l)) (c.are_same.ensures.0 h) ∙ c.other.view_is,
  λ e. c.are_same.ensures.1
      (sym (words_of_places c.self.inside.words c.self.invariant) ∙ ap words_of (c.self.view_is ∙ e ∙ sym c.other.view_is)
      ∙ words_of_places c.other.inside.words c.other.invariant),
)
