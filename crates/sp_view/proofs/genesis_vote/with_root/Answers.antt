use Rattle.std.proofs.Common.{List, ℕ, ap, ◌∙◌, subst, sym}
use Rattle.sp_bits.specs.Places.{IsRow}
use Rattle.sp_model.specs.Graph.{has}
use Rattle.sp_view.proofs.Genesis.{with_it, without_it}
use Rattle.sp_view.proofs.Members.{is_row}
use Rattle.sp_view.proofs.genesis_vote.with_root.Goals as goal

pub returns-then-is_in-clause-row : goal.returns-then-is_in-clause-row
returns-then-is_in-clause-row c = subst IsRow (sym c.set.ensures) (is_row _)

pub returns-clause-row : goal.returns-clause-row
returns-clause-row c = subst IsRow (sym c.clear.ensures) (is_row _)

pub returns-then-is_in-clause-places : goal.returns-then-is_in-clause-places
returns-then-is_in-clause-places c = λ z. ap (λ (l : List ℕ). has l z) c.set.ensures ∙ rw c.if-is_in.true (with_it c.args.row.now z c.count-count.ensures.row)

pub returns-clause-places : goal.returns-clause-places
returns-clause-places c = λ z. ap (λ (l : List ℕ). has l z) c.clear.ensures ∙ rw c.if-is_in.false (without_it c.args.row.now z c.count-count.ensures.row)
