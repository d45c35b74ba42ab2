use Rattle.std.proofs.Common.{◌∙◌, List, ap, arith, sym}
use Rattle.std.proofs.lemmas.Bool.{and_parts}
use Rattle.sp_model.specs.Graph.{has}
use Rattle.sp_rows.specs.Pool.{Counted, words_of}
use Rattle.sp_rows.specs.Pool as counted
use Rattle.sp_view.proofs.Pools.{row_of_words}
use Rattle.sp_view.proofs.derive.brought_entry.Goals as goal

pub returns-in_err-reserve-clause-others : goal.returns-in_err-reserve-clause-others
returns-in_err-reserve-clause-others c = λ r _. row_of_words c.args.pool.now c.reserve.new.self r (ap (λ (l : List Counted). words_of l r) c.in_err-reserve.ensures.rows)

pub new_entry-requires-clause-inside : goal.new_entry-requires-clause-inside
new_entry-requires-clause-inside c =
    c.args.set.now.voting.held.there c.args.pair c.pair-x.result.0 c.pair-x.result.1 c.pair-x.ensures.pair
    (c.args.set.now.voting.added c.pair-x.result.1 (and_parts (has c.args.set.now.members.now c.pair-x.result.0) (has c.args.set.now.members.now c.pair-x.result.1) (sym c.has_both.ensures ∙ c.if-not-has_both.false)).1)

pub returns-clause-others : goal.returns-clause-others
returns-clause-others c = λ r some.
    c.new_entry.ensures.step.others r (let same = ap (λ (l : List Counted). counted.count_of l r) c.in_ok-reserve.ensures.rows in omega (arith, some, same))
    ∙ row_of_words c.args.pool.now c.reserve.new.self r (ap (λ (l : List Counted). words_of l r) c.in_ok-reserve.ensures.rows)
