use Rattle.std.proofs.Common.{◌≡◌, ◌∙◌, ℕ, List, Some, ap, sym, true}
use Rattle.sp_bits.specs.Places.{members_below}
use Rattle.sp_dag.specs.Numbered.{Numbered, graph_of}
use Rattle.sp_dag.proofs.Ranked.{ancestors_lower}
use Rattle.sp_model.specs.Graph.{Graph, has}
use Rattle.sp_view.specs.Settled.{left_of, without}
use Rattle.sp_view.proofs.Downward.{below_is, below_only, below_opened, below_parts, highest_is_next, votes_but_same}
use Rattle.sp_view.proofs.settle.settle_next.Goals as goal

pub follow-requires-clause-below : goal.follow-requires-clause-below
follow-requires-clause-below c = λ z h. c.requires.below z (below_parts c.args.left.now c.args.voter z (ap (λ (l : List ℕ). has l z) (sym c.clear_from.ensures) ∙ h)).0

pub returns-then-step-eq0-clause-among : goal.returns-then-step-eq0-clause-among
returns-then-step-eq0-clause-among c = λ z h.
    (below_parts c.args.left.now c.args.voter z (ap (λ (l : List ℕ). has l z) (sym c.clear_from.ensures) ∙ c.follow.ensures.among z h)).0

pub returns-then-step-eq0-clause-settled : goal.returns-then-step-eq0-clause-settled
returns-then-step-eq0-clause-settled c = λ set x y asked opened votes.
    let table : Numbered = c.args.dag.now in
    let g : Graph = graph_of table in
    let left : List ℕ = c.args.left.now in
    let voter : ℕ = c.args.voter in
    let below : List ℕ = c.clear_from.new.self in
    let after : List ℕ = c.follow.new.left in
    let into : (z : ℕ) → has below z ≡ true → has (members_below left voter) z ≡ true = λ z h. ap (λ (l : List ℕ). has l z) (sym c.clear_from.ensures) ∙ h in
    let same : (z : ℕ) → without (left_of left (Some voter)) voter z ≡ has below z = λ z. below_is left voter z ∙ ap (λ (l : List ℕ). has l z) (sym c.clear_from.ensures) in
    votes_but_same g set x y (has after) (without (left_of after (Some voter)) voter) c.follow.new.plus c.follow.new.minus
    (below_only after voter (λ z h. (below_parts left voter z (into z (c.follow.ensures.among z h))).1))
    (c.follow.ensures.settled set x y asked
    (below_opened g set x y left voter below into opened)
    (votes_but_same g set x y (without (left_of left (Some voter)) voter) (has below) c.settle_one-heard.new.plus c.settle_one-heard.new.minus same
    (c.settle_one-heard.ensures.settled set x y (left_of left (Some voter)) asked opened
    (highest_is_next g left voter c.requires.open_still
    (λ w h r. ancestors_lower table voter w c.len-blocks.ensures.numbered.order (c.requires.below w h) r))
    votes)))

pub returns-else-step-eq0-clause-settled : goal.returns-else-step-eq0-clause-settled
returns-else-step-eq0-clause-settled c = λ set x y asked opened votes.
    let table : Numbered = c.args.dag.now in
    let g : Graph = graph_of table in
    let left : List ℕ = c.args.left.now in
    let voter : ℕ = c.args.voter in
    c.settle_one-heard.ensures.settled set x y (left_of left (Some voter)) asked opened
    (highest_is_next g left voter c.requires.open_still
    (λ w h r. ancestors_lower table voter w c.len-blocks.ensures.numbered.order (c.requires.below w h) r))
    votes
