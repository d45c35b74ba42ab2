use Rattle.std.proofs.Common.{◌≡◌, ◌∙◌, ◌<◌, ◌+◌, ℕ, List, ap, arith, length, sym, true}
use Rattle.sp_bits.specs.Places.{difference, meet}
use Rattle.sp_dag.specs.Numbered.{Numbered, graph_of}
use Rattle.sp_dag.proofs.Ranked.{ancestors_lower, future_members, past_members}
use Rattle.sp_model.specs.Graph.{Graph, has, in_past, future, keys}
use Rattle.sp_model.specs.Loose.{is_plus, is_minus}
use Rattle.sp_view.proofs.Following.{follows, meet_parts, minus_only, minus_wins, plus_only, plus_wins}
use Rattle.sp_view.proofs.settle.followers.Goals as goal

pub returns-clause-among : goal.returns-clause-among
returns-clause-among c = λ z h. (meet_parts c.args.left.now c.past-past.result.now z (ap (λ (l : List ℕ). has l z) (sym c.and_with.ensures) ∙ h)).0

pub returns-clause-plus : goal.returns-clause-plus
returns-clause-plus c = λ set x y asked opened votes z h.
    let table : Numbered = c.args.dag.now in
    let g : Graph = graph_of table in
    let past : List ℕ = c.past-past.result.now in
    let above : List ℕ = future g (keys g) c.args.voter in
    let parts : (has c.args.left.now z ≡ true) × (has past z ≡ true) = meet_parts c.args.left.now past z (ap (λ (l : List ℕ). has l z) (sym c.and_with.ensures) ∙ h) in
    let past_is : (u : ℕ) → has past u ≡ in_past g u c.args.voter =
    λ u. ap (λ (l : List ℕ). has l u) c.past-past.ensures ∙ past_members table u c.args.voter c.len-blocks.ensures.numbered.order c.requires.within in
    let above_is : (u : ℕ) → has above u ≡ in_past g c.args.voter u = λ u. future_members table c.args.voter u in
    let upward : (w u : ℕ) → has c.args.left.now u ≡ true → in_past g w u ≡ true → w < u =
    λ w u there up. ancestors_lower table w u c.len-blocks.ensures.numbered.order (c.requires.below u there) up in
    let apart : length c.without.new.self ≡ length (difference c.args.left.now past) = ap (λ (l : List ℕ). length l) c.without.ensures in
    let more : length c.args.against.now + length (difference c.args.left.now past) < length (meet above c.args.with.now) =
    omega (arith, c.if-heard-opposed-2.false, c.requires.heard, c.count-opposed.ensures.value, c.count.ensures.value, apart) in
    follows g set x y c.args.voter is_plus is_minus c.args.left.now c.args.with.now c.args.against.now past above asked opened votes.plus_is votes.minus_is c.count-opposed.ensures.row
    past_is above_is upward plus_only (λ w still less. plus_wins g set x y w asked (has c.args.left.now) opened still less) more z parts.0 (sym (past_is z) ∙ parts.1)

pub returns-clause-minus : goal.returns-clause-minus
returns-clause-minus c = λ set x y asked opened votes z h.
    let table : Numbered = c.args.dag.now in
    let g : Graph = graph_of table in
    let past : List ℕ = c.past-past.result.now in
    let above : List ℕ = future g (keys g) c.args.voter in
    let parts : (has c.args.left.now z ≡ true) × (has past z ≡ true) = meet_parts c.args.left.now past z (ap (λ (l : List ℕ). has l z) (sym c.and_with.ensures) ∙ h) in
    let past_is : (u : ℕ) → has past u ≡ in_past g u c.args.voter =
    λ u. ap (λ (l : List ℕ). has l u) c.past-past.ensures ∙ past_members table u c.args.voter c.len-blocks.ensures.numbered.order c.requires.within in
    let above_is : (u : ℕ) → has above u ≡ in_past g c.args.voter u = λ u. future_members table c.args.voter u in
    let upward : (w u : ℕ) → has c.args.left.now u ≡ true → in_past g w u ≡ true → w < u =
    λ w u there up. ancestors_lower table w u c.len-blocks.ensures.numbered.order (c.requires.below u there) up in
    let apart : length c.without.new.self ≡ length (difference c.args.left.now past) = ap (λ (l : List ℕ). length l) c.without.ensures in
    let more : length c.args.against.now + length (difference c.args.left.now past) < length (meet above c.args.with.now) =
    omega (arith, c.if-heard-opposed-2.false, c.requires.heard, c.count-opposed.ensures.value, c.count.ensures.value, apart) in
    follows g set x y c.args.voter is_minus is_plus c.args.left.now c.args.with.now c.args.against.now past above asked opened votes.minus_is votes.plus_is c.count-opposed.ensures.row
    past_is above_is upward minus_only (λ w still less. minus_wins g set x y w asked (has c.args.left.now) opened still less) more z parts.0 (sym (past_is z) ∙ parts.1)
