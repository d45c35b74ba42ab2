use Rattle.std.proofs.Common.{◌≡◌, ◌≢◌, ◌∙◌, ◌<◌, ◌&&◌, ◌||◌, List, [], ℕ, true, ap, arith, get_or, sym}
use Rattle.std.proofs.lemmas.Bool.{and_from, and_parts, or_left, or_right}
use Rattle.sp_dag.specs.Numbered.{Numbered, graph_of, pairs_of, IsPair}
use Rattle.sp_dag.proofs.Ranked.{downset_numbered, pair_kind}
use Rattle.sp_frozen.specs.Voters.{AreFrozen}
use Rattle.sp_model.specs.Graph.{Graph, has}
use Rattle.sp_model.specs.Loose.{is_loose}
use Rattle.sp_view.specs.Seen.{HasAbove}
use Rattle.sp_view.specs.Stored.{row_of}
use Rattle.sp_view.proofs.Held.{some_pair}
use Rattle.sp_view.proofs.Opened.{several_kept}
use Rattle.sp_view.proofs.Opening.{both_parts, first_in, second_in}
use Rattle.sp_view.proofs.TwoRows.{frozen_among}
use Rattle.sp_view.proofs.asked_by_growth.asked_by_growth.Goals as goal

pub loose_of-loose-requires-clause-small : goal.loose_of-loose-requires-clause-small
loose_of-loose-requires-clause-small c = λ z h. (let lt = c.args.growth.now.grown.voting.below z (c.args.growth.now.growth.within z h) in omega (arith, lt, c.len-blocks.ensures.numbered.small))

pub opened_by-voters-requires-clause-small : goal.opened_by-voters-requires-clause-small
opened_by-voters-requires-clause-small c = λ z h.
    let pair = get_or (pairs_of c.args.growth.now.set.dag.now) c.args.pair (0, 0) in
    let is = c.loose_of-loose.ensures pair.0 pair.1 (some_pair (pairs_of c.args.growth.now.set.dag.now) c.args.pair c.requires.listed) z in
    let lt = c.args.growth.now.grown.voting.below z (c.args.growth.now.growth.within z (and_parts (has c.args.growth.now.below.now z) (is_loose (graph_of c.args.growth.now.set.dag.now) z pair.0 pair.1) (sym is ∙ h)).0) in
    omega (arith, lt, c.len-blocks.ensures.numbered.small)

pub opened_by-others-requires-clause-small : goal.opened_by-others-requires-clause-small
opened_by-others-requires-clause-small c = λ z h.
    let pair = get_or (pairs_of c.args.growth.now.set.dag.now) c.args.pair (0, 0) in
    let is = c.loose_of-loose.ensures pair.0 pair.1 (some_pair (pairs_of c.args.growth.now.set.dag.now) c.args.pair c.requires.listed) z in
    let lt = c.args.growth.now.grown.voting.below z (c.args.growth.now.growth.within z (and_parts (has c.args.growth.now.below.now z) (is_loose (graph_of c.args.growth.now.set.dag.now) z pair.0 pair.1) (sym is ∙ h)).0) in
    omega (arith, lt, c.len-blocks.ensures.numbered.small)

pub returns-clause-within : goal.returns-clause-within
returns-clause-within c = λ z h.
    let pair = get_or (pairs_of c.args.growth.now.set.dag.now) c.args.pair (0, 0) in
    let is : (z : ℕ) → has c.loose_of-loose.result z ≡ (has c.args.growth.now.below.now z && is_loose (graph_of c.args.growth.now.set.dag.now) z pair.0 pair.1) =
    c.loose_of-loose.ensures pair.0 pair.1 (some_pair (pairs_of c.args.growth.now.set.dag.now) c.args.pair c.requires.listed) in
    let into : (z : ℕ) → has c.loose_of-loose.result z ≡ true → has c.args.growth.now.set.members.now z ≡ true =
    λ z h. c.args.growth.now.growth.within z (and_parts (has c.args.growth.now.below.now z) (is_loose (graph_of c.args.growth.now.set.dag.now) z pair.0 pair.1) (sym (is z) ∙ h)).0 in
    let below : (z : ℕ) → has c.args.growth.now.set.members.now z ≡ true → z < 512 = λ z h. (let lt = c.args.growth.now.grown.voting.below z h in omega (arith, lt, c.len-blocks.ensures.numbered.small)) in
    both_parts c.opened_by-voters.result c.opened_by-others.result c.or_with.new.self
    (λ z h. below z (into z (c.opened_by-voters.ensures.within z h))) (λ z h. below z (into z (c.opened_by-others.ensures.within z h))) c.or_with.ensures (has c.args.growth.now.set.members.now z ≡ true) z
    (λ h. into z (c.opened_by-voters.ensures.within z h)) (λ h. into z (c.opened_by-others.ensures.within z h)) h

-- a block that joins and is in the row of one side is a frozen voter
voter_above : (g : Graph) (blocks row plus minus : List ℕ) (z : ℕ) → ((b : ℕ) → has row b ≡ true → (has plus b || has minus b) ≡ true) → HasAbove g (λ b. has blocks b && has row b) z
    → HasAbove g (λ b. has blocks b && (has plus b || has minus b)) z
voter_above g blocks row plus minus z into above =
    let parts = and_parts (has blocks above.0) (has row above.0) above.1 in
    (above.0, and_from (has blocks above.0) (has plus above.0 || has minus above.0) parts.0 (into above.0 parts.1), above.2)

pub returns-clause-above : goal.returns-clause-above
returns-clause-above c = λ z h.
    let g : Graph = graph_of c.args.growth.now.set.dag.now in
    let plus : List ℕ = get_or c.args.growth.now.set.frozen.now.pluses c.args.pair [] in
    let minus : List ℕ = get_or c.args.growth.now.set.frozen.now.minuses c.args.pair [] in
    let pair = get_or (pairs_of c.args.growth.now.set.dag.now) c.args.pair (0, 0) in
    let is : (z : ℕ) → has c.loose_of-loose.result z ≡ (has c.args.growth.now.below.now z && is_loose g z pair.0 pair.1) =
    c.loose_of-loose.ensures pair.0 pair.1 (some_pair (pairs_of c.args.growth.now.set.dag.now) c.args.pair c.requires.listed) in
    let into : (z : ℕ) → has c.loose_of-loose.result z ≡ true → has c.args.growth.now.set.members.now z ≡ true =
    λ z h. c.args.growth.now.growth.within z (and_parts (has c.args.growth.now.below.now z) (is_loose g z pair.0 pair.1) (sym (is z) ∙ h)).0 in
    let below : (z : ℕ) → has c.args.growth.now.set.members.now z ≡ true → z < 512 = λ z h. (let lt = c.args.growth.now.grown.voting.below z h in omega (arith, lt, c.len-blocks.ensures.numbered.small)) in
    both_parts c.opened_by-voters.result c.opened_by-others.result c.or_with.new.self
    (λ z h. below z (into z (c.opened_by-voters.ensures.within z h))) (λ z h. below z (into z (c.opened_by-others.ensures.within z h))) c.or_with.ensures
    (HasAbove g (λ b. has c.args.growth.now.blocks.now b && (has plus b || has minus b)) z) z
    (λ h. voter_above g c.args.growth.now.blocks.now c.plus.result.now plus minus z (λ b h. or_left (has plus b) (has minus b) (ap (λ (l : List ℕ). has l b) (sym c.plus.ensures) ∙ h)) (c.opened_by-voters.ensures.only z h))
    (λ h. voter_above g c.args.growth.now.blocks.now c.minus.result.now plus minus z (λ b h. or_right (has plus b) (has minus b) (ap (λ (l : List ℕ). has l b) (sym c.minus.ensures) ∙ h)) (c.opened_by-others.ensures.only z h)) h

pub returns-clause-kept : goal.returns-clause-kept
returns-clause-kept c = λ x y at sides.
    let table : Numbered = c.args.growth.now.set.dag.now in
    let g : Graph = graph_of table in
    let kind : IsPair table (x, y) = pair_kind table c.args.pair (x, y) at in
    let apart : x ≢ y = λ e. (let le : x < y = kind.order in omega arith) in
    let below : (z : ℕ) → has c.args.growth.now.set.members.now z ≡ true → z < 512 = λ z h. (let lt = c.args.growth.now.grown.voting.below z h in omega (arith, lt, c.len-blocks.ensures.numbered.small)) in
    let is : (z : ℕ) → has c.loose_of-loose.result z ≡ (has c.args.growth.now.below.now z && is_loose g z x y) = c.loose_of-loose.ensures x y at in
    let parts : (z : ℕ) → has c.loose_of-loose.result z ≡ true → (has c.args.growth.now.below.now z ≡ true) × (is_loose g z x y ≡ true) =
    λ z h. and_parts (has c.args.growth.now.below.now z) (is_loose g z x y) (sym (is z) ∙ h) in
    let into : (z : ℕ) → has c.loose_of-loose.result z ≡ true → has c.args.growth.now.set.members.now z ≡ true = λ z h. c.args.growth.now.growth.within z (parts z h).0 in
    let frozen : AreFrozen g c.args.growth.now.set.members.now x y c.plus.result.now c.minus.result.now =
    rw (c.plus.ensures, c.minus.ensures) (frozen_among table c.args.growth.now.set.frozen.now c.args.growth.now.set.members.now c.args.pair x y c.args.growth.now.grown.voting.held at c.requires.inside c.args.growth.now.grown.voting.added) in
    let small : (z : ℕ) → has c.opened_by-voters.result z ≡ true → z < 512 = λ z h. below z (into z (c.opened_by-voters.ensures.within z h)) in
    let small' : (z : ℕ) → has c.opened_by-others.result z ≡ true → z < 512 = λ z h. below z (into z (c.opened_by-others.ensures.within z h)) in (
      record {
        member = λ z h. both_parts c.opened_by-voters.result c.opened_by-others.result c.or_with.new.self small small' c.or_with.ensures (has c.args.growth.now.set.members.now z ≡ true) z
            (λ h. into z (c.opened_by-voters.ensures.within z h)) (λ h. into z (c.opened_by-others.ensures.within z h)) h;
        loose = λ z h. both_parts c.opened_by-voters.result c.opened_by-others.result c.or_with.new.self small small' c.or_with.ensures (is_loose g z x y ≡ true) z
            (λ h. (parts z (c.opened_by-voters.ensures.within z h)).1) (λ h. (parts z (c.opened_by-others.ensures.within z h)).1) h;
      },
      several_kept g c.args.growth.now.before.now c.args.growth.now.set.members.now x y c.plus.result.now c.minus.result.now (row_of c.args.pool.now c.args.entry.now.0) (row_of c.args.pool.now c.args.entry.now.1) c.or_with.new.self
          (downset_numbered table c.len-blocks.ensures.numbered.order) apart c.args.growth.now.grown.asked c.args.growth.now.grown.voting.asked c.args.growth.now.grown.into frozen sides
          (λ b z member new voter r free out.
          (let joins : has c.args.growth.now.blocks.now b ≡ true = c.args.growth.now.growth.all b member new in
          first_in c.opened_by-voters.result c.opened_by-others.result c.or_with.new.self small small' c.or_with.ensures z
          (c.opened_by-voters.ensures.covers b z joins voter r (is z ∙ and_from (has c.args.growth.now.below.now z) (is_loose g z x y) (c.args.growth.now.growth.covers b z joins r) free) out)))
          (λ b z member new voter r free out.
          (let joins : has c.args.growth.now.blocks.now b ≡ true = c.args.growth.now.growth.all b member new in
          second_in c.opened_by-voters.result c.opened_by-others.result c.or_with.new.self small small' c.or_with.ensures z
          (c.opened_by-others.ensures.covers b z joins voter r (is z ∙ and_from (has c.args.growth.now.below.now z) (is_loose g z x y) (c.args.growth.now.growth.covers b z joins r) free) out))),
    )
