use Rattle.std.proofs.Common.{◌≡◌, ◌∙◌, ◌<◌, ◌&&◌, ℕ, Bool, List, [], Some, ap, arith, refl, FitsSigned, get_or, length, not, rules, sym}
use Rattle.std.specs.Prelude.{slice_get}
use Rattle.std.specs.Int.{w32}
use Rattle.std.proofs.lemmas.Bool.{lt-ltb}
use Rattle.std.proofs.lemmas.Option.{slice_get_within}
use Rattle.std.proofs.lemmas.Int.{to_z-of_z}
use Rattle.sp_dag.specs.Numbered.{IsPair, Numbered, graph_of, pairs_of}
use Rattle.sp_dag.proofs.Ranked.{downset_numbered, pair_kind}
use Rattle.sp_frozen.specs.Voters.{AreFrozenBelow, FrozenRows, HoldsFrozen}
use Rattle.sp_model.specs.Graph.{has, in_past, keys}
use Rattle.sp_model.specs.Loose.{is_loose, is_plus, is_minus}
use Rattle.sp_model.specs.Votes.{vote}
use Rattle.sp_view.proofs.JoinedVotes.{vote_first, vote_second, vote_neither, vote_both}
use Rattle.sp_view.proofs.TwoRows.{pair_same}
use Rattle.sp_view.proofs.own_vote.own_vote.Goals as goal

-- what is told of a pair's block, by the same number
read : (table : Numbered) (b x x' : ℕ) (r v : Bool) → x' ≡ x → r ≡ in_past (graph_of table) x b → r ≡ v → in_past (graph_of table) x' b ≡ v
read table b x x' r v same told known = ap (λ (k : ℕ). in_past (graph_of table) k b) same ∙ sym told ∙ known

-- a pair's frozen rows tell whether one block is in them
read_frozen : (table : Numbered) (frozen : FrozenRows) (i x y b : ℕ) (plus minus : List ℕ) → HoldsFrozen table frozen → slice_get (pairs_of table) i ≡ Some (x, y) → i < length frozen.pluses → b < frozen.blocks
    → plus ≡ get_or frozen.pluses i [] → minus ≡ get_or frozen.minuses i []
    → (has plus b ≡ (not (is_loose (graph_of table) b x y) && is_plus (vote (graph_of table) (keys (graph_of table)) b x y)))
    × (has minus b ≡ (not (is_loose (graph_of table) b x y) && is_minus (vote (graph_of table) (keys (graph_of table)) b x y)))
read_frozen table frozen i x y b plus minus holds at listed added e e' =
    let rows : AreFrozenBelow (graph_of table) frozen.blocks x y (get_or frozen.pluses i []) (get_or frozen.minuses i []) = holds.each i x y at listed in (
      ap (λ (l : List ℕ). has l b) e ∙ rows.plus_is b ∙ rw (lt-ltb b frozen.blocks added) refl,
      ap (λ (l : List ℕ). has l b) e' ∙ rows.minus_is b ∙ rw (lt-ltb b frozen.blocks added) refl,
    )

pub in_past-first-requires-clause-a_in : goal.in_past-first-requires-clause-a_in
in_past-first-requires-clause-a_in c =
    let kind : IsPair c.args.join.now.set.dag.now (c.args.x, c.args.place.now.second) = pair_kind c.args.join.now.set.dag.now c.args.place.now.pair (c.args.x, c.args.place.now.second) c.requires.pair in
    let less : c.args.x < c.args.place.now.second = kind.order in
    let within : c.args.place.now.second < length c.args.join.now.set.dag.now.parents = kind.within in
    omega (arith, less, within)

pub returns-then-first : goal.returns-then-first
returns-then-first c = λ x y at inside.
    let table : Numbered = c.args.join.now.set.dag.now in
    let listed : c.args.place.now.pair < length (pairs_of table) = slice_get_within (pairs_of table) c.args.place.now.pair (x, y) at in
    let same = pair_same (pairs_of table) c.args.place.now.pair x y (c.args.x, c.args.place.now.second) at c.requires.pair in
    sym (vote_first (graph_of table) c.args.join.now.b c.args.join.now.before.now c.args.join.now.set.members.now x y c.args.join.now.joined.joins inside
    (read table c.args.join.now.b c.args.x x c.in_past-first.result _ same.0 c.in_past-first.ensures c.if-first.true)
    (read table c.args.join.now.b c.args.place.now.second y c.args.place.now.above _ same.1 (c.requires.place.above_is listed) c.if-not-place.true))

pub returns-else-first : goal.returns-else-first
returns-else-first c = λ x y at inside.
    let table : Numbered = c.args.join.now.set.dag.now in
    let listed : c.args.place.now.pair < length (pairs_of table) = slice_get_within (pairs_of table) c.args.place.now.pair (x, y) at in
    let same = pair_same (pairs_of table) c.args.place.now.pair x y (c.args.x, c.args.place.now.second) at c.requires.pair in
    sym (vote_neither (graph_of table) c.args.join.now.b c.args.join.now.before.now c.args.join.now.set.members.now x y c.args.join.now.joined.joins inside
    (read table c.args.join.now.b c.args.x x c.in_past-first.result _ same.0 c.in_past-first.ensures c.if-first.false)
    (read table c.args.join.now.b c.args.place.now.second y c.args.place.now.above _ same.1 (c.requires.place.above_is listed) c.if-not-place.true))

pub returns-then-not-first : goal.returns-then-not-first
returns-then-not-first c = λ x y at inside.
    let table : Numbered = c.args.join.now.set.dag.now in
    let listed : c.args.place.now.pair < length (pairs_of table) = slice_get_within (pairs_of table) c.args.place.now.pair (x, y) at in
    let same = pair_same (pairs_of table) c.args.place.now.pair x y (c.args.x, c.args.place.now.second) at c.requires.pair in
    sym (vote_second (graph_of table) c.args.join.now.b c.args.join.now.before.now c.args.join.now.set.members.now x y c.args.join.now.joined.joins inside
    (read table c.args.join.now.b c.args.x x c.in_past-first.result _ same.0 c.in_past-first.ensures c.if-not-first.true)
    (read table c.args.join.now.b c.args.place.now.second y c.args.place.now.above _ same.1 (c.requires.place.above_is listed) c.if-not-place.false))

pub returns : goal.returns
returns c = λ x y at inside.
    let table : Numbered = c.args.join.now.set.dag.now in
    let f : FitsSigned w32 c.vote_of.result = search rules in
    let same = pair_same (pairs_of table) c.args.place.now.pair x y (c.args.x, c.args.place.now.second) at c.requires.pair in
    let rows = read_frozen table c.args.join.now.set.frozen.now c.args.place.now.pair x y c.args.join.now.b c.plus.result.now c.minus.result.now c.args.join.now.joined.voting.held at c.requires.inside (c.args.join.now.joined.voting.added c.args.join.now.b c.args.join.now.joined.joins.there) c.plus.ensures c.minus.ensures in
    to_z-of_z w32 c.vote_of.result f ∙ c.vote_of.ensures
    ∙ sym (vote_both (graph_of table) c.args.join.now.b c.args.join.now.before.now c.args.join.now.set.members.now x y c.args.join.now.joined.joins inside (has c.plus.result.now c.args.join.now.b) (has c.minus.result.now c.args.join.now.b) (downset_numbered table c.len-blocks.ensures.numbered.order)
    (read table c.args.join.now.b c.args.x x c.in_past-first.result _ same.0 c.in_past-first.ensures c.if-not-first.false)
    rows.0 rows.1)
