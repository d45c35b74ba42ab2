use Rattle.std.proofs.Common.{◌≡◌, ◌∙◌, ◌<◌, FitsSigned, ℕ, Option, Some, arith, get_or, length, rules, subst}
use Rattle.std.specs.Prelude.{ℤ, slice_get, IfSome}
use Rattle.std.proofs.lemmas.Int.{ints, to_z-of_z}
use Rattle.std.specs.Int.{w32}
use Rattle.sp_dag.specs.Numbered.{Numbered, graph_of, pairs_of}
use Rattle.sp_view.specs.Gained.{IsGain}
use Rattle.sp_view.specs.Sums.{sum_of}
use Rattle.sp_view.specs.Views.{IsEntry}
use Rattle.sp_view.proofs.Held.{some_pair}
use Rattle.sp_view.proofs.JoinedSums.{inside_listed, inside_more, sum_small, sum_small_after, IsSmall}
use Rattle.sp_view.proofs.TwoRows.{frozen_among}
use Rattle.sp_view.proofs.summing.sum_after.Goals as goal

pub overflow_add-result : goal.overflow_add-result
overflow_add-result c =
    let table : Numbered = c.args.join.now.set.dag.now in
    let pair = get_or (pairs_of table) c.args.pair (0, 0) in
    let at : slice_get (pairs_of table) c.args.pair ≡ Some (pair.0, pair.1) = some_pair (pairs_of table) c.args.pair c.requires.listed in
    let gain : IsGain (graph_of table) c.args.join.now.before.now c.args.join.now.set.members.now pair.0 pair.1 c.in-Some-gain.gain =
    subst (λ (o : Option ℤ). IfSome o (IsGain (graph_of table) c.args.join.now.before.now c.args.join.now.set.members.now pair.0 pair.1)) c.in-Some-gain.is (c.requires.gain pair.0 pair.1 at) in
    let listed : c.args.pair < length c.args.join.now.set.frozen.now.pluses =
    inside_listed table c.args.join.now.set.frozen.now c.args.join.now.b c.args.join.now.before.now c.args.join.now.set.members.now c.args.pair pair.0 pair.1 c.args.join.now.joined at
    (inside_more table c.args.join.now.set.frozen.now c.args.join.now.b c.args.join.now.before.now c.args.join.now.set.members.now pair.0 pair.1 c.args.join.now.joined gain.inside) in
    let small : IsSmall (sum_of (graph_of table) c.args.join.now.before.now pair.0 pair.1) = sum_small table c.args.join.now.set.frozen.now c.args.join.now.b c.args.join.now.before.now c.args.join.now.set.members.now c.args.pair pair.0 pair.1 c.args.join.now.joined at listed in
    let small' : IsSmall (sum_of (graph_of table) c.args.join.now.set.members.now pair.0 pair.1) = sum_small_after table c.args.join.now.set.frozen.now c.args.join.now.b c.args.join.now.before.now c.args.join.now.set.members.now c.args.pair pair.0 pair.1 c.args.join.now.joined at listed in
    let sum : c.args.sum ≡ sum_of (graph_of table) c.args.join.now.before.now pair.0 pair.1 = c.requires.sum pair.0 pair.1 at gain.inside in
    let f : FitsSigned w32 c.args.sum = search rules in
    let f' : FitsSigned w32 c.in-Some-gain.gain = omega (arith, ints, gain.sum_is, small.is, small.few_ups, small.few_downs, small'.is, small'.few_ups, small'.few_downs) in
    omega (
      arith,
      ints,
      sum,
      gain.sum_is,
      small.is,
      small.few_ups,
      small.few_downs,
      small'.is,
      small'.few_ups,
      small'.few_downs,
      to_z-of_z w32 _ f,
      to_z-of_z w32 _ f',
    )

pub returns-in-Some-gain : goal.returns-in-Some-gain
returns-in-Some-gain c = λ x y at inside.
    let table : Numbered = c.args.join.now.set.dag.now in
    let gain : IsGain (graph_of table) c.args.join.now.before.now c.args.join.now.set.members.now x y c.in-Some-gain.gain =
    subst (λ (o : Option ℤ). IfSome o (IsGain (graph_of table) c.args.join.now.before.now c.args.join.now.set.members.now x y)) c.in-Some-gain.is (c.requires.gain x y at) in
    let listed : c.args.pair < length c.args.join.now.set.frozen.now.pluses =
    inside_listed table c.args.join.now.set.frozen.now c.args.join.now.b c.args.join.now.before.now c.args.join.now.set.members.now c.args.pair x y c.args.join.now.joined at
    (inside_more table c.args.join.now.set.frozen.now c.args.join.now.b c.args.join.now.before.now c.args.join.now.set.members.now x y c.args.join.now.joined gain.inside) in
    let small : IsSmall (sum_of (graph_of table) c.args.join.now.before.now x y) = sum_small table c.args.join.now.set.frozen.now c.args.join.now.b c.args.join.now.before.now c.args.join.now.set.members.now c.args.pair x y c.args.join.now.joined at listed in
    let small' : IsSmall (sum_of (graph_of table) c.args.join.now.set.members.now x y) = sum_small_after table c.args.join.now.set.frozen.now c.args.join.now.b c.args.join.now.before.now c.args.join.now.set.members.now c.args.pair x y c.args.join.now.joined at listed in
    let sum : c.args.sum ≡ sum_of (graph_of table) c.args.join.now.before.now x y = c.requires.sum x y at gain.inside in
    let f : FitsSigned w32 c.args.sum = search rules in
    let f' : FitsSigned w32 c.in-Some-gain.gain = omega (arith, ints, gain.sum_is, small.is, small.few_ups, small.few_downs, small'.is, small'.few_ups, small'.few_downs) in
    omega (
      arith,
      ints,
      sum,
      gain.sum_is,
      small.is,
      small.few_ups,
      small.few_downs,
      small'.is,
      small'.few_ups,
      small'.few_downs,
      to_z-of_z w32 _ f,
      to_z-of_z w32 _ f',
    )

pub plus-requires : goal.plus-requires
plus-requires c =
    let table : Numbered = c.args.join.now.set.dag.now in
    let pair = get_or (pairs_of table) c.args.pair (0, 0) in
    let at : slice_get (pairs_of table) c.args.pair ≡ Some (pair.0, pair.1) = some_pair (pairs_of table) c.args.pair c.requires.listed in
    let entry : IsEntry (graph_of table) c.args.join.now.set.members.now pair.0 pair.1 c.args.pool.now (Some (c.in-Some.plus, c.in-Some.minus)) =
    subst (λ (o : Option (ℕ × ℕ)). IsEntry (graph_of table) c.args.join.now.set.members.now pair.0 pair.1 c.args.pool.now o) c.in-Some.is (c.requires.entry pair.0 pair.1 at) in
    inside_listed table c.args.join.now.set.frozen.now c.args.join.now.b c.args.join.now.before.now c.args.join.now.set.members.now c.args.pair pair.0 pair.1 c.args.join.now.joined at entry.0

pub minus-requires : goal.minus-requires
minus-requires c =
    let table : Numbered = c.args.join.now.set.dag.now in
    let pair = get_or (pairs_of table) c.args.pair (0, 0) in
    let at : slice_get (pairs_of table) c.args.pair ≡ Some (pair.0, pair.1) = some_pair (pairs_of table) c.args.pair c.requires.listed in
    let entry : IsEntry (graph_of table) c.args.join.now.set.members.now pair.0 pair.1 c.args.pool.now (Some (c.in-Some.plus, c.in-Some.minus)) =
    subst (λ (o : Option (ℕ × ℕ)). IsEntry (graph_of table) c.args.join.now.set.members.now pair.0 pair.1 c.args.pool.now o) c.in-Some.is (c.requires.entry pair.0 pair.1 at) in
    inside_listed table c.args.join.now.set.frozen.now c.args.join.now.b c.args.join.now.before.now c.args.join.now.set.members.now c.args.pair pair.0 pair.1 c.args.join.now.joined at entry.0

pub returns : goal.returns
returns c = λ x y at inside.
    let table : Numbered = c.args.join.now.set.dag.now in
    let f : FitsSigned w32 c.tally.result = search rules in
    let entry : IsEntry (graph_of table) c.args.join.now.set.members.now x y c.args.pool.now (Some (c.in-Some.plus, c.in-Some.minus)) =
    subst (λ (o : Option (ℕ × ℕ)). IsEntry (graph_of table) c.args.join.now.set.members.now x y c.args.pool.now o) c.in-Some.is (c.requires.entry x y at) in
    let listed : c.args.pair < length c.args.join.now.set.frozen.now.pluses = inside_listed table c.args.join.now.set.frozen.now c.args.join.now.b c.args.join.now.before.now c.args.join.now.set.members.now c.args.pair x y c.args.join.now.joined at inside in
    to_z-of_z w32 _ f
    ∙ c.tally.ensures table x y c.args.join.now.joined.voting.order c.args.join.now.joined.voting.asked
    (rw (c.plus.ensures, c.minus.ensures) (frozen_among table c.args.join.now.set.frozen.now c.args.join.now.set.members.now c.args.pair x y c.args.join.now.joined.voting.held at listed c.args.join.now.joined.voting.added))
    (rw (c.row_at.ensures, c.row_at-2.ensures) entry.1)
