use Rattle.std.proofs.Common.{◌≡◌, ◌<◌, ℕ, List, [], arith, length, refl, subst, true}
use Rattle.sp_bits.specs.Places.{meet}
use Rattle.sp_dag.specs.Numbered.{Numbered, graph_of, AreInOrder}
use Rattle.sp_dag.proofs.Ranked.{ancestors_lower, downset_numbered}
use Rattle.sp_frozen.specs.Voters.{AreFrozen}
use Rattle.sp_model.specs.Graph.{Graph, has, in_past}
use Rattle.sp_view.specs.Settled.{AreKept}
use Rattle.sp_view.proofs.Alike.{told_down, told_open, told_tie, told_up}
use Rattle.sp_view.proofs.TwoRows.{frozen_among}
use Rattle.sp_view.proofs.both_sides.told.Goals as goal

upwards : (table : Numbered) (set : List ℕ) → AreInOrder table.parents → ((z : ℕ) → has set z ≡ true → z < length table.parents)
    → (w u : ℕ) → has set u ≡ true → in_past (graph_of table) w u ≡ true → w < u
upwards table set order below w u there up = ancestors_lower table w u order (below u there) up

-- no vote of a loose voter was known
none_kept : (g : Graph) (set todo ups downs : List ℕ) (x y : ℕ) → ups ≡ [] → downs ≡ [] → AreKept g set x y (has todo) ups downs → AreKept g set x y (has todo) [] []
none_kept g set todo ups downs x y e e' kept =
    subst (λ (l : List ℕ). AreKept g set x y (has todo) [] l) e' (subst (λ (l : List ℕ). AreKept g set x y (has todo) l downs) e kept)

pub returns-then-ups-downs-clause-rows : goal.returns-then-ups-downs-clause-rows
returns-then-ups-downs-clause-rows c = λ opened kept.
    let frozen : AreFrozen (graph_of c.args.set.now.dag.now) c.args.set.now.members.now c.args.x c.args.y c.plus.result.now c.minus.result.now =
    rw (c.plus.ensures, c.minus.ensures) (frozen_among c.args.set.now.dag.now c.args.set.now.frozen.now c.args.set.now.members.now c.args.pair c.args.x c.args.y c.args.set.now.voting.held c.requires.pair c.requires.inside c.args.set.now.voting.added) in
    let table : Numbered = c.args.set.now.dag.now in
    let set : List ℕ = c.args.set.now.members.now in
    let todo : List ℕ = c.args.known.now.todo in
    let none = none_kept (graph_of table) set todo c.args.known.now.sides.plus c.args.known.now.sides.minus c.args.x c.args.y (c.if-not-are_told.ensures.plus refl) (c.if-not-are_told.ensures.minus refl) kept in
    let less : length (meet set c.minus.result.now) < length (meet set c.plus.result.now) =
    omega (arith, c.if-ups-downs.true, c.count_and-ups.ensures.value, c.count_and-downs.ensures.value) in
    rw c.empty-none.ensures (
      told_open (graph_of table) set c.args.x c.args.y,
      told_up (graph_of table) set c.args.x c.args.y (downset_numbered table c.len-blocks.ensures.numbered.order) c.args.set.now.voting.asked (upwards table set c.len-blocks.ensures.numbered.order c.args.set.now.voting.below)
          c.plus.result.now c.minus.result.now todo frozen opened none (λ z h. (c.if-not-are_told.ensures.below_x refl z h, c.if-not-are_told.ensures.below_y refl z h)) less,
    )

pub returns-then-ups-downs-2-clause-rows : goal.returns-then-ups-downs-2-clause-rows
returns-then-ups-downs-2-clause-rows c = λ opened kept.
    let frozen : AreFrozen (graph_of c.args.set.now.dag.now) c.args.set.now.members.now c.args.x c.args.y c.plus.result.now c.minus.result.now =
    rw (c.plus.ensures, c.minus.ensures) (frozen_among c.args.set.now.dag.now c.args.set.now.frozen.now c.args.set.now.members.now c.args.pair c.args.x c.args.y c.args.set.now.voting.held c.requires.pair c.requires.inside c.args.set.now.voting.added) in
    let table : Numbered = c.args.set.now.dag.now in
    let set : List ℕ = c.args.set.now.members.now in
    let todo : List ℕ = c.args.known.now.todo in
    let none = none_kept (graph_of table) set todo c.args.known.now.sides.plus c.args.known.now.sides.minus c.args.x c.args.y (c.if-not-are_told.ensures.plus refl) (c.if-not-are_told.ensures.minus refl) kept in
    let less : length (meet set c.plus.result.now) < length (meet set c.minus.result.now) =
    omega (arith, c.if-ups-downs-2.true, c.count_and-ups.ensures.value, c.count_and-downs.ensures.value) in
    rw c.empty-none.ensures (
      told_open (graph_of table) set c.args.x c.args.y,
      told_down (graph_of table) set c.args.x c.args.y (downset_numbered table c.len-blocks.ensures.numbered.order) c.args.set.now.voting.asked (upwards table set c.len-blocks.ensures.numbered.order c.args.set.now.voting.below)
          c.plus.result.now c.minus.result.now todo frozen opened none (λ z h. (c.if-not-are_told.ensures.below_x refl z h, c.if-not-are_told.ensures.below_y refl z h)) less,
    )

pub returns-clause-rows : goal.returns-clause-rows
returns-clause-rows c = λ opened kept.
    let frozen : AreFrozen (graph_of c.args.set.now.dag.now) c.args.set.now.members.now c.args.x c.args.y c.plus.result.now c.minus.result.now =
    rw (c.plus.ensures, c.minus.ensures) (frozen_among c.args.set.now.dag.now c.args.set.now.frozen.now c.args.set.now.members.now c.args.pair c.args.x c.args.y c.args.set.now.voting.held c.requires.pair c.requires.inside c.args.set.now.voting.added) in
    let table : Numbered = c.args.set.now.dag.now in
    let set : List ℕ = c.args.set.now.members.now in
    let todo : List ℕ = c.args.known.now.todo in
    let none = none_kept (graph_of table) set todo c.args.known.now.sides.plus c.args.known.now.sides.minus c.args.x c.args.y (c.if-not-are_told.ensures.plus refl) (c.if-not-are_told.ensures.minus refl) kept in
    let even : length (meet set c.plus.result.now) ≡ length (meet set c.minus.result.now) =
    omega (arith, c.if-ups-downs.false, c.if-ups-downs-2.false, c.count_and-ups.ensures.value, c.count_and-downs.ensures.value) in
    rw c.empty-none.ensures (
      told_open (graph_of table) set c.args.x c.args.y,
      told_tie (graph_of table) set c.args.x c.args.y (downset_numbered table c.len-blocks.ensures.numbered.order) c.args.set.now.voting.asked (upwards table set c.len-blocks.ensures.numbered.order c.args.set.now.voting.below)
          c.plus.result.now c.minus.result.now todo frozen opened none (λ z h. (c.if-not-are_told.ensures.below_x refl z h, c.if-not-are_told.ensures.below_y refl z h)) even,
    )
