use Rattle.std.proofs.Common.{◌≡◌, ◌∙◌, ap, subst, Bool, true, List, ℕ, ◌<◌, length, min, max, Some, arith}
use Rattle.std.specs.Prelude.{slice_get, IfSome, IsNone, ◌↔◌}
use Rattle.sp_dag.specs.Shapes.{pairs_in}
use Rattle.sp_dag.proofs.Lookup.{index_read, some_is_pair, only_index, none_where_joined, joined_sorted, are_joined}
use Rattle.sp_dag.proofs.table.Table.pair_of.Goals as goal

pub returns-clause-some : goal.returns-clause-some
returns-clause-some c =
    let low = min c.args.x c.args.y in
    let high = max c.args.x c.args.y in
    let indices = c.self.inside.indices.items in
    let inside : high < length indices = omega (arith, ap length c.self.view_is, c.self.invariant.0.indices_long, c.requires.x_in, c.requires.y_in) in
    let read = index_read indices c.index.result.now c.at.result c.min-low.result c.max-high.result low high c.min-low.ensures c.max-high.ensures inside
    c.index.ensures c.at.ensures in
    subst (λ (t : List (List ℕ)). IfSome c.at.result (λ i. slice_get (pairs_in t) i ≡ Some (min c.args.x c.args.y, max c.args.x c.args.y))) c.self.view_is
    (some_is_pair c.self.inside.parents.items c.self.inside.pasts.items c.self.inside.futures.items c.self.inside.pairs.items indices low high c.at.result
    c.self.invariant.0 read)

pub returns-clause-only : goal.returns-clause-only
returns-clause-only c =
    let low = min c.args.x c.args.y in
    let high = max c.args.x c.args.y in
    let indices = c.self.inside.indices.items in
    let inside : high < length indices = omega (arith, ap length c.self.view_is, c.self.invariant.0.indices_long, c.requires.x_in, c.requires.y_in) in
    let read = index_read indices c.index.result.now c.at.result c.min-low.result c.max-high.result low high c.min-low.ensures c.max-high.ensures inside
    c.index.ensures c.at.ensures in
    λ i there. only_index c.self.inside.parents.items c.self.inside.pasts.items c.self.inside.futures.items c.self.inside.pairs.items indices low high i
    c.at.result c.self.invariant.0 read
    (ap (λ (t : List (List ℕ)). slice_get (pairs_in t) i) c.self.view_is ∙ there)

pub returns-clause-none : goal.returns-clause-none
returns-clause-none c =
    let low = min c.args.x c.args.y in
    let high = max c.args.x c.args.y in
    let table = c.self.inside.parents.items in
    let indices = c.self.inside.indices.items in
    let inside : high < length table = omega (arith, ap length c.self.view_is, c.requires.x_in, c.requires.y_in) in
    let there : high < length indices = omega (arith, inside, c.self.invariant.0.indices_long) in
    let read = index_read indices c.index.result.now c.at.result c.min-low.result c.max-high.result low high c.min-low.ensures c.max-high.ensures there
    c.index.ensures c.at.ensures in
    subst (λ (b : Bool). IsNone c.at.result ↔ (b ≡ true))
    (joined_sorted table c.args.x c.args.y ∙ ap (λ (t : List (List ℕ)). are_joined t c.args.x c.args.y) c.self.view_is)
    (none_where_joined table c.self.inside.pasts.items c.self.inside.futures.items c.self.inside.pairs.items indices low high c.at.result
    c.self.invariant.0 (omega arith) inside read)
