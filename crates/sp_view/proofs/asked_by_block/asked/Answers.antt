use Rattle.std.proofs.Common.{◌≡◌, ◌≢◌, ◌∙◌, ◌<◌, ◌≤◌, ℕ, Bool, true, false, List, [], Some, not, ◌&&◌, cond, ap, arith, length, subst, sym}
use Rattle.std.specs.Prelude.{pos, negsuc, slice_get}
use Rattle.std.proofs.lemmas.Bool.{false≢true, and_parts}
use Rattle.std.proofs.lemmas.Int.{ints}
use Rattle.std.proofs.lemmas.Option.{slice_get_within}
use Rattle.sp_bits.specs.Places.{difference, IsRow}
use Rattle.sp_dag.specs.Numbered.{AreInOrder, Numbered, graph_of, pairs_of, IsPair}
use Rattle.sp_dag.proofs.Ranked.{ancestors_lower, pair_kind}
use Rattle.sp_model.specs.Graph.{Graph, has, in_past}
use Rattle.sp_model.specs.Joining.{Joins}
use Rattle.sp_model.specs.Loose.{is_loose}
use Rattle.sp_model.specs.Votes.{vote}
use Rattle.sp_view.specs.Settled.{AreKept, AreOpen, AreSides, IsAsked}
use Rattle.sp_view.specs.Stored.{row_of}
use Rattle.sp_view.proofs.Free.{todo_told}
use Rattle.sp_view.proofs.JoinedRows.{agreeing_side, joined_kept, open_joined}
use Rattle.sp_view.proofs.JoinedVotes.{voting_bound}
use Rattle.sp_view.proofs.TwoRows.{pair_same}
use Rattle.sp_view.proofs.asked_by_block.asked.Goals as goal

one_differs : (up : Bool) → cond up (pos 1) (negsuc 0) ≢ pos 0
one_differs true = λ e. omega (arith, ints)
one_differs false = λ e. omega (arith, ints)

-- the blocks of a past are places of a row
small_past : (table : Numbered) (b : ℕ) → AreInOrder table.parents → length table.parents ≤ 512 → b < length table.parents → (z : ℕ) → in_past (graph_of table) z b ≡ true → z < 512
small_past table b order small within z h = (let lower : z < b = ancestors_lower table z b order within h in omega (arith, lower, within, small))

-- each vote that may change is open, and all else is kept
kept_of : (table : Numbered) (b : ℕ) (members : List ℕ) (i x' y' : ℕ) (ups downs agree todo : List ℕ) (up : Bool) → IsAsked (graph_of table) members → has members b ≡ true
    → slice_get (pairs_of table) i ≡ Some (x', y') → agree ≡ cond up ups downs
    → ((z : ℕ) → has todo z ≡ ((in_past (graph_of table) z b && is_loose (graph_of table) z x' y') && not (has agree z)))
    → (before : List ℕ) (x y : ℕ) → slice_get (pairs_of table) i ≡ Some (x, y) → Joins (graph_of table) b before members → IsRow before → AreSides (graph_of table) before x y ups downs
    → vote (graph_of table) members b x y ≡ cond up (pos 1) (negsuc 0)
    → AreOpen (graph_of table) members x y (has todo) × AreKept (graph_of table) members x y (has todo) (difference ups todo) (difference downs todo)
kept_of table b members i x' y' ups downs agree todo up asked there pair agree_is told before x y at j row sides votes =
    let g : Graph = graph_of table in
    let same : (x ≡ x') × (y ≡ y') = pair_same (pairs_of table) i x y (x', y') at pair in
    let kind : IsPair table (x, y) = pair_kind table i (x, y) at in
    let apart : x ≢ y = λ e. (let le : x < y = kind.order in omega arith) in
    let todo_is : (z : ℕ) → has todo z ≡ ((in_past g z b && is_loose g z x y) && not (has (cond up ups downs) z)) =
    λ z. rw (same.0, same.1) (told z ∙ ap (λ (l : List ℕ). (in_past g z b && is_loose g z x' y') && not (has l z)) agree_is) in (
      open_joined g b members x y (cond up ups downs) todo asked there todo_is,
      joined_kept g b before members x y ups downs j apart row asked sides (cond up ups downs) todo
          (voting_bound g b before members x y j (λ e. one_differs up (sym votes ∙ e)))
          (agreeing_side g b before members x y ups downs j apart row asked sides up votes)
          todo_is,
    )

pub closed-requires : goal.closed-requires
closed-requires c =
    let kind : IsPair c.args.join.now.set.dag.now (c.args.x, c.args.place.now.second) = pair_kind c.args.join.now.set.dag.now c.args.place.now.pair (c.args.x, c.args.place.now.second) c.requires.pair in
    let less : c.args.x < c.args.place.now.second = kind.order in
    let within : c.args.place.now.second < length c.args.join.now.set.dag.now.parents = kind.within in
    omega (arith, less, within)

pub returns-then-is_none-clause-below : goal.returns-then-is_none-clause-below
returns-then-is_none-clause-below c = λ z h. absurd (false≢true h)

pub returns-clause-below : goal.returns-clause-below
returns-clause-below c =
    let table : Numbered = c.args.join.now.set.dag.now in
    let listed : c.args.place.now.pair < length (pairs_of table) = slice_get_within (pairs_of table) c.args.place.now.pair (c.args.x, c.args.place.now.second) c.requires.pair in
    let told : (z : ℕ) → has c.without.new.self z ≡ ((in_past (graph_of table) z c.args.join.now.b && is_loose (graph_of table) z c.args.x c.args.place.now.second) && not (has c.side_of-settled.result z)) =
    todo_told (graph_of table) c.args.join.now.b c.args.x c.args.place.now.second c.args.place.now.free c.side_of-settled.result c.closed.result.now c.or_with.new.self
    (c.requires.place.free_is listed) (small_past table c.args.join.now.b c.len-blocks.ensures.numbered.order c.len-blocks.ensures.numbered.small (c.args.join.now.joined.voting.below c.args.join.now.b c.args.join.now.joined.joins.there))
    c.closed.ensures c.or_with.ensures c.without.new.self c.without.ensures in
    λ z h.
    (and_parts (in_past (graph_of table) z c.args.join.now.b) (is_loose (graph_of table) z c.args.x c.args.place.now.second)
    (and_parts (in_past (graph_of table) z c.args.join.now.b && is_loose (graph_of table) z c.args.x c.args.place.now.second) (not (has c.side_of-settled.result z)) (sym (told z) ∙ h)).0).0

pub returns-then-is_none-clause-within : goal.returns-then-is_none-clause-within
returns-then-is_none-clause-within c = λ z h. absurd (false≢true h)

pub returns-then-is_none-clause-kept : goal.returns-then-is_none-clause-kept
returns-then-is_none-clause-kept c =
    let table : Numbered = c.args.join.now.set.dag.now in
    let listed : c.args.place.now.pair < length (pairs_of table) = slice_get_within (pairs_of table) c.args.place.now.pair (c.args.x, c.args.place.now.second) c.requires.pair in
    let g : Graph = graph_of table in
    λ x y at sides votes. kept_of table c.args.join.now.b c.args.join.now.set.members.now c.args.place.now.pair c.args.x c.args.place.now.second (row_of c.args.pool.now c.args.entry.now.0) (row_of c.args.pool.now c.args.entry.now.1)
    c.side_of-settled.result [] c.args.up c.args.join.now.joined.voting.asked c.args.join.now.joined.joins.there c.requires.pair c.side_of-settled.ensures
    (subst (λ (l : List ℕ). (z : ℕ) → has l z ≡ ((in_past g z c.args.join.now.b && is_loose g z c.args.x c.args.place.now.second) && not (has c.side_of-settled.result z)))
    (c.is_none.ensures.0 c.if-is_none.true)
    (todo_told (graph_of table) c.args.join.now.b c.args.x c.args.place.now.second c.args.place.now.free c.side_of-settled.result c.closed.result.now c.or_with.new.self
    (c.requires.place.free_is listed) (small_past table c.args.join.now.b c.len-blocks.ensures.numbered.order c.len-blocks.ensures.numbered.small (c.args.join.now.joined.voting.below c.args.join.now.b c.args.join.now.joined.joins.there))
    c.closed.ensures c.or_with.ensures c.without.new.self c.without.ensures))
    c.args.join.now.before.now x y at c.args.join.now.joined.joins c.args.join.now.joined.row sides votes

pub returns-clause-within : goal.returns-clause-within
returns-clause-within c =
    let table : Numbered = c.args.join.now.set.dag.now in
    let listed : c.args.place.now.pair < length (pairs_of table) = slice_get_within (pairs_of table) c.args.place.now.pair (c.args.x, c.args.place.now.second) c.requires.pair in
    (open_joined (graph_of table) c.args.join.now.b c.args.join.now.set.members.now c.args.x c.args.place.now.second c.side_of-settled.result c.without.new.self c.args.join.now.joined.voting.asked c.args.join.now.joined.joins.there
    (todo_told (graph_of table) c.args.join.now.b c.args.x c.args.place.now.second c.args.place.now.free c.side_of-settled.result c.closed.result.now c.or_with.new.self
    (c.requires.place.free_is listed) (small_past table c.args.join.now.b c.len-blocks.ensures.numbered.order c.len-blocks.ensures.numbered.small (c.args.join.now.joined.voting.below c.args.join.now.b c.args.join.now.joined.joins.there))
    c.closed.ensures c.or_with.ensures c.without.new.self c.without.ensures)).member

pub returns-clause-kept : goal.returns-clause-kept
returns-clause-kept c =
    let table : Numbered = c.args.join.now.set.dag.now in
    let listed : c.args.place.now.pair < length (pairs_of table) = slice_get_within (pairs_of table) c.args.place.now.pair (c.args.x, c.args.place.now.second) c.requires.pair in
    λ x y at sides votes. kept_of table c.args.join.now.b c.args.join.now.set.members.now c.args.place.now.pair c.args.x c.args.place.now.second (row_of c.args.pool.now c.args.entry.now.0) (row_of c.args.pool.now c.args.entry.now.1)
    c.side_of-settled.result c.without.new.self c.args.up c.args.join.now.joined.voting.asked c.args.join.now.joined.joins.there c.requires.pair c.side_of-settled.ensures
    (todo_told (graph_of table) c.args.join.now.b c.args.x c.args.place.now.second c.args.place.now.free c.side_of-settled.result c.closed.result.now c.or_with.new.self
    (c.requires.place.free_is listed) (small_past table c.args.join.now.b c.len-blocks.ensures.numbered.order c.len-blocks.ensures.numbered.small (c.args.join.now.joined.voting.below c.args.join.now.b c.args.join.now.joined.joins.there))
    c.closed.ensures c.or_with.ensures c.without.new.self c.without.ensures)
    c.args.join.now.before.now x y at c.args.join.now.joined.joins c.args.join.now.joined.row sides votes
