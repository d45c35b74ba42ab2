use Rattle.std.proofs.Common.{FitsSigned, rules, ◌≡◌, ◌∙◌, ◌<◌, ◌+◌, ℕ, arith, length, subst}
use Rattle.std.proofs.lemmas.List.Elements.{All-set}
use Rattle.sp_bits.specs.Places.{IsRow}
use Rattle.sp_dag.specs.Numbered.{Numbered, graph_of, pairs_of}
use Rattle.sp_model.specs.Graph.{keys, past}
use Rattle.sp_model.specs.Votes.{vote}
use Rattle.sp_frozen.specs.Runs.{AreCastTo}
use Rattle.sp_frozen.specs.Voters.{AreFrozenBelow}
use Rattle.std.proofs.lemmas.Int.{to_z-of_z}
use Rattle.std.specs.Int.{w8}
use Rattle.sp_frozen.proofs.Casting.{each_step, rows_read}
use Rattle.sp_frozen.proofs.LastVotes.{cast_sides}
use Rattle.sp_frozen.proofs.Listed.{listed, next_listed, vote_read}
use Rattle.sp_frozen.proofs.cast.cast_run.Goals as goal

pub next_vote-vote-requires-clause-listed : goal.next_vote-vote-requires-clause-listed
next_vote-vote-requires-clause-listed c = λ both.
    let table : Numbered = c.args.dag.now in
    (listed (graph_of table) (past (graph_of table) c.args.b) (pairs_of table) c.args.votes.now c.pairs.i c.pairs.cursor c.pair-x.result.0 c.pair-x.result.1 c.pair-x.ensures.pair c.pairs.invariant.rest
    (rw c.past-past.ensures at both)).1

pub pairs-preserved : goal.pairs-preserved
pairs-preserved c =
    let table : Numbered = c.args.dag.now in
    let f : FitsSigned w8 c.next_vote-vote.result.0 = search rules in
    let small : c.args.b < 512 = omega (arith, c.len-blocks.ensures.numbered.small, c.requires.last) in
    let inside : c.pairs.i < length c.pairs.pluses.items = omega (arith, c.pairs.pluses.ok.0) in
    let y_in : c.pair-x.result.1 < c.args.b = c.requires.below c.pairs.i c.pair-x.result.0 c.pair-x.result.1 c.pair-x.ensures.pair (omega (arith, c.pairs.invariant.pluses_long, c.args.pluses.now.ok.0)) in
    let x_in : c.pair-x.result.0 < c.args.b = omega (arith, c.pair-x.ensures.kind.order) in
    let v : c.next_vote-vote.result.0 ≡ vote (graph_of table) (keys (graph_of table)) c.args.b c.pair-x.result.0 c.pair-x.result.1 =
    vote_read table c.args.b c.pairs.i c.pairs.cursor c.pair-x.result.0 c.pair-x.result.1 c.args.votes.now c.next_vote-vote.result.0 c.len-blocks.ensures.numbered.order c.requires.last x_in y_in
    c.pair-x.ensures.pair c.pairs.invariant.rest (rw c.past-past.ensures at c.next_vote-vote.ensures.vote) in
    let long : length c.pairs.minuses.items ≡ length c.pairs.pluses.items = omega (arith, c.requires.long, c.pairs.invariant.pluses_long, c.pairs.invariant.minuses_long, c.pairs.pluses.ok.0, c.pairs.minuses.ok.0) in
    let before : AreFrozenBelow (graph_of table) c.args.b c.pair-x.result.0 c.pair-x.result.1 c.index_mut.result.now c.index_mut-in-pairs.result.now =
    rows_read (graph_of table) (pairs_of table) c.args.b c.pairs.i c.pair-x.result.0 c.pair-x.result.1 c.pairs.pluses.items c.pairs.minuses.items c.index_mut.result.now c.index_mut-in-pairs.result.now
    inside long c.pair-x.ensures.pair c.index_mut.ensures.value c.index_mut-in-pairs.ensures.value c.pairs.invariant.each in
    let now : AreFrozenBelow (graph_of table) (c.args.b + 1) c.pair-x.result.0 c.pair-x.result.1 c.cast.new.plus c.cast.new.minus =
    cast_sides table c.args.b c.len-blocks.ensures.numbered.order c.requires.last c.pair-x.result.0 c.pair-x.result.1 _ _ _ _ _ small x_in y_in before (to_z-of_z w8 _ f ∙ v) c.cast.ensures.plus c.cast.ensures.minus in
    record {
      rest = next_listed (graph_of table) (past (graph_of table) c.args.b) (pairs_of table) c.args.votes.now c.pairs.i c.pairs.cursor c.pair-x.result.0 c.pair-x.result.1 c.pair-x.ensures.pair c.pairs.invariant.rest
          c.next_vote-vote.result.1 (rw c.past-past.ensures at c.next_vote-vote.ensures.cursor);
      pluses_long = c.pairs.invariant.pluses_long;
      minuses_long = c.pairs.invariant.minuses_long;
      pluses_room = c.pairs.invariant.pluses_room;
      minuses_room = c.pairs.invariant.minuses_room;
      plus_rows = λ all. All-set IsRow c.pairs.pluses.items c.pairs.i c.cast.new.plus c.cast.ensures.rows.0 (c.pairs.invariant.plus_rows all);
      minus_rows = λ all. All-set IsRow c.pairs.minuses.items c.pairs.i c.cast.new.minus c.cast.ensures.rows.1 (c.pairs.invariant.minus_rows all);
      each = each_step (graph_of table) (pairs_of table) c.args.b c.pairs.i c.pair-x.result.0 c.pair-x.result.1 c.pairs.pluses.items c.pairs.minuses.items c.cast.new.plus c.cast.new.minus
          inside long c.pair-x.ensures.pair now c.pairs.invariant.each;
    }

pub returns-clause-each : goal.returns-clause-each
returns-clause-each c =
    let all : c.pairs.i ≡ c.args.stop = omega (arith, c.pairs-test.false, c.pairs.auto.i-end c.requires.order) in
    subst (λ (i : ℕ). AreCastTo c.args.dag.now c.args.b i c.pairs.pluses.items c.pairs.minuses.items) all c.pairs.invariant.each
