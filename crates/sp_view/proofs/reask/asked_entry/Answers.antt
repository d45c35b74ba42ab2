use Rattle.std.proofs.Common.{◌≡◌, ◌≢◌, ◌∙◌, ◌<◌, ℕ, Bool, List, Some, arith, cond, eqb, get_or, inl, inr, sym, true}
use Rattle.std.specs.Prelude.{slice_get, pos, negsuc}
use Rattle.std.proofs.lemmas.Bool.{cases_eq}
use Rattle.sp_bits.specs.Places.{difference}
use Rattle.sp_dag.specs.Numbered.{IsPair, Numbered, graph_of, pairs_of}
use Rattle.sp_dag.proofs.Ranked.{pair_kind}
use Rattle.sp_model.specs.Graph.{Graph, has, in_past}
use Rattle.sp_model.specs.Joining.{Joins}
use Rattle.sp_model.specs.Loose.{minus}
use Rattle.sp_model.specs.Votes.{vote}
use Rattle.sp_rows.specs.Pool.{Pool}
use Rattle.sp_view.specs.Settled.{AreKept, AreOpen, AreSides, AreTold}
use Rattle.sp_view.specs.Steps.{AreAnew, IsOld}
use Rattle.sp_view.specs.Stored.{row_of}
use Rattle.sp_view.proofs.Held.{some_pair}
use Rattle.sp_view.proofs.Moves.{first_changes, second_changes, both_change, kept_id, moved_id}
use Rattle.sp_view.proofs.Risen.{one_told}
use Rattle.sp_view.proofs.Stepping.{second_waits, step_written, written_first}
use Rattle.sp_view.proofs.reask.asked_entry.Goals as goal

-- the rows of the larger set, where what is asked for that is told by the block's vote
sides_told : (table : Numbered) (b : ℕ) (before members : List ℕ) (pair : ℕ) (pool : Pool) (entry : ℕ × ℕ) (todo : List ℕ) (up : Bool) (ups downs : List ℕ) → Joins (graph_of table) b before members
    → IsOld table before members pair pool entry → AreAnew table members pair pool entry todo → ((z : ℕ) → has todo z ≡ true → in_past (graph_of table) z b ≡ true)
    → ((x y : ℕ) → slice_get (pairs_of table) pair ≡ Some (x, y) → vote (graph_of table) members b x y ≡ cond up (pos 1) (negsuc 0))
    → ((x y : ℕ) → slice_get (pairs_of table) pair ≡ Some (x, y) → AreTold (graph_of table) members x y (Some up) todo (row_of pool entry.0) (row_of pool entry.1)
    → AreOpen (graph_of table) members x y (has todo) × AreKept (graph_of table) members x y (has todo) (difference (row_of pool entry.0) todo) (difference (row_of pool entry.1) todo)
    → AreSides (graph_of table) members x y ups downs)
    → (x y : ℕ) → slice_get (pairs_of table) pair ≡ Some (x, y) → AreSides (graph_of table) members x y ups downs
sides_told table b before members pair pool entry todo up ups downs joins old anew below votes new x y at =
    let kind : IsPair table (x, y) = pair_kind table pair (x, y) at in
    let apart : x ≢ y = λ e. (let le : x < y = kind.order in omega arith) in
    new x y at
    (one_told (graph_of table) b before members x y joins apart (row_of pool entry.0) (row_of pool entry.1) todo below (old.sides x y at) (anew.opened x y at) up (votes x y at))
    (anew.opened x y at, anew.kept x y at)

pub written-plus-requires-clause-room : goal.written-plus-requires-clause-room
written-plus-requires-clause-room c = λ ne.
    let g : Graph = graph_of c.args.join.now.set.dag.now in
    let pair = get_or (pairs_of c.args.join.now.set.dag.now) c.args.pair (0, 0) in
    let at : slice_get (pairs_of c.args.join.now.set.dag.now) c.args.pair ≡ Some (pair.0, pair.1) = some_pair (pairs_of c.args.join.now.set.dag.now) c.args.pair c.requires.listed in
    let sides : AreSides g c.args.join.now.before.now pair.0 pair.1 (row_of c.args.pool.now c.args.entry.0) (row_of c.args.pool.now c.args.entry.1) = c.requires.rows.sides pair.0 pair.1 at in
    let new : AreSides g c.args.join.now.set.members.now pair.0 pair.1 c.rows_anew-new.result.plus c.rows_anew-new.result.minus =
    sides_told c.args.join.now.set.dag.now c.args.join.now.b c.args.join.now.before.now c.args.join.now.set.members.now c.args.pair c.args.pool.now c.args.entry c.args.todo.now c.args.up c.rows_anew-new.result.plus c.rows_anew-new.result.minus
    c.args.join.now.joined.joins c.requires.rows c.requires.anew c.requires.below c.requires.vote c.rows_anew-new.ensures pair.0 pair.1 at in
    omega (
      arith,
      c.requires.rows.room pair.0 pair.1 at,
      first_changes g c.args.join.now.before.now c.args.join.now.set.members.now pair.0 pair.1 c.args.join.now.joined.row c.args.join.now.joined.voting.asked.row (λ e. ne (new.plus_is ∙ sym e ∙ sym sides.plus_is)),
    )

pub written-minus-requires-clause-room : goal.written-minus-requires-clause-room
written-minus-requires-clause-room c = λ ne.
    let g : Graph = graph_of c.args.join.now.set.dag.now in
    let pair = get_or (pairs_of c.args.join.now.set.dag.now) c.args.pair (0, 0) in
    let at : slice_get (pairs_of c.args.join.now.set.dag.now) c.args.pair ≡ Some (pair.0, pair.1) = some_pair (pairs_of c.args.join.now.set.dag.now) c.args.pair c.requires.listed in
    let sides : AreSides g c.args.join.now.before.now pair.0 pair.1 (row_of c.args.pool.now c.args.entry.0) (row_of c.args.pool.now c.args.entry.1) = c.requires.rows.sides pair.0 pair.1 at in
    let new : AreSides g c.args.join.now.set.members.now pair.0 pair.1 c.rows_anew-new.result.plus c.rows_anew-new.result.minus =
    sides_told c.args.join.now.set.dag.now c.args.join.now.b c.args.join.now.before.now c.args.join.now.set.members.now c.args.pair c.args.pool.now c.args.entry c.args.todo.now c.args.up c.rows_anew-new.result.plus c.rows_anew-new.result.minus
    c.args.join.now.joined.joins c.requires.rows c.requires.anew c.requires.below c.requires.vote c.rows_anew-new.ensures pair.0 pair.1 at in
    let second = second_waits c.args.pool.now c.written-plus.new.pool c.args.entry.0 c.args.entry.1 c.written-plus.result c.written-plus.ensures.written c.requires.rows.counted in
    let other : minus g c.args.join.now.before.now pair.0 pair.1 ≢ minus g c.args.join.now.set.members.now pair.0 pair.1 = λ e. ne (new.minus_is ∙ sym e ∙ sym sides.minus_is ∙ sym second) in
    elim (cases_eq c.written-plus.result c.args.entry.0) [
      | inl same ↦ omega (
        arith,
        c.requires.rows.room pair.0 pair.1 at,
        c.written-plus.ensures.written.spare,
        kept_id same,
        second_changes g c.args.join.now.before.now c.args.join.now.set.members.now pair.0 pair.1 c.args.join.now.joined.row c.args.join.now.joined.voting.asked.row other,
      )
      | inr moved ↦ omega (
        arith,
        c.requires.rows.room pair.0 pair.1 at,
        c.written-plus.ensures.written.spare,
        moved_id (eqb c.written-plus.result c.args.entry.0),
        both_change g c.args.join.now.before.now c.args.join.now.set.members.now pair.0 pair.1 c.args.join.now.joined.row c.args.join.now.joined.voting.asked.row
            (λ e. moved (c.written-plus.ensures.kept (new.plus_is ∙ sym e ∙ sym sides.plus_is))) other,
      )
    ]

pub returns-clause-rows : goal.returns-clause-rows
returns-clause-rows c =
    let first = written_first c.args.pool.now c.written-plus.new.pool c.written-minus.new.pool c.args.entry.0 c.args.entry.1 c.written-plus.result c.written-minus.result c.written-plus.ensures.written
    c.written-minus.ensures.written c.requires.rows.counted in
    let second = second_waits c.args.pool.now c.written-plus.new.pool c.args.entry.0 c.args.entry.1 c.written-plus.result c.written-plus.ensures.written c.requires.rows.counted in
    record {
      sides = λ x y at.
          let new : AreSides (graph_of c.args.join.now.set.dag.now) c.args.join.now.set.members.now x y c.rows_anew-new.result.plus c.rows_anew-new.result.minus =
          sides_told c.args.join.now.set.dag.now c.args.join.now.b c.args.join.now.before.now c.args.join.now.set.members.now c.args.pair c.args.pool.now c.args.entry c.args.todo.now c.args.up c.rows_anew-new.result.plus c.rows_anew-new.result.minus
          c.args.join.now.joined.joins c.requires.rows c.requires.anew c.requires.below c.requires.vote c.rows_anew-new.ensures x y at in
          record { plus_is = first ∙ c.written-plus.ensures.row ∙ new.plus_is; minus_is = c.written-minus.ensures.row ∙ new.minus_is };
      kept = λ x y at.
          let sides : AreSides (graph_of c.args.join.now.set.dag.now) c.args.join.now.before.now x y (row_of c.args.pool.now c.args.entry.0) (row_of c.args.pool.now c.args.entry.1) = c.requires.rows.sides x y at in
          let new : AreSides (graph_of c.args.join.now.set.dag.now) c.args.join.now.set.members.now x y c.rows_anew-new.result.plus c.rows_anew-new.result.minus =
          sides_told c.args.join.now.set.dag.now c.args.join.now.b c.args.join.now.before.now c.args.join.now.set.members.now c.args.pair c.args.pool.now c.args.entry c.args.todo.now c.args.up c.rows_anew-new.result.plus c.rows_anew-new.result.minus
          c.args.join.now.joined.joins c.requires.rows c.requires.anew c.requires.below c.requires.vote c.rows_anew-new.ensures x y at in
          (λ e. c.written-plus.ensures.kept (new.plus_is ∙ sym e ∙ sym sides.plus_is), λ e. c.written-minus.ensures.kept (new.minus_is ∙ sym e ∙ sym sides.minus_is ∙ sym second));
    }

pub returns-clause-step : goal.returns-clause-step
returns-clause-step c =
    step_written c.args.pool.now c.written-plus.new.pool c.written-minus.new.pool c.args.entry.0 c.args.entry.1 c.written-plus.result c.written-minus.result c.written-plus.ensures.written
    c.written-minus.ensures.written c.requires.rows.counted
