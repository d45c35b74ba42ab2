use Rattle.std.proofs.Common.{◌≡◌, ◌≢◌, ◌∙◌, Bool, FitsSigned, List, ℕ, Some, ap, arith, cond, eqb, get_or, inl, inr, rules, sym}
use Rattle.std.specs.Prelude.{slice_get}
use Rattle.std.specs.Int.{w32}
use Rattle.std.proofs.lemmas.Bool.{cases_eq}
use Rattle.std.proofs.lemmas.Int.{to_z-of_z}
use Rattle.sp_dag.specs.Numbered.{graph_of, pairs_of}
use Rattle.sp_model.specs.Graph.{Graph, has}
use Rattle.sp_model.specs.Loose.{is_minus, minus}
use Rattle.sp_view.specs.Settled.{AreOpen, AreSides}
use Rattle.sp_view.specs.Stored.{row_of}
use Rattle.sp_view.proofs.Genesis.{rooted_sides}
use Rattle.sp_view.proofs.Held.{some_pair}
use Rattle.sp_view.proofs.Moves.{first_changes, second_changes, both_change, kept_id, moved_id}
use Rattle.sp_view.proofs.Turning.{minus_is, minus_turns, minus_was, plus_is, plus_turns, plus_was}
use Rattle.sp_view.proofs.Stepping.{second_waits, step_written, written_first}
use Rattle.sp_view.proofs.genesis_turn.turned_entry.Goals as goal

pub turned_row-plus-requires-clause-was : goal.turned_row-plus-requires-clause-was
turned_row-plus-requires-clause-was c =
    let g : Graph = graph_of c.args.join.now.set.dag.now in
    let pair = get_or (pairs_of c.args.join.now.set.dag.now) c.args.pair (0, 0) in
    let at : slice_get (pairs_of c.args.join.now.set.dag.now) c.args.pair ≡ Some (pair.0, pair.1) = some_pair (pairs_of c.args.join.now.set.dag.now) c.args.pair c.requires.listed in
    let f : FitsSigned w32 c.args.turn.now.before = search rules in
    let f' : FitsSigned w32 c.args.turn.now.after = search rules in
    let sides : AreSides g c.args.join.now.before.now pair.0 pair.1 (row_of c.args.pool.now c.args.entry.0) (row_of c.args.pool.now c.args.entry.1) = c.requires.rows.sides pair.0 pair.1 at in
    let opened : AreOpen g c.args.join.now.set.members.now pair.0 pair.1 (has c.args.todo.now) = c.requires.anew.opened pair.0 pair.1 at in
    plus_was g c.args.join.now.before.now c.args.join.now.set.members.now pair.0 pair.1 (row_of c.args.pool.now c.args.entry.0) (row_of c.args.pool.now c.args.entry.1) c.args.turn.now.before c.args.turn.now.after _ _
    c.args.join.now.joined.joins.down c.args.join.now.joined.joins.more_down sides c.requires.root (opened.member 0 (c.requires.lone.only 0)) (opened.loose 0 (c.requires.lone.only 0)) (c.requires.votes pair.0 pair.1 at)
    (to_z-of_z w32 _ f) (to_z-of_z w32 _ f')

pub turned_row-plus-requires-clause-room : goal.turned_row-plus-requires-clause-room
turned_row-plus-requires-clause-room c = λ ne.
    let g : Graph = graph_of c.args.join.now.set.dag.now in
    let pair = get_or (pairs_of c.args.join.now.set.dag.now) c.args.pair (0, 0) in
    let at : slice_get (pairs_of c.args.join.now.set.dag.now) c.args.pair ≡ Some (pair.0, pair.1) = some_pair (pairs_of c.args.join.now.set.dag.now) c.args.pair c.requires.listed in
    let f : FitsSigned w32 c.args.turn.now.before = search rules in
    let f' : FitsSigned w32 c.args.turn.now.after = search rules in
    let sides : AreSides g c.args.join.now.before.now pair.0 pair.1 (row_of c.args.pool.now c.args.entry.0) (row_of c.args.pool.now c.args.entry.1) = c.requires.rows.sides pair.0 pair.1 at in
    let opened : AreOpen g c.args.join.now.set.members.now pair.0 pair.1 (has c.args.todo.now) = c.requires.anew.opened pair.0 pair.1 at in
    omega (
      arith,
      c.requires.rows.room pair.0 pair.1 at,
      first_changes g c.args.join.now.before.now c.args.join.now.set.members.now pair.0 pair.1 c.args.join.now.joined.row c.args.join.now.joined.voting.asked.row
          (plus_turns g c.args.join.now.before.now c.args.join.now.set.members.now pair.0 pair.1 (row_of c.args.pool.now c.args.entry.0) (row_of c.args.pool.now c.args.entry.1) c.args.turn.now.before c.args.turn.now.after _ _
          c.args.join.now.joined.joins.down c.args.join.now.joined.joins.more_down sides c.requires.root (opened.member 0 (c.requires.lone.only 0)) (opened.loose 0 (c.requires.lone.only 0)) (c.requires.votes pair.0 pair.1 at)
          (to_z-of_z w32 _ f) (to_z-of_z w32 _ f') ne),
    )

pub turned_row-minus-requires-clause-was : goal.turned_row-minus-requires-clause-was
turned_row-minus-requires-clause-was c =
    let g : Graph = graph_of c.args.join.now.set.dag.now in
    let pair = get_or (pairs_of c.args.join.now.set.dag.now) c.args.pair (0, 0) in
    let at : slice_get (pairs_of c.args.join.now.set.dag.now) c.args.pair ≡ Some (pair.0, pair.1) = some_pair (pairs_of c.args.join.now.set.dag.now) c.args.pair c.requires.listed in
    let f : FitsSigned w32 c.args.turn.now.before = search rules in
    let f' : FitsSigned w32 c.args.turn.now.after = search rules in
    let sides : AreSides g c.args.join.now.before.now pair.0 pair.1 (row_of c.args.pool.now c.args.entry.0) (row_of c.args.pool.now c.args.entry.1) = c.requires.rows.sides pair.0 pair.1 at in
    let opened : AreOpen g c.args.join.now.set.members.now pair.0 pair.1 (has c.args.todo.now) = c.requires.anew.opened pair.0 pair.1 at in
    let second = second_waits c.args.pool.now c.turned_row-plus.new.pool c.args.entry.0 c.args.entry.1 c.turned_row-plus.result c.turned_row-plus.ensures.written c.requires.rows.counted in
    minus_was g c.args.join.now.before.now c.args.join.now.set.members.now pair.0 pair.1 (row_of c.args.pool.now c.args.entry.0) (row_of c.args.pool.now c.args.entry.1) c.args.turn.now.before c.args.turn.now.after _ _
    c.args.join.now.joined.joins.down c.args.join.now.joined.joins.more_down sides c.requires.root (opened.member 0 (c.requires.lone.only 0)) (opened.loose 0 (c.requires.lone.only 0)) (c.requires.votes pair.0 pair.1 at)
    (to_z-of_z w32 _ f) (to_z-of_z w32 _ f')
    ∙ ap (λ (l : List ℕ). has l 0) (sym second)

pub turned_row-minus-requires-clause-room : goal.turned_row-minus-requires-clause-room
turned_row-minus-requires-clause-room c = λ ne.
    let g : Graph = graph_of c.args.join.now.set.dag.now in
    let pair = get_or (pairs_of c.args.join.now.set.dag.now) c.args.pair (0, 0) in
    let at : slice_get (pairs_of c.args.join.now.set.dag.now) c.args.pair ≡ Some (pair.0, pair.1) = some_pair (pairs_of c.args.join.now.set.dag.now) c.args.pair c.requires.listed in
    let f : FitsSigned w32 c.args.turn.now.before = search rules in
    let f' : FitsSigned w32 c.args.turn.now.after = search rules in
    let sides : AreSides g c.args.join.now.before.now pair.0 pair.1 (row_of c.args.pool.now c.args.entry.0) (row_of c.args.pool.now c.args.entry.1) = c.requires.rows.sides pair.0 pair.1 at in
    let opened : AreOpen g c.args.join.now.set.members.now pair.0 pair.1 (has c.args.todo.now) = c.requires.anew.opened pair.0 pair.1 at in
    let other : minus g c.args.join.now.before.now pair.0 pair.1 ≢ minus g c.args.join.now.set.members.now pair.0 pair.1 =
    minus_turns g c.args.join.now.before.now c.args.join.now.set.members.now pair.0 pair.1 (row_of c.args.pool.now c.args.entry.0) (row_of c.args.pool.now c.args.entry.1) c.args.turn.now.before c.args.turn.now.after _ _
    c.args.join.now.joined.joins.down c.args.join.now.joined.joins.more_down sides c.requires.root (opened.member 0 (c.requires.lone.only 0)) (opened.loose 0 (c.requires.lone.only 0)) (c.requires.votes pair.0 pair.1 at)
    (to_z-of_z w32 _ f) (to_z-of_z w32 _ f') ne in
    elim (cases_eq c.turned_row-plus.result c.args.entry.0) [
      | inl same ↦ omega (
        arith,
        c.requires.rows.room pair.0 pair.1 at,
        c.turned_row-plus.ensures.written.spare,
        kept_id same,
        second_changes g c.args.join.now.before.now c.args.join.now.set.members.now pair.0 pair.1 c.args.join.now.joined.row c.args.join.now.joined.voting.asked.row other,
      )
      | inr moved ↦ omega (
        arith,
        c.requires.rows.room pair.0 pair.1 at,
        c.turned_row-plus.ensures.written.spare,
        moved_id (eqb c.turned_row-plus.result c.args.entry.0),
        both_change g c.args.join.now.before.now c.args.join.now.set.members.now pair.0 pair.1 c.args.join.now.joined.row c.args.join.now.joined.voting.asked.row
            (plus_turns g c.args.join.now.before.now c.args.join.now.set.members.now pair.0 pair.1 (row_of c.args.pool.now c.args.entry.0) (row_of c.args.pool.now c.args.entry.1) c.args.turn.now.before c.args.turn.now.after _ _
            c.args.join.now.joined.joins.down c.args.join.now.joined.joins.more_down sides c.requires.root (opened.member 0 (c.requires.lone.only 0)) (opened.loose 0 (c.requires.lone.only 0)) (c.requires.votes pair.0 pair.1 at)
            (to_z-of_z w32 _ f) (to_z-of_z w32 _ f') (λ e. moved (c.turned_row-plus.ensures.same e))) other,
      )
    ]

-- the rows of the larger set
new_sides : (c : goal.After-turned_row-minus) → (x y : ℕ) → slice_get (pairs_of c.args.join.now.set.dag.now) c.args.pair ≡ Some (x, y)
    → AreSides (graph_of c.args.join.now.set.dag.now) c.args.join.now.set.members.now x y (row_of c.turned_row-plus.new.pool c.turned_row-plus.result) (row_of c.turned_row-minus.new.pool c.turned_row-minus.result)
new_sides c x y at =
    let g : Graph = graph_of c.args.join.now.set.dag.now in
    let f : FitsSigned w32 c.args.turn.now.before = search rules in
    let f' : FitsSigned w32 c.args.turn.now.after = search rules in
    let sides : AreSides g c.args.join.now.before.now x y (row_of c.args.pool.now c.args.entry.0) (row_of c.args.pool.now c.args.entry.1) = c.requires.rows.sides x y at in
    let opened : AreOpen g c.args.join.now.set.members.now x y (has c.args.todo.now) = c.requires.anew.opened x y at in
    let second = second_waits c.args.pool.now c.turned_row-plus.new.pool c.args.entry.0 c.args.entry.1 c.turned_row-plus.result c.turned_row-plus.ensures.written c.requires.rows.counted in
    rooted_sides g c.args.join.now.set.members.now x y (row_of c.args.pool.now c.args.entry.0) (row_of c.args.pool.now c.args.entry.1) c.args.todo.now c.args.turn.now.after c.args.join.now.joined.voting.asked
    opened (c.requires.anew.kept x y at) c.requires.lone (c.requires.votes x y at).1
    (row_of c.turned_row-plus.new.pool c.turned_row-plus.result) (row_of c.turned_row-minus.new.pool c.turned_row-minus.result) c.turned_row-plus.ensures.row c.turned_row-minus.ensures.row
    (λ z. c.turned_row-plus.ensures.places z ∙ ap (λ (b : Bool). cond (eqb z 0) b (has (row_of c.args.pool.now c.args.entry.0) z))
    (plus_is g c.args.join.now.before.now c.args.join.now.set.members.now x y (row_of c.args.pool.now c.args.entry.0) (row_of c.args.pool.now c.args.entry.1) c.args.turn.now.before c.args.turn.now.after _ _
    c.args.join.now.joined.joins.down c.args.join.now.joined.joins.more_down sides c.requires.root (opened.member 0 (c.requires.lone.only 0)) (opened.loose 0 (c.requires.lone.only 0)) (c.requires.votes x y at)
    (to_z-of_z w32 _ f) (to_z-of_z w32 _ f')))
    (λ z. c.turned_row-minus.ensures.places z ∙ ap (λ (b : Bool). cond (eqb z 0) b (has (row_of c.turned_row-plus.new.pool c.args.entry.1) z))
    (minus_is g c.args.join.now.before.now c.args.join.now.set.members.now x y (row_of c.args.pool.now c.args.entry.0) (row_of c.args.pool.now c.args.entry.1) c.args.turn.now.before c.args.turn.now.after _ _
    c.args.join.now.joined.joins.down c.args.join.now.joined.joins.more_down sides c.requires.root (opened.member 0 (c.requires.lone.only 0)) (opened.loose 0 (c.requires.lone.only 0)) (c.requires.votes x y at)
    (to_z-of_z w32 _ f) (to_z-of_z w32 _ f'))
    ∙ ap (λ (l : List ℕ). cond (eqb z 0) (is_minus c.args.turn.now.after) (has l z)) second)

pub returns-clause-rows : goal.returns-clause-rows
returns-clause-rows c =
    let stays = written_first c.args.pool.now c.turned_row-plus.new.pool c.turned_row-minus.new.pool c.args.entry.0 c.args.entry.1 c.turned_row-plus.result c.turned_row-minus.result c.turned_row-plus.ensures.written
    c.turned_row-minus.ensures.written c.requires.rows.counted in
    let second = second_waits c.args.pool.now c.turned_row-plus.new.pool c.args.entry.0 c.args.entry.1 c.turned_row-plus.result c.turned_row-plus.ensures.written c.requires.rows.counted in
    record {
      sides = λ x y at. record { plus_is = stays ∙ (new_sides c x y at).plus_is; minus_is = (new_sides c x y at).minus_is };
      kept = λ x y at.
          let sides : AreSides (graph_of c.args.join.now.set.dag.now) c.args.join.now.before.now x y (row_of c.args.pool.now c.args.entry.0) (row_of c.args.pool.now c.args.entry.1) = c.requires.rows.sides x y at in
          (λ e. c.turned_row-plus.ensures.kept ((new_sides c x y at).plus_is ∙ sym e ∙ sym sides.plus_is), λ e. c.turned_row-minus.ensures.kept ((new_sides c x y at).minus_is ∙ sym e ∙ sym sides.minus_is ∙ sym second));
    }

pub returns-clause-step : goal.returns-clause-step
returns-clause-step c =
    step_written c.args.pool.now c.turned_row-plus.new.pool c.turned_row-minus.new.pool c.args.entry.0 c.args.entry.1 c.turned_row-plus.result c.turned_row-minus.result c.turned_row-plus.ensures.written
    c.turned_row-minus.ensures.written c.requires.rows.counted
