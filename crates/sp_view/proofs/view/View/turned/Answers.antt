use Rattle.std.proofs.Common.{◌≡◌, ◌∙◌, FitsSigned, ap, arith, eqb, of_z, refl, rules, sym, to_z, true}
use Rattle.std.specs.Prelude.{pos, ◌-ℤ◌, is_some}
use Rattle.std.proofs.lemmas.Bool.{false≢true}
use Rattle.std.proofs.lemmas.Int.{ints, to_z-of_z}
use Rattle.std.specs.Int.{w8, w32}
use Rattle.sp_dag.specs.Numbered.{graph_of}
use Rattle.sp_model.specs.Votes.{sgn, virt}
use Rattle.sp_view.specs.Sums.{sum_of}
use Rattle.sp_view.proofs.Changes.{by_bits, changed_between}
use Rattle.sp_view.proofs.Gains.{same_votes, view_gains, virt_sum}
use Rattle.sp_view.proofs.view.View.turned.Goals as goal

pub returns-then-gain-eq0 : goal.returns-then-gain-eq0
returns-then-gain-eq0 c = λ table x y older grown same is before holds added older_added at.
    let f : FitsSigned w32 c.gain-gain.result = search rules in
    let gain : c.gain-gain.result ≡ pos 0 = sym (to_z-of_z w32 _ f) ∙ ap (to_z w32) c.if-gain-eq0.true in
    let votes : virt (graph_of table) older.members x y ≡ virt (graph_of table) c.args.self.now.members x y =
    same_votes (graph_of table) older.members c.args.self.now.members x y c.gain-gain.result gain
    (view_gains table older c.args.self.now c.args.pool.now c.args.frozen.now c.args.joined.now c.args.pair x y c.gain-gain.result (c.gain-gain.ensures ∙ rw (c.plus.ensures, c.minus.ensures) refl) grown same c.requires.inside c.requires.listed is before holds added older_added at) in
    changed_between table older c.args.self.now c.args.pool.now c.args.pair x y _ _ true
    is before at c.requires.inside (ap is_some same ∙ c.requires.inside) refl refl (λ _. votes, λ e. absurd (false≢true (sym e)))

pub returns : goal.returns
returns c = λ table x y older grown same is before holds added older_added at.
    let f : FitsSigned w8 c.side.result = search rules in
    let f' : FitsSigned w8 c.side-2.result = search rules in
    let fs : FitsSigned w32 c.sum-sum.result = search rules in
    let fg : FitsSigned w32 c.gain-gain.result = search rules in
    let less : c.sum-sum.result ≡ to_z w32 (of_z w32 c.sum-sum.result) -ℤ pos 0 = omega (arith, ints, to_z-of_z w32 _ fs) in
    let own : sum_of (graph_of table) c.args.self.now.members x y ≡ c.sum-sum.result = sym (c.sum-sum.ensures table x y is holds added at) in
    let its : sum_of (graph_of table) older.members x y ≡ to_z w32 (of_z w32 c.sum-sum.result) -ℤ to_z w32 (of_z w32 c.gain-gain.result) =
    view_gains table older c.args.self.now c.args.pool.now c.args.frozen.now c.args.joined.now c.args.pair x y c.gain-gain.result (c.gain-gain.ensures ∙ rw (c.plus.ensures, c.minus.ensures) refl) grown same c.requires.inside c.requires.listed is before holds added older_added at
    ∙ rw (own, to_z-of_z w32 _ fs, to_z-of_z w32 _ fg) refl in
    changed_between table older c.args.self.now c.args.pool.now c.args.pair x y c.side.result c.side-2.result (eqb (of_z w8 c.side.result) (of_z w8 c.side-2.result))
    is before at c.requires.inside (ap is_some same ∙ c.requires.inside)
    (c.side.ensures ∙ ap sgn (sym (own ∙ less)) ∙ sym (virt_sum (graph_of table) c.args.self.now.members x y))
    (c.side-2.ensures ∙ ap sgn (sym its) ∙ sym (virt_sum (graph_of table) older.members x y))
    (by_bits c.side.result c.side-2.result (eqb (of_z w8 c.side.result) (of_z w8 c.side-2.result)) refl (to_z-of_z w8 _ f) (to_z-of_z w8 _ f'))
