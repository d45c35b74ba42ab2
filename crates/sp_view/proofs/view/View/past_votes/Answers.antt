use Rattle.std.proofs.Common.{◌≡◌, ◌∙◌, ◌<◌, ◌+◌, ◌++◌, FitsSigned, ℕ, List, Some, ap, arith, drop, get_or, length, rules, subst, sym}
use Rattle.std.specs.Prelude.{ℤ, slice_get, is_some}
use Rattle.std.proofs.lemmas.Int.{to_z-of_z}
use Rattle.std.specs.Int.{w8}
use Rattle.sp_dag.specs.Numbered.{graph_of, pairs_of}
use Rattle.sp_frozen.specs.PastVotes.{signs_from, signs_of}
use Rattle.sp_view.specs.Views.{Viewed}
use Rattle.sp_view.proofs.Votes.{signs_end, signs_more, signs_skip}
use Rattle.sp_view.proofs.Held.{some_pair}
use Rattle.sp_view.proofs.view.View.past_votes.Goals as goal
use Rattle.sp_view.proofs.view.View.past_votes.Goals.{then-is_some+in_ok-push, else-is_some}

pub pairs-preserved : goal.pairs-preserved
pairs-preserved c =
    let long : length c.self.inside.entries.items ≡ length c.args.self.now.entries = ap (λ (v : Viewed). length v.entries) c.self.view_is in
    elim c.if-is_some.branch [
      | then-is_some+in_ok-push w ↦ (let f : FitsSigned w8 w.virtual_vote.result = search rules in
          record {
            signs = λ table is holds added.
                let listed : c.pairs.i < length (pairs_of table) = omega (arith, is.few, long, c.len-i-end.ensures, c.self.inside.entries.ok.0) in
                let pair = get_or (pairs_of table) c.pairs.i (0, 0) in
                let at : slice_get (pairs_of table) c.pairs.i ≡ Some (pair.0, pair.1) = some_pair (pairs_of table) c.pairs.i listed in
                subst (λ (l : List (ℕ × ℤ)). signs_of table c.args.self.now.members ≡ l ++ signs_from (graph_of table) c.args.self.now.members (c.pairs.i + 1) (drop (c.pairs.i + 1) (pairs_of table)))
                (sym (ap (λ v. v.items) w.signs-is ∙ w.in_ok-push.ensures.items))
                (signs_more table c.args.self.now c.args.pool.now c.pairs.i pair.0 pair.1 c.pairs.signs.items _ is at
                (ap is_some (sym c.entry.ensures) ∙ sym c.is_some.ensures ∙ w.if-is_some.true)
                (to_z-of_z w8 _ f ∙ w.virtual_vote.ensures table pair.0 pair.1 is holds added at)
                (c.pairs.invariant.signs table is holds added));
          })
      | else-is_some w ↦ record {
        signs = λ table is holds added.
            let listed : c.pairs.i < length (pairs_of table) = omega (arith, is.few, long, c.len-i-end.ensures, c.self.inside.entries.ok.0) in
            let pair = get_or (pairs_of table) c.pairs.i (0, 0) in
            let at : slice_get (pairs_of table) c.pairs.i ≡ Some (pair.0, pair.1) = some_pair (pairs_of table) c.pairs.i listed in
            subst (λ (l : List (ℕ × ℤ)). signs_of table c.args.self.now.members ≡ l ++ signs_from (graph_of table) c.args.self.now.members (c.pairs.i + 1) (drop (c.pairs.i + 1) (pairs_of table)))
            (sym (ap (λ v. v.items) w.signs-is))
            (signs_skip table c.args.self.now c.args.pool.now c.pairs.i pair.0 pair.1 c.pairs.signs.items is at
            (ap is_some (sym c.entry.ensures) ∙ sym c.is_some.ensures ∙ w.if-is_some.false)
            (c.pairs.invariant.signs table is holds added));
      }
    ]

pub returns : goal.returns
returns c = λ table is holds added.
    let long : length c.self.inside.entries.items ≡ length c.args.self.now.entries = ap (λ (v : Viewed). length v.entries) c.self.view_is in
    c.of.ensures
    ∙ signs_end table c.args.self.now c.args.pool.now c.pairs.i c.pairs.signs.items is (omega (arith, long, c.len-i-end.ensures, c.self.inside.entries.ok.0)) (c.pairs.invariant.signs table is holds added)
